use Rattle.cut_model.proofs.FrameSteps.{view_in_order}
use Rattle.cut_model.proofs.frames.views_are_in_order.Goals as goal

pub returns : goal.returns
returns c = view_in_order
