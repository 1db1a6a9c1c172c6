use Rattle.cut_model.proofs.FrameSteps.{other_view_stays}
use Rattle.cut_model.proofs.frames.a_commit_leaves_other_views.Goals as goal

pub returns : goal.returns
returns c = other_view_stays
