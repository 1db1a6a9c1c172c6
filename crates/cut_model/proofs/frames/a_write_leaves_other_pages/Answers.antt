use Rattle.cut_model.proofs.FrameSteps.{write_leaves_page}
use Rattle.cut_model.proofs.frames.a_write_leaves_other_pages.Goals as goal

pub returns : goal.returns
returns c = write_leaves_page
