use Rattle.cut_model.proofs.FrameSteps.{write_changes_one_slot}
use Rattle.cut_model.proofs.frames.a_write_changes_one_slot.Goals as goal

pub returns : goal.returns
returns c = write_changes_one_slot
