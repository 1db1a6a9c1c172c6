use Rattle.cut_model.proofs.FrameSteps.{new_leaves_slot}
use Rattle.cut_model.proofs.frames.a_new_object_leaves_other_slots.Goals as goal

pub returns : goal.returns
returns c = new_leaves_slot
