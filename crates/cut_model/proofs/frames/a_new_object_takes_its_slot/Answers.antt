use Rattle.cut_model.proofs.FrameSteps.{new_takes_slot}
use Rattle.cut_model.proofs.frames.a_new_object_takes_its_slot.Goals as goal

pub returns : goal.returns
returns c = new_takes_slot
