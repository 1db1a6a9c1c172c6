use Rattle.cut_model.proofs.FrameSteps.{sweep_leaves_slot}
use Rattle.cut_model.proofs.frames.a_sweep_leaves_other_slots.Goals as goal

pub returns : goal.returns
returns c = sweep_leaves_slot
