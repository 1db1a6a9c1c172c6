use Rattle.cut_model.proofs.FrameSteps.{sweep_frees_its_slot}
use Rattle.cut_model.proofs.frames.a_sweep_frees_its_slots.Goals as goal

pub returns : goal.returns
returns c = sweep_frees_its_slot
