use Rattle.cut_model.proofs.Phases.{doomed_sweep_is_allowed}
use Rattle.cut_model.proofs.collection.doomed_slots_may_be_freed.Goals as goal

pub returns : goal.returns
returns c = doomed_sweep_is_allowed
