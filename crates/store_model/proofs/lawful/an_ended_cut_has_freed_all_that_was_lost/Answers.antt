use Rattle.store_model.proofs.Lawfulness.{ended_has_freed}
use Rattle.store_model.proofs.lawful.an_ended_cut_has_freed_all_that_was_lost.Goals as goal

pub returns : goal.returns
returns c = λ w cut note name lawful is may lost. ended_has_freed w cut note name lawful is may.0 lost
