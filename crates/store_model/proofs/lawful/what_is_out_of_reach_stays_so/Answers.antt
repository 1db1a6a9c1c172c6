use Rattle.store_model.proofs.OutOfReach.{unreached_is_out}
use Rattle.store_model.proofs.Orderly.{event_is_orderly}
use Rattle.store_model.proofs.Keeps.{event_keeps_out}
use Rattle.store_model.proofs.lawful.what_is_out_of_reach_stays_so.Goals as goal

pub returns-clause-now : goal.returns-clause-now
returns-clause-now c = unreached_is_out

pub returns-clause-then_ : goal.returns-clause-then_
returns-clause-then_ c = λ w e name orderly may there unreached. event_keeps_out w name e.entry.call e.note e.entry.reply orderly (event_is_orderly w e.entry.call e.note e.entry.reply orderly may.1) may.1 there unreached
