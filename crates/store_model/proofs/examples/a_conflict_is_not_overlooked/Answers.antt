use Rattle.store_model.proofs.Scripts.{a_conflict_is_overlooked_illegal}
use Rattle.store_model.proofs.examples.a_conflict_is_not_overlooked.Goals as goal

pub returns : goal.returns
returns c = a_conflict_is_overlooked_illegal
