use Rattle.store_model.proofs.Scripts.{a_reached_object_is_freed_illegal}
use Rattle.store_model.proofs.examples.a_reached_object_is_not_freed.Goals as goal

pub returns : goal.returns
returns c = a_reached_object_is_freed_illegal
