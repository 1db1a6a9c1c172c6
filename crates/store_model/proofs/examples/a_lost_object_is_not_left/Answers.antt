use Rattle.store_model.proofs.Scripts.{a_lost_object_is_left_illegal}
use Rattle.store_model.proofs.examples.a_lost_object_is_not_left.Goals as goal

pub returns : goal.returns
returns c = a_lost_object_is_left_illegal
