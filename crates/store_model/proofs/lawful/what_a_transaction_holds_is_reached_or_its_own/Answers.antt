use Rattle.store_model.proofs.Reach.{held_is_reached_or_own}
use Rattle.store_model.proofs.OutOfReach.{safe_one}
use Rattle.store_model.proofs.lawful.what_a_transaction_holds_is_reached_or_its_own.Goals as goal

pub returns : goal.returns
returns c = λ w t name orderly m held. held_is_reached_or_own w t name (safe_one w t orderly m) held
