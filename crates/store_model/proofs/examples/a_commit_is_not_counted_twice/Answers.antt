use Rattle.store_model.proofs.Scripts.{a_commit_is_counted_twice_illegal}
use Rattle.store_model.proofs.examples.a_commit_is_not_counted_twice.Goals as goal

pub returns : goal.returns
returns c = a_commit_is_counted_twice_illegal
