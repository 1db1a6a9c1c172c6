use Rattle.store_model.specs.Worlds.{transaction}
use Rattle.store_model.proofs.Reach.{commit_adds_own}
use Rattle.store_model.proofs.OutOfReach.{safe_one}
use Rattle.store_model.proofs.Opened.{commit_is_open}
use Rattle.store_model.proofs.lawful.a_commit_reaches_own_objects_alone.Goals as goal

pub returns : goal.returns
returns c = λ w number commits note name orderly may reached. commit_adds_own w (transaction w number) name (safe_one w (transaction w number) orderly (commit_is_open w number note may.0)) reached
