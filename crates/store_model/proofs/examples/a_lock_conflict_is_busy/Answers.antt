use Rattle.std.proofs.Common.{refl}
use Rattle.std.specs.Fmt.{digits}
use Rattle.store_model.proofs.Scripts.{a_lock_conflict_is_busy_legal}
use Rattle.store_model.proofs.examples.a_lock_conflict_is_busy.Goals as goal

pub returns-clause-legal : goal.returns-clause-legal
returns-clause-legal c = a_lock_conflict_is_busy_legal

pub returns-clause-text : goal.returns-clause-text
unfolding digits
returns-clause-text c = refl
