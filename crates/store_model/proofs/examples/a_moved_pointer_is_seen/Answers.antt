use Rattle.std.proofs.Common.{refl}
use Rattle.std.specs.Fmt.{digits}
use Rattle.store_model.proofs.Scripts.{a_moved_pointer_is_seen_legal}
use Rattle.store_model.proofs.examples.a_moved_pointer_is_seen.Goals as goal

pub returns-clause-legal : goal.returns-clause-legal
returns-clause-legal c = a_moved_pointer_is_seen_legal

pub returns-clause-text : goal.returns-clause-text
unfolding digits
returns-clause-text c = refl
