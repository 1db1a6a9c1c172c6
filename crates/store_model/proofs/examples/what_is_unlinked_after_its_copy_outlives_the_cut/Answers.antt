use Rattle.std.proofs.Common.{refl}
use Rattle.std.specs.Fmt.{digits}
use Rattle.store_model.proofs.Scripts.{unlinked_legal}
use Rattle.store_model.proofs.examples.what_is_unlinked_after_its_copy_outlives_the_cut.Goals as goal

pub returns-clause-legal : goal.returns-clause-legal
returns-clause-legal c = unlinked_legal

pub returns-clause-text : goal.returns-clause-text
unfolding digits
returns-clause-text c = refl
