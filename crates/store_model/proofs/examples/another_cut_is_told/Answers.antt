use Rattle.std.proofs.Common.{refl}
use Rattle.std.specs.Fmt.{digits}
use Rattle.store_model.proofs.Scripts.{another_cut_is_told_legal}
use Rattle.store_model.proofs.examples.another_cut_is_told.Goals as goal

pub returns-clause-legal : goal.returns-clause-legal
returns-clause-legal c = another_cut_is_told_legal

pub returns-clause-text : goal.returns-clause-text
unfolding digits
returns-clause-text c = refl
