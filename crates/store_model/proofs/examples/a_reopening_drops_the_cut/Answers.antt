use Rattle.std.proofs.Common.{refl}
use Rattle.std.specs.Fmt.{digits}
use Rattle.store_model.proofs.Scripts.{a_reopening_drops_the_cut_legal}
use Rattle.store_model.proofs.examples.a_reopening_drops_the_cut.Goals as goal

pub returns-clause-legal : goal.returns-clause-legal
returns-clause-legal c = a_reopening_drops_the_cut_legal

pub returns-clause-text : goal.returns-clause-text
unfolding digits
returns-clause-text c = refl
