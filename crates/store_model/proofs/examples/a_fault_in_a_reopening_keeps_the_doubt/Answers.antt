use Rattle.std.proofs.Common.{refl}
use Rattle.std.specs.Fmt.{digits}
use Rattle.store_model.proofs.Scripts.{a_fault_in_a_reopening_keeps_the_doubt_legal}
use Rattle.store_model.proofs.examples.a_fault_in_a_reopening_keeps_the_doubt.Goals as goal

pub returns-clause-legal : goal.returns-clause-legal
returns-clause-legal c = a_fault_in_a_reopening_keeps_the_doubt_legal

pub returns-clause-text : goal.returns-clause-text
unfolding digits
returns-clause-text c = refl
