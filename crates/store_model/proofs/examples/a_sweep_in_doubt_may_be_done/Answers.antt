use Rattle.std.proofs.Common.{refl}
use Rattle.std.specs.Fmt.{digits}
use Rattle.store_model.proofs.Scripts.{a_sweep_in_doubt_may_be_done_legal}
use Rattle.store_model.proofs.examples.a_sweep_in_doubt_may_be_done.Goals as goal

pub returns-clause-legal : goal.returns-clause-legal
returns-clause-legal c = a_sweep_in_doubt_may_be_done_legal

pub returns-clause-text : goal.returns-clause-text
unfolding digits
returns-clause-text c = refl
