use Rattle.std.proofs.Common.{refl}
use Rattle.std.specs.Fmt.{digits}
use Rattle.store_model.proofs.Scripts.{an_aborted_name_is_given_again_legal}
use Rattle.store_model.proofs.examples.an_aborted_name_is_given_again.Goals as goal

pub returns-clause-legal : goal.returns-clause-legal
returns-clause-legal c = an_aborted_name_is_given_again_legal

pub returns-clause-text : goal.returns-clause-text
unfolding digits
returns-clause-text c = refl
