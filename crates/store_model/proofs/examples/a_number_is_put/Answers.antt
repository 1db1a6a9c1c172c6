use Rattle.std.proofs.Common.{refl}
use Rattle.std.specs.Fmt.{digits}
use Rattle.store_model.proofs.Scripts.{a_number_is_put_legal}
use Rattle.store_model.proofs.examples.a_number_is_put.Goals as goal

pub returns-clause-legal : goal.returns-clause-legal
returns-clause-legal c = a_number_is_put_legal

pub returns-clause-text : goal.returns-clause-text
unfolding digits
returns-clause-text c = refl
