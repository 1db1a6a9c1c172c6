use Rattle.std.proofs.Common.{refl}
use Rattle.std.specs.Fmt.{digits}
use Rattle.store_model.proofs.Scripts.{a_transaction_opens_once_legal}
use Rattle.store_model.proofs.examples.a_transaction_opens_once.Goals as goal

pub returns-clause-legal : goal.returns-clause-legal
returns-clause-legal c = a_transaction_opens_once_legal

pub returns-clause-text : goal.returns-clause-text
unfolding digits
returns-clause-text c = refl
