use Rattle.std.proofs.Common.{refl}
use Rattle.std.specs.Fmt.{digits}
use Rattle.store_model.proofs.Scripts.{phases_come_in_order_legal}
use Rattle.store_model.proofs.examples.phases_come_in_order.Goals as goal

pub returns-clause-legal : goal.returns-clause-legal
returns-clause-legal c = phases_come_in_order_legal

pub returns-clause-text : goal.returns-clause-text
unfolding digits
returns-clause-text c = refl
