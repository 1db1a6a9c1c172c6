use Rattle.store_model.proofs.Scripts.{a_refusal_out_of_order_illegal}
use Rattle.store_model.proofs.examples.refusals_keep_their_order.Goals as goal

pub returns : goal.returns
returns c = a_refusal_out_of_order_illegal
