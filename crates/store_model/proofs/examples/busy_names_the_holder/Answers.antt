use Rattle.store_model.proofs.Scripts.{busy_with_the_wrong_holder_illegal}
use Rattle.store_model.proofs.examples.busy_names_the_holder.Goals as goal

pub returns : goal.returns
returns c = busy_with_the_wrong_holder_illegal
