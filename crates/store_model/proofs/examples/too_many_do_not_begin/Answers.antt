use Rattle.store_model.proofs.Scripts.{too_many_begin_legal}
use Rattle.store_model.proofs.examples.too_many_do_not_begin.Goals as goal

pub returns : goal.returns
returns c = too_many_begin_legal
