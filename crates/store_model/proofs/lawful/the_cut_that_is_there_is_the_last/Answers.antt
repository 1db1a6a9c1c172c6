use Rattle.store_model.proofs.KeptOpenings.{history_last}
use Rattle.store_model.proofs.lawful.the_cut_that_is_there_is_the_last.Goals as goal

pub returns : goal.returns
returns c = history_last
