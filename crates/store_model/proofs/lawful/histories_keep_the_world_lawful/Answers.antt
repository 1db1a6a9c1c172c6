use Rattle.store_model.proofs.Lawfulness.{history_is_lawful}
use Rattle.store_model.proofs.lawful.histories_keep_the_world_lawful.Goals as goal

pub returns : goal.returns
returns c = history_is_lawful
