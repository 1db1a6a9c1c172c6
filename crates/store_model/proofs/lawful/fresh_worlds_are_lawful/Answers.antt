use Rattle.store_model.proofs.Lawfulness.{fresh_is_lawful_world}
use Rattle.store_model.proofs.lawful.fresh_worlds_are_lawful.Goals as goal

pub returns : goal.returns
returns c = fresh_is_lawful_world
