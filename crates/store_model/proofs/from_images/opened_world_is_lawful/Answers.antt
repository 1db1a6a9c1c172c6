use Rattle.store_model.proofs.OpenedWorlds.{opened_is_lawful}
use Rattle.store_model.proofs.from_images.opened_world_is_lawful.Goals as goal

pub returns : goal.returns
returns c = opened_is_lawful
