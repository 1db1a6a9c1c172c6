use Rattle.store_model.proofs.OpenedWorlds.{opened_shows, opened_shows_page}
use Rattle.store_model.proofs.from_images.opened_world_shows_its_images.Goals as goal

pub returns-clause-all : goal.returns-clause-all
returns-clause-all c = opened_shows

pub returns-clause-one : goal.returns-clause-one
returns-clause-one c = opened_shows_page
