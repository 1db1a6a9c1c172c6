use Rattle.store_model.proofs.FreshImages.{fresh_opens}
use Rattle.store_model.proofs.from_images.a_fresh_store_opens_to_the_fresh_world.Goals as goal

pub returns : goal.returns
returns c = fresh_opens
