use Rattle.store_model.specs.FromImages.{world_of}
use Rattle.transactions.specs.Standing.{page_images}
use Rattle.transactions.proofs.tests.player.Player.new.Goals as goal

pub returns : goal.returns
returns c = (world_of 0 (page_images c.in_ok-pages.pages.items), c.in_ok-new.ensures.ready 0)
