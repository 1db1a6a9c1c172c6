use Rattle.store_model.proofs.ShownWorlds.{shows_images, unfreed_are_shown, names_are_given, freed_are_shown_unused, shows_root, shows_whole}
use Rattle.store_model.proofs.from_images.worlds_show_images_of_a_store.Goals as goal

pub returns-clause-images : goal.returns-clause-images
returns-clause-images c = shows_images

pub returns-clause-in_use : goal.returns-clause-in_use
returns-clause-in_use c = unfreed_are_shown

pub returns-clause-names : goal.returns-clause-names
returns-clause-names c = names_are_given

pub returns-clause-freed : goal.returns-clause-freed
returns-clause-freed c = freed_are_shown_unused

pub returns-clause-root : goal.returns-clause-root
returns-clause-root c = shows_root

pub returns-clause-whole : goal.returns-clause-whole
returns-clause-whole c = shows_whole
