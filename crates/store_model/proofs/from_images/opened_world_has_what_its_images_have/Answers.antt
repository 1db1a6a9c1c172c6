use Rattle.store_model.proofs.OpenedWorlds.{opened_unfreed, opened_names, opened_freed, opened_blank}
use Rattle.store_model.proofs.from_images.opened_world_has_what_its_images_have.Goals as goal

pub returns-clause-in_use : goal.returns-clause-in_use
returns-clause-in_use c = opened_unfreed

pub returns-clause-names : goal.returns-clause-names
returns-clause-names c = λ commits images name right. opened_names commits images right name

pub returns-clause-freed : goal.returns-clause-freed
returns-clause-freed c = λ commits images name right. opened_freed commits images right name

pub returns-clause-blank : goal.returns-clause-blank
returns-clause-blank c = λ commits images o right there freed. opened_blank commits images right o there freed
