use Rattle.store_model.proofs.Given.{used_are_named, objects_used_at}
use Rattle.store_model.proofs.OpenedWorlds.{used_are_placed}
use Rattle.store_model.proofs.from_images.objects_in_use_are_those_of_the_slots.Goals as goal

pub returns-clause-named : goal.returns-clause-named
returns-clause-named c = used_are_named

pub returns-clause-placed : goal.returns-clause-placed
returns-clause-placed c = used_are_placed

pub returns-clause-one : goal.returns-clause-one
returns-clause-one c = objects_used_at
