use Rattle.store_machine.proofs.tests.a_store_without_garbage_is_collected.Given as goal

abbrev pub ghosts-are_answered : goal.ghosts-are_answered
ghosts-are_answered g a = record { name = a.blank.name; parts = a.blank.parts }
