use Rattle.store_machine.proofs.tests.a_sweep_that_frees_touches_its_page.Given as goal

abbrev pub ghosts-are_answered : goal.ghosts-are_answered
ghosts-are_answered g a = record { name = a.blank.name; parts = a.blank.parts }

abbrev pub ghosts-leave_garbage : goal.ghosts-leave_garbage
ghosts-leave_garbage g a = record { name = a.blank.name; parts = a.blank.parts }
