use Rattle.store_desk.proofs.tests.two_seats_fill_one_chronicle.Given as goal

abbrev pub ghosts-commit_in_one_turn : goal.ghosts-commit_in_one_turn
ghosts-commit_in_one_turn g a = record { name = a.blank.name; parts = a.blank.parts }
