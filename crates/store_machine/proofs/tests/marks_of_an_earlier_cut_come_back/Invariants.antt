use Rattle.store_machine.proofs.tests.marks_of_an_earlier_cut_come_back.Given as goal

abbrev pub ghosts-late_marks : goal.ghosts-late_marks
ghosts-late_marks g a = record { name = a.blank.name; parts = a.blank.parts }
