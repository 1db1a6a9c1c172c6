use Rattle.object_graph.proofs.tests.steps_are_counted_from_a_blank.Given as goal

abbrev pub ghosts-two_steps : goal.ghosts-two_steps
ghosts-two_steps a = record { name = a.blank.name; parts = a.blank.parts }
