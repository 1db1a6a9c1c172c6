use Rattle.store_lanes.proofs.step.step_in_turn.Given as goal

abbrev pub ghosts-step_in_turn_over : goal.ghosts-step_in_turn_over
ghosts-step_in_turn_over g a = record { name = a.blank.name; parts = a.blank.parts }
