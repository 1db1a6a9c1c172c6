use Rattle.store_run.proofs.generating.generate_store.Given as goal

abbrev pub ghosts-make_rounds : goal.ghosts-make_rounds
ghosts-make_rounds g a = record { name = a.blank.name; parts = a.blank.parts }
