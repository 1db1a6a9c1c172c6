use Rattle.transactions.proofs.tests.player.Player.answer.Given as goal

abbrev pub ghosts-transact_once : goal.ghosts-transact_once
ghosts-transact_once a = record { name = a.blank.name; parts = a.blank.parts }
