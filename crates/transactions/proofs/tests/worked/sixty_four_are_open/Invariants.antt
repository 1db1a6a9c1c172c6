use Rattle.transactions.specs.Standing.{IsReadyForSome}
use Rattle.transactions.proofs.tests.worked.sixty_four_are_open.Given as goal

-- the next call can be made
abbrev pub invariant-loop-txn : goal.invariant-loop-txn
invariant-loop-txn g l = IsReadyForSome l.player.store
