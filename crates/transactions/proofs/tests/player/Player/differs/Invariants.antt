use Rattle.transactions.specs.Standing.{IsReadyForSome}
use Rattle.transactions.proofs.tests.player.Player.differs.Given as goal

-- the next call can be made
abbrev pub invariant-loop-at : goal.invariant-loop-at
invariant-loop-at l = IsReadyForSome l.self.store
