use Rattle.transactions.specs.Standing.{IsReadyForSome}
use Rattle.transactions.proofs.tests.worked.a_page_fills.Given as goal

-- the next call can be made
abbrev pub invariant-loop-slot : goal.invariant-loop-slot
invariant-loop-slot g l = IsReadyForSome l.player.store
