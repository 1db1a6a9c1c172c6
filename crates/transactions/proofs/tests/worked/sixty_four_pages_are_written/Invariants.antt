use Rattle.transactions.specs.Standing.{IsReadyForSome}
use Rattle.transactions.proofs.tests.worked.sixty_four_pages_are_written.Given as goal

-- the next call can be made
abbrev pub invariant-loop-page : goal.invariant-loop-page
invariant-loop-page g l = IsReadyForSome l.player.store
