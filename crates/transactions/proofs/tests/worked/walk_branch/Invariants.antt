use Rattle.transactions.specs.Standing.{IsReadyForSome}
use Rattle.transactions.proofs.tests.worked.walk_branch.Given as goal

-- the next call can be made
abbrev pub invariant-loop-place : goal.invariant-loop-place
invariant-loop-place l = IsReadyForSome l.player.store
