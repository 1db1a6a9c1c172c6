use Rattle.transactions.specs.Standing.{IsReadyForSome}
use Rattle.transactions.proofs.tests.worked.four_thousand_and_ninety_six_names_are_known.Given as goal

-- the next call can be made
abbrev pub invariant-loop-branch : goal.invariant-loop-branch
invariant-loop-branch g l = IsReadyForSome l.player.store

-- the next call can be made
abbrev pub invariant-loop-branch-2 : goal.invariant-loop-branch-2
invariant-loop-branch-2 g l = IsReadyForSome l.player.store
