use Rattle.transactions.specs.Standing.{IsReadyForSome}
use Rattle.transactions.proofs.tests.plain.mixed_calls_are_answered_as_by_the_plain_graph.Given as goal

-- the next call can be made
abbrev pub invariant-loop-txn : goal.invariant-loop-txn
invariant-loop-txn g l = IsReadyForSome l.player.store
