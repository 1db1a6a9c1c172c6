use Rattle.transactions.specs.Standing.{IsReadyForSome}
use Rattle.transactions.proofs.tests.plain.one_transaction.Given as goal

-- the next call can be made
abbrev pub invariant-loop : goal.invariant-loop
invariant-loop l = IsReadyForSome l.player.store
