use Rattle.std.proofs.Common.{◌≢◌, ℕ, ◌<◌}
use Rattle.page_locks.specs.Places.{transaction_at}
use Rattle.page_locks.proofs.seats.seat_with.Given as goal

abbrev pub invariant-places : goal.invariant-places
invariant-places l = (q : ℕ) → q < l.place → transaction_at l.seats q ≢ l.txn
