use Rattle.std.proofs.Common.{◌≡◌, ℕ, false, None, length}
use Rattle.std.specs.List.{All}
use Rattle.page_locks.specs.Sets.{in_set, HasRoom}
use Rattle.page_locks.proofs.seats.free_seats.Given as goal

abbrev pub invariant-seats : goal.invariant-seats
invariant-seats l =
    (length l.seats.items ≡ l.counter)
    × All (λ s. s.txn ≡ None) l.seats.items
    × All (λ s. (page : ℕ) → in_set s.pages page ≡ false) l.seats.items
    × All (λ s. HasRoom l.pages s.pages) l.seats.items
