use Rattle.std.proofs.Common.{◌≡◌, ℕ, ◌/◌, ◌%◌, ◌<◌, ◌&&◌, ◌==◌, true, not, length}
use Rattle.page_locks.specs.Sets.{has_bit}
use Rattle.page_locks.specs.Words.{is_held}
use Rattle.page_locks.proofs.holders.vacate_word.Given as goal

abbrev pub invariant-bits : goal.invariant-bits
invariant-bits l =
    ((m : _) (page q : ℕ) → q < 64 → is_held m l.holders page q
    ≡ (is_held m l.initial.holders page q && not ((q == l.place) && ((page / 64 == l.at) && (has_bit l.word (page % 64) && not (has_bit l.left (page % 64)))))))
    × ((i : ℕ) → i < 64 → has_bit l.left i ≡ true → has_bit l.word i ≡ true)
    × (length l.holders ≡ length l.initial.holders)

abbrev pub decreases-bits : goal.decreases-bits
decreases-bits l = l.left
