use Rattle.std.proofs.Common.{◌≡◌, ℕ, ◌/◌, ◌<◌, ◌&&◌, ◌==◌, not, take, length}
use Rattle.page_locks.specs.Sets.{in_set, is_among}
use Rattle.page_locks.specs.Words.{is_held}
use Rattle.page_locks.proofs.holders.vacate.Given as goal

abbrev pub invariant-used : goal.invariant-used
invariant-used l =
    ((m : _) (page q : ℕ) → q < 64 → is_held m l.holders page q
    ≡ (is_held m l.initial.holders page q && not ((q == l.place) && (is_among (take l.at-index l.at-items) (page / 64) && in_set l.pages page))))
    × (length l.holders ≡ length l.initial.holders)
