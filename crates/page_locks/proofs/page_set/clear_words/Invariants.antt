use Rattle.std.proofs.Common.{◌≡◌, ℕ, take, length, slice_index, if◌then◌else◌}
use Rattle.page_locks.specs.Sets.{is_among}
use Rattle.page_locks.proofs.page_set.clear_words.Given as goal

abbrev pub invariant-used : goal.invariant-used
invariant-used l =
    ((at : ℕ) → slice_index l.words at ≡ (if is_among (take l.at-index l.used) at then 0 else slice_index l.initial.words at))
    × (length l.words ≡ length l.initial.words)
