-- How many places of a cut aren't known to be scanned.
use Rattle.std.specs.Prelude.{ℕ, zero, suc, ◌+◌, ◌==◌, cond, List}
use Rattle.object_graph.specs.declared.limits.TheConstants.{MOST_SLOTS}
use Rattle.mark_pool.specs.declared.place.Place.{Place}
use Rattle.mark_pool.specs.Marks.{times}

-- 1 where a place isn't among those that are scanned
abbrev pub is_unscanned : ℕ → ℕ
is_unscanned n = cond (n == 0) 1 0

-- of the slots of a page below k
abbrev pub unscanned_slots : List Place → ℕ → ℕ → ℕ
unscanned_slots scans page zero = 0
unscanned_slots scans page (suc k) = is_unscanned (times page k scans) + unscanned_slots scans page k

-- of the pages below n
abbrev pub unscanned : ℕ → List Place → ℕ
unscanned zero scans = 0
unscanned (suc n) scans = unscanned_slots scans n MOST_SLOTS + unscanned n scans
