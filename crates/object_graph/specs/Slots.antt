-- Sets of slots, as numbers, and lists of numbers.
use Rattle.std.specs.Prelude.{ℕ, zero, suc, Bool, ◌==◌, Option, Some, None, List, [], ◌∷◌, ◌++◌, filter, if◌then◌else◌, nat_lt}
use Rattle.std.specs.Int.{bit_at}
use Rattle.object_graph.specs.declared.limits.TheConstants.{MOST_SLOTS}

-- the slot is in the set
abbrev pub has_slot : ℕ → ℕ → Bool
has_slot set slot = bit_at set slot == 1

-- the numbers below n, ascending
abbrev pub below : ℕ → List ℕ
below zero = []
below (suc n) = below n ++ n ∷ []

-- the slots of a set, ascending
abbrev pub slots_in : ℕ → List ℕ
slots_in set = filter (has_slot set) (below MOST_SLOTS)

-- the smaller of a number and the least so far
abbrev pub least_with : ℕ → Option ℕ → Option ℕ
least_with n None = Some n
least_with n (Some m) = Some (if nat_lt m n then m else n)

-- the least number of a list
abbrev pub least : List ℕ → Option ℕ
least [] = None
least (n ∷ ns) = least_with n (least ns)
