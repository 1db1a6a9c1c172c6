-- How often a place stands in two lists.
use Rattle.std.proofs.Common.{◌≡◌, ℕ, ◌+◌, List, [], ◌∷◌, ◌++◌, arith}
use Rattle.mark_pool.specs.declared.place.Place.{Place}
use Rattle.mark_pool.specs.Marks.{times}

pub times-append : (page slot : ℕ) (xs ys : List Place) → times page slot (xs ++ ys) ≡ times page slot xs + times page slot ys
times-append page slot [] ys = omega arith
times-append page slot (x ∷ xs) ys = let h = times-append page slot xs ys in omega (arith, h)
