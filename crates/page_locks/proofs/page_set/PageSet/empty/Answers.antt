use Rattle.std.proofs.Common.{◌≡◌, ℕ, List, replicate, get_or, nat_lt, sym, subst, arith, inl, inr}
use Rattle.std.proofs.lemmas.Bool.{cases_Bool, ltb-true, ltb-false}
use Rattle.std.proofs.lemmas.List.{get_or_past, get_or-replicate, length-replicate}
use Rattle.page_locks.specs.Sets.{AreUsed}
use Rattle.page_locks.proofs.Used.{none_used}
use Rattle.page_locks.proofs.page_set.PageSet.empty.Goals as goal

blank : (n at : ℕ) → ◌≡◌ {A = ℕ} (get_or (replicate n 0) at 0) 0
blank n at = elim (cases_Bool (nat_lt at n)) [
  | inl lt ↦ get_or-replicate n at 0 0 (ltb-true at n lt)
  | inr ge ↦ let l = ltb-false at n ge in get_or_past (replicate n 0) at 0 (omega (arith, l, length-replicate {A = ℕ} n 0))
]

pub invariant_of-result : goal.invariant_of-result
invariant_of-result c =
    let count = c.div_ceil-count.result in
    let n = c.in_ok-words.ensures.len in
    let room = c.in_ok-used.ensures.capacity in (
      omega (arith, n, room),
      subst (λ (ws : List ℕ). AreUsed ws c.in_ok-used.used.items) (sym (c.in_ok-words.ensures.items_if_clones_equal (λ y e. e)))
          (subst (λ (us : List ℕ). AreUsed (replicate count 0) us) (sym c.in_ok-used.ensures.items) (none_used (replicate count 0) (blank count))),
    )
