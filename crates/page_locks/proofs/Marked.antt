-- The least number at the places of a set.
use Rattle.std.proofs.Common.{◌≡◌, ℕ, ◌+◌, ◌<◌, true, false, cond, Option, Some, None, List, length, get_or, ap, sym, subst, ◌∙◌, ◌⊎◌, inl, inr, arith, nat_lt}
use Rattle.std.proofs.lemmas.Bool.{cases_eq, cases_Bool, ltb-true, ltb-false}
use Rattle.std.proofs.lemmas.List.{get_or_default}
use Rattle.page_locks.specs.Sets.{has_bit}
use Rattle.page_locks.specs.Places.{free_seat, transaction_at, smaller_of, IsAtMarkedPlace, IsLeastMarked}
use Rattle.page_locks.specs.declared.seats.Seat.{Seat}
use Rattle.page_locks.proofs.Seated.{some_same}

module _ (seats : List Seat) (places k : ℕ) where
  up : (n : ℕ) → IsAtMarkedPlace seats places k n → IsAtMarkedPlace seats places (k + 1) n
  up n m = let b = m.below in record { place = m.place; below = omega (arith, b); marked = m.marked; number = m.number }

  down : (n : ℕ) → IsAtMarkedPlace seats places (k + 1) n → IsAtMarkedPlace seats places k n ⊎ ((has_bit places k ≡ true) × (transaction_at seats k ≡ Some n))
  down n m = elim (cases_eq m.place k) [
    | inl here ↦ inr (ap (has_bit places) (sym here) ∙ m.marked, ap (transaction_at seats) (sym here) ∙ m.number)
    | inr off ↦ let b = m.below in inl (record { place = m.place; below = omega (arith, b, off); marked = m.marked; number = m.number })
  ]

  here : (n : ℕ) → has_bit places k ≡ true → transaction_at seats k ≡ Some n → IsAtMarkedPlace seats places (k + 1) n
  here n on is = record { place = k; below = omega arith; marked = on; number = is }

  same : (least : Option ℕ) → ((n : ℕ) → has_bit places k ≡ true → transaction_at seats k ≡ Some n → ⊥) → IsLeastMarked seats places k least → IsLeastMarked seats places (k + 1) least
  same None never h = λ n m. elim (down n m) [
    | inl old ↦ h n old
    | inr new ↦ never n new.0 new.1
  ]
  same (Some least) never h = (
    up least h.0,
    λ n m. elim (down n m) [
      | inl old ↦ h.1 n old
      | inr new ↦ absurd (never n new.0 new.1)
    ],
  )

  pub not_marked : (least : Option ℕ) → has_bit places k ≡ false → IsLeastMarked seats places k least → IsLeastMarked seats places (k + 1) least
  not_marked least off h = same least (λ n on is. let clash : true ≡ false = sym on ∙ off in cc) h

  pub marked_by : (least one : Option ℕ) → has_bit places k ≡ true → transaction_at seats k ≡ one → IsLeastMarked seats places k least
      → IsLeastMarked seats places (k + 1) (smaller_of one least)
  marked_by least None on is h = same least (λ n o e. let clash : None ≡ Some n = sym is ∙ e in cc) h
  marked_by None (Some new) on is h = (
    here new on is,
    λ n m. elim (down n m) [
      | inl old ↦ absurd (h n old)
      | inr x ↦ let e = some_same new n (sym is ∙ x.1) in omega (arith, e)
    ],
  )
  marked_by (Some least) (Some new) on is h = elim (cases_Bool (nat_lt least new)) [
    | inl lt ↦ subst (IsLeastMarked seats places (k + 1)) (sym (ap (λ b. cond b (Some least) (Some new)) lt)) (
      up least h.0,
      λ n m. elim (down n m) [
        | inl old ↦ h.1 n old
        | inr x ↦ let e = some_same new n (sym is ∙ x.1) in let l = ltb-true least new lt in omega (arith, e, l)
      ],
    )
    | inr ge ↦ subst (IsLeastMarked seats places (k + 1)) (sym (ap (λ b. cond b (Some least) (Some new)) ge)) (
      here new on is,
      λ n m. elim (down n m) [
        | inl old ↦ let l = ltb-false least new ge in let o = h.1 n old in omega (arith, l, o)
        | inr x ↦ let e = some_same new n (sym is ∙ x.1) in omega (arith, e)
      ],
    )
  ]

pub seat_number : (seats : List Seat) (k : ℕ) (s : Seat) → k < length seats → s ≡ get_or seats k s → transaction_at seats k ≡ s.txn
seat_number seats k s lt is = ap (λ (x : Seat). x.txn) (get_or_default seats k free_seat s lt ∙ sym is)
