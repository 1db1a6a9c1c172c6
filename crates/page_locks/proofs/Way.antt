-- Who is in the way.
use Rattle.std.proofs.Common.{◌≡◌, ℕ, Bool, true, false, not, ◌||◌, ◌&&◌, ◌==◌, Option, Some, None, List, refl, ap, sym, ◌∙◌, inl, inr}
use Rattle.std.proofs.lemmas.Bool.{cases_Bool}
use Rattle.object_graph.specs.declared.limits.TheConstants.{MOST_OPEN}
use Rattle.page_locks.specs.Sets.{is_among}
use Rattle.page_locks.specs.Words.{conflicts, holders_at, is_held, to_write}
use Rattle.page_locks.specs.Holding.{is_in_way, shares, excludes, IsNobody, IsLeast}
use Rattle.page_locks.specs.Places.{transaction_at, locks_of, numbers_in, AreSeated, IsAtMarkedPlace, IsLeastInWay}
use Rattle.page_locks.specs.declared.admitted.Admitted.{Admitted}
use Rattle.page_locks.specs.declared.holders.Holders.{Holders}
use Rattle.page_locks.specs.declared.holders.Mode.{Mode}
use Rattle.page_locks.specs.declared.holders.Mode.TheVariants.{Shared, Exclusive}
use Rattle.page_locks.specs.declared.seats.Seat.{Seat}
use Rattle.page_locks.proofs.Seated.{seat_or_not, lock_at, no_lock, same_place}

and_false : (a : Bool) → (a && false) ≡ false
and_false true = refl
and_false false = refl

module _ (held : List Admitted) (seats : List Seat) (holders : List Holders) (mode : Mode) (txn page place : ℕ) (s : AreSeated held seats) (own : transaction_at seats place ≡ Some txn) where
  way_at : (n q : ℕ) → transaction_at seats q ≡ Some n
      → is_in_way (to_write mode) (locks_of holders held) txn page n ≡ (not (q == place) && conflicts mode (holders_at holders page) q)
  way_at n q e =
      ap (λ b. not b && ((to_write mode && shares (locks_of holders held) n page) || excludes (locks_of holders held) n page)) (sym (same_place held seats q place n txn s e own))
      ∙ (ap (λ b. not (q == place) && ((to_write mode && b) || excludes (locks_of holders held) n page)) (lock_at held seats holders Shared n page q s e)
      ∙ ap (λ b. not (q == place) && ((to_write mode && is_held Shared holders page q) || b)) (lock_at held seats holders Exclusive n page q s e))

  way_none : (n : ℕ) → is_among (numbers_in held) n ≡ false → is_in_way (to_write mode) (locks_of holders held) txn page n ≡ false
  way_none n e =
      ap (λ b. not (n == txn) && ((to_write mode && b) || excludes (locks_of holders held) n page)) (no_lock held holders Shared n page e)
      ∙ (ap (λ b. not (n == txn) && ((to_write mode && false) || b)) (no_lock held holders Exclusive n page e)
      ∙ (ap (λ b. not (n == txn) && (b || false)) (and_false (to_write mode)) ∙ and_false (not (n == txn))))

  marked : (least : Option ℕ) (w : IsLeastInWay holders seats place page mode least) (n : ℕ)
      → is_in_way (to_write mode) (locks_of holders held) txn page n ≡ true → IsAtMarkedPlace seats w.places MOST_OPEN n
  marked least w n e = elim (seat_or_not held seats n s) [
    | inl f ↦ record { place = f.0; below = f.1; marked = w.each f.0 f.1 ∙ (sym (way_at n f.0 f.2) ∙ e); number = f.2 }
    | inr none ↦ let clash : true ≡ false = sym e ∙ way_none n none in absurd cc
  ]

  in_the_way : (least : Option ℕ) (w : IsLeastInWay holders seats place page mode least) (n : ℕ) → IsAtMarkedPlace seats w.places MOST_OPEN n
      → is_in_way (to_write mode) (locks_of holders held) txn page n ≡ true
  in_the_way least w n m = way_at n m.place m.number ∙ (sym (w.each m.place m.below) ∙ m.marked)

  pub nobody_in_way : IsLeastInWay holders seats place page mode None → IsNobody (is_in_way (to_write mode) (locks_of holders held) txn page)
  nobody_in_way w = λ n. elim (cases_Bool (is_in_way (to_write mode) (locks_of holders held) txn page n)) [
    | inl e ↦ absurd (w.is_least n (marked None w n e))
    | inr free ↦ free
  ]

  pub least_in_way : (least : ℕ) → IsLeastInWay holders seats place page mode (Some least) → IsLeast (is_in_way (to_write mode) (locks_of holders held) txn page) least
  least_in_way least w = record {
    passes = in_the_way (Some least) w least w.is_least.0;
    least = λ n e. w.is_least.1 n (marked (Some least) w n e);
  }
