-- A turn that is kept: what a call in it leaves.
use Rattle.std.proofs.Common.{◌≡◌, ℕ, ◌+◌, ◌-◌, ◌≤◌, List, [], ◌∷◌, ◌++◌, length, sym, ap, refl, ◌∙◌, append_assoc, arith, Option}
use Rattle.atomic_table.specs.Table.{Me}
use Rattle.atomic_table.specs.Seated.{TableId}
use Rattle.turn_lock.specs.declared.view.View.{View}
use Rattle.turn_lock.specs.Lists.{places}
use Rattle.turn_lock.specs.Seats.{Known, known, grown, in_turn, HasAtHand, Finds, Appends}
use Rattle.turn_lock.specs.Turns.{HasValue}
use Rattle.turn_lock.proofs.Lists.{starts_itself, starts_on, starts_length, places-append}

places_on : (k m n : ℕ) → k ≤ m → m ≤ n → places k (n - k) ≡ places k (m - k) ++ places m (n - m)
places_on k m n a b = let e : n - k ≡ (m - k) + (n - m) = omega (arith, a, b) in let d : k + (m - k) ≡ m = omega (arith, a) in
    ap (places k) e ∙ (places-append k (m - k) (n - m) ∙ ap (λ (z : ℕ). places k (m - k) ++ places z (n - m)) d)

module _ {T E B : Type 0} (id : TableId) (me : Me (Option T) (View E B)) (before : ℕ) (xs ys : List E) (b c : B) (has : HasValue me xs b before) where
  pub holds_now : HasAtHand xs b (in_turn id me.0 xs)
  holds_now = record { whole = refl; same_start = has.same_start }

  pub value_kept : Appends xs b ys c → HasValue me ys c before
  value_kept more = record {
    ticket = has.ticket;
    has = has.has;
    taken = has.taken;
    begins = starts_on ys xs me.0.seen more.grows has.begins;
    same_start = has.same_start ∙ ap (λ (z : B). z ∷ []) (sym more.same_start);
    count = has.count;
    parts = has.parts;
  }

  pub turn_grown : Appends xs b ys c → in_turn id me.0 ys ≡ grown (in_turn id me.0 xs) xs ys
  turn_grown more =
      let own : me.0.own ++ places (length me.0.seen) (length ys - length me.0.seen) ≡ (me.0.own ++ places (length me.0.seen) (length xs - length me.0.seen)) ++ places (length xs) (length ys - length xs) =
      ap (λ (ps : List ℕ). me.0.own ++ ps) (places_on (length me.0.seen) (length xs) (length ys) (starts_length xs me.0.seen has.begins) (starts_length ys xs more.grows))
      ∙ sym (append_assoc me.0.own (places (length me.0.seen) (length xs - length me.0.seen)) (places (length xs) (length ys - length xs))) in
      ap (λ (ps : List ℕ). let s : Known E B = known id me.0 in let t : Known E B = record s { seen = ys; own = ps } in t) own

-- what it has at hand it would also find
pub found_in_turn : {E B : Type 0} (xs : List E) (b : B) (s : Known E B) → HasAtHand xs b s → Finds xs b s
found_in_turn xs b s h = record { begins = starts_itself xs s.seen h.whole; same_start = h.same_start }
