-- What each call keeps of a table.
use Rattle.std.proofs.Common.{◌≡◌, ◌≢◌, ℕ, suc, ◌<◌, Bool, true, false, ◌==◌, ◌||◌, ◌&&◌, Some, None, List, [], ◌∷◌, length, get_or, set, refl, ap, sym, subst, ◌∙◌, inl, inr, arith, get_or-set_same, get_or-set_other}
use Rattle.std.specs.Cmp.{nat_eq_equiv}
use Rattle.std.proofs.lemmas.Bool.{or_cases, cases_eq, eq-eqb, eqb-true, ne_eqb, and_parts}
use Rattle.std.proofs.lemmas.List.{length-set}
use Rattle.object_graph.specs.declared.limits.TheConstants.{MOST_OPEN}
use Rattle.page_locks.specs.Sets.{has_bit, in_set, HasRoom, is_among}
use Rattle.page_locks.specs.Words.{word_of, is_mode, to_write, holders_at, is_held}
use Rattle.page_locks.specs.Holding.{Held, numbers, is_in_way, IsNobody, KeepsApart}
use Rattle.page_locks.specs.Places.{free_seat, seat_at, transaction_at, may_hold, free_or_not, locks_of, numbers_in, AddsLock, AreSeated, AreCovered, IsLockTable}
use Rattle.page_locks.specs.declared.admitted.Admitted.{Admitted}
use Rattle.page_locks.specs.declared.holders.Holders.{Holders}
use Rattle.page_locks.specs.declared.holders.Mode.{Mode}
use Rattle.page_locks.specs.declared.holders.Mode.TheVariants.{Shared, Exclusive}
use Rattle.page_locks.specs.declared.seats.Seat.{Seat}
use Rattle.page_locks.proofs.Bits.{or_false, and_false}
use Rattle.page_locks.proofs.Apart.{apart_shared, apart_exclusive}
use Rattle.page_locks.proofs.Modes.{has_lock, numbers-locks_of}
use Rattle.page_locks.proofs.Seated.{number-set_same, number-set_other, count-set, seat_or_not, lock_at, no_lock, same_place}
use Rattle.page_locks.proofs.Vacating.{held-set_same, held-set_other}

pub length-locks_of : (holders : List Holders) (held : List Admitted) → length (locks_of holders held) ≡ length held
length-locks_of holders [] = refl
length-locks_of holders (a ∷ rest) = ap suc (length-locks_of holders rest)

pub seat-set_same : (seats : List Seat) (q : ℕ) (s : Seat) → q < length seats → seat_at (set seats q s) q ≡ s
seat-set_same seats q s lt = get_or-set_same seats q s free_seat lt

pub seat-set_other : (seats : List Seat) (q p : ℕ) (s : Seat) → p ≢ q → seat_at (set seats q s) p ≡ seat_at seats p
seat-set_other seats q p s ne = get_or-set_other seats q p s free_seat ne

-- ---- a lock is taken

-- one more bit
module _ (holders : List Holders) (page q : ℕ) (mode : Mode) (h : Holders) (lt : page < length holders)
    (added : (m : Mode) (r : ℕ) → has_bit (word_of m h) r ≡ (has_bit (word_of m (holders_at holders page)) r || (is_mode m mode && (r == q)))) where
  pub held_more : (m : Mode) (p r : ℕ) → is_held m (set holders page h) p r ≡ (is_held m holders p r || (is_mode m mode && ((p == page) && (r == q))))
  held_more m p r = elim (cases_eq p page) [
    | inl same ↦
        ap (λ x. is_held m (set holders page h) x r) same
        ∙ (held-set_same m holders page r h lt
        ∙ (added m r
        ∙ (ap (λ b. is_held m holders page r || (is_mode m mode && (b && (r == q)))) (sym (eq-eqb p page same))
        ∙ ap (λ x. is_held m holders x r || (is_mode m mode && ((p == page) && (r == q)))) (sym same))))
    | inr ne ↦
        held-set_other m holders page p r h ne
        ∙ sym (ap (λ b. is_held m holders p r || (is_mode m mode && (b && (r == q)))) (ne_eqb p page ne)
        ∙ (ap (λ b. is_held m holders p r || b) (and_false (is_mode m mode)) ∙ or_false (is_held m holders p r)))
  ]

and_swap : (a b : Bool) → (a && b) ≡ (b && a)
and_swap true true = refl
and_swap true false = refl
and_swap false true = refl
and_swap false false = refl

eqb_swap : (a b : ℕ) → (a == b) ≡ (b == a)
eqb_swap a b = nat_eq_equiv.symm a b

module _ (held : List Admitted) (seats : List Seat) (old new : List Holders) (page q txn : ℕ) (mode : Mode)
    (s : AreSeated held seats) (own : transaction_at seats q ≡ Some txn)
    (more : (m : Mode) (p r : ℕ) → is_held m new p r ≡ (is_held m old p r || (is_mode m mode && ((p == page) && (r == q))))) where
  lock_more : (m : Mode) (n p : ℕ) → has_lock m (locks_of new held) n p ≡ (has_lock m (locks_of old held) n p || (is_mode m mode && ((txn == n) && (p == page))))
  lock_more m n p = elim (seat_or_not held seats n s) [
    | inl f ↦
        let is : (f.0 == q) ≡ (txn == n) = same_place held seats f.0 q n txn s f.2 own ∙ eqb_swap n txn in
        lock_at held seats new m n p f.0 s f.2
        ∙ (more m p f.0
        ∙ (ap (λ b. b || (is_mode m mode && ((p == page) && (f.0 == q)))) (sym (lock_at held seats old m n p f.0 s f.2))
        ∙ (ap (λ b. has_lock m (locks_of old held) n p || (is_mode m mode && ((p == page) && b))) is
        ∙ ap (λ b. has_lock m (locks_of old held) n p || (is_mode m mode && b)) (and_swap (p == page) (txn == n)))))
    | inr none ↦
        let off : (txn == n) ≡ false = ne_eqb txn n (λ same.
        let t : is_among (numbers_in held) txn ≡ true = s.admitted q txn own in
        let f : is_among (numbers_in held) txn ≡ false = ap (is_among (numbers_in held)) same ∙ none in
        let clash : true ≡ false = sym t ∙ f in cc) in
        no_lock held new m n p none
        ∙ sym (ap (λ b. b || (is_mode m mode && ((txn == n) && (p == page)))) (no_lock held old m n p none)
        ∙ (ap (λ b. is_mode m mode && (b && (p == page))) off ∙ and_false (is_mode m mode)))
  ]

  same_numbers : numbers (locks_of new held) ≡ numbers (locks_of old held)
  same_numbers = numbers-locks_of new held ∙ sym (numbers-locks_of old held)

pub adds : (mode : Mode) (held : List Admitted) (seats : List Seat) (old new : List Holders) (page q txn : ℕ) → AreSeated held seats → transaction_at seats q ≡ Some txn
    → ((m : Mode) (p r : ℕ) → is_held m new p r ≡ (is_held m old p r || (is_mode m mode && ((p == page) && (r == q)))))
    → AddsLock mode (locks_of old held) (locks_of new held) txn page
adds Shared held seats old new page q txn s own more = record {
  admitted = same_numbers held seats old new page q txn Shared s own more;
  shared = λ n p. lock_more held seats old new page q txn Shared s own more Shared n p;
  exclusive = λ n p. lock_more held seats old new page q txn Shared s own more Exclusive n p ∙ or_false (has_lock Exclusive (locks_of old held) n p);
}
adds Exclusive held seats old new page q txn s own more = record {
  admitted = same_numbers held seats old new page q txn Exclusive s own more;
  shared = λ n p. lock_more held seats old new page q txn Exclusive s own more Shared n p ∙ or_false (has_lock Shared (locks_of old held) n p);
  exclusive = λ n p. lock_more held seats old new page q txn Exclusive s own more Exclusive n p;
}

apart_adds : (mode : Mode) (old new : List Held) (by at : ℕ) → AddsLock mode old new by at → IsNobody (is_in_way (to_write mode) old by at) → KeepsApart old → KeepsApart new
apart_adds Shared old new by at = apart_shared old new by at
apart_adds Exclusive old new by at = apart_exclusive old new by at

-- the pages of a seat change, and its number stays
seated_same : (held : List Admitted) (seats : List Seat) (q : ℕ) (t : Seat) → q < MOST_OPEN → t.txn ≡ transaction_at seats q → AreSeated held seats → AreSeated held (set seats q t)
seated_same held seats q t lt is s = record {
  count = length-set seats q t ∙ s.count;
  seated = λ i d l. ((s.seated i d l).0, same (get_or held i d).place ∙ (s.seated i d l).1);
  admitted = λ place n e. s.admitted place n (sym (same place) ∙ e);
  single = λ one other n e f. s.single one other n (sym (same one) ∙ e) (sym (same other) ∙ f);
  distinct = s.distinct;
  free =
      let c = count-set seats q t within in
      let k = ap free_or_not is in
      let f = s.free in
      omega (arith, c, k, f);
}
  where
    within : q < length seats
    within = let c = s.count in omega (arith, c)

    same : (p : ℕ) → transaction_at (set seats q t) p ≡ transaction_at seats p
    same p = elim (cases_eq p q) [
      | inl here ↦ ap (transaction_at (set seats q t)) here ∙ (number-set_same seats q t within ∙ (is ∙ ap (transaction_at seats) (sym here)))
      | inr ne ↦ number-set_other seats q p t ne
    ]

covered_more : (pages : ℕ) (old new : List Holders) (seats : List Seat) (page q txn : ℕ) (mode : Mode) (t : Seat) → q < length seats
    → transaction_at seats q ≡ Some txn → t.txn ≡ Some txn → length new ≡ length old
    → ((p : ℕ) → in_set t.pages p ≡ (may_hold seats q p || (p == page))) → length t.pages ≡ length (seat_at seats q).pages
    → ((m : Mode) (p r : ℕ) → is_held m new p r ≡ (is_held m old p r || (is_mode m mode && ((p == page) && (r == q)))))
    → AreCovered pages old seats → AreCovered pages new (set seats q t)
covered_more pages old new seats page q txn mode t lt own is as_long noted as_wide more c = record {
  count = as_long ∙ c.count;
  covered = λ m p r low e. elim (or_cases (is_held m old p r) (is_mode m mode && ((p == page) && (r == q))) (sym (more m p r) ∙ e)) [
    | inl o ↦ grows r p (c.covered m p r low o)
    | inr n ↦
        let both = and_parts (p == page) (r == q) (and_parts (is_mode m mode) ((p == page) && (r == q)) n).1 in
        ap (λ k. may_hold (set seats q t) k p) (eqb-true r q both.1) ∙ (at_own p ∙ (ap (λ b. may_hold seats q p || b) both.0 ∙ or_true (may_hold seats q p)))
  ];
  empty = λ r p none. elim (cases_eq r q) [
    | inl here ↦
        let z : None ≡ Some txn = sym none ∙ (ap (transaction_at (set seats q t)) here ∙ (number-set_same seats q t lt ∙ is)) in absurd cc
    | inr ne ↦ ap (λ (x : Seat). in_set x.pages p) (seat-set_other seats q r t ne) ∙ c.empty r p (sym (number-set_other seats q r t ne) ∙ none)
  ];
  room = λ r low. elim (cases_eq r q) [
    | inl here ↦
        let o = c.room q (subst (λ k. k < MOST_OPEN) here low) in
        subst (λ k. HasRoom pages (seat_at (set seats q t) k).pages) (sym here)
        (subst (λ (x : Seat). HasRoom pages x.pages) (sym (seat-set_same seats q t lt))
        (let e = o.enough in let f = o.few in record { enough = omega (arith, e, as_wide); few = omega (arith, f, as_wide) }))
    | inr ne ↦ subst (λ (x : Seat). HasRoom pages x.pages) (sym (seat-set_other seats q r t ne)) (c.room r low)
  ];
}
  where
    or_true : (a : Bool) → (a || true) ≡ true
    or_true true = refl
    or_true false = refl

    at_own : (p : ℕ) → may_hold (set seats q t) q p ≡ (may_hold seats q p || (p == page))
    at_own p = ap (λ (x : Seat). in_set x.pages p) (seat-set_same seats q t lt) ∙ noted p

    grows : (r p : ℕ) → may_hold seats r p ≡ true → may_hold (set seats q t) r p ≡ true
    grows r p e = elim (cases_eq r q) [
      | inl here ↦
          ap (λ k. may_hold (set seats q t) k p) here
          ∙ (at_own p ∙ ap (λ b. b || (p == page)) (ap (λ k. may_hold seats k p) (sym here) ∙ e))
      | inr ne ↦ ap (λ (x : Seat). in_set x.pages p) (seat-set_other seats q r t ne) ∙ e
    ]

pub table_adds : (pages : ℕ) (holders : List Holders) (held : List Admitted) (seats : List Seat) (page q txn : ℕ) (mode : Mode) (h : Holders) (t : Seat)
    → page < length holders → q < MOST_OPEN → transaction_at seats q ≡ Some txn → t.txn ≡ Some txn
    → ((m : Mode) (r : ℕ) → has_bit (word_of m h) r ≡ (has_bit (word_of m (holders_at holders page)) r || (is_mode m mode && (r == q))))
    → ((p : ℕ) → in_set t.pages p ≡ (may_hold seats q p || (p == page))) → length t.pages ≡ length (seat_at seats q).pages
    → IsNobody (is_in_way (to_write mode) (locks_of holders held) txn page) → IsLockTable pages holders held seats
    → IsLockTable pages (set holders page h) held (set seats q t)
table_adds pages holders held seats page q txn mode h t lt low own is added noted as_wide free table =
    let more = held_more holders page q mode h lt added in
    let s = table.seated in record {
      seated = seated_same held seats q t low (is ∙ sym own) s;
      covered = covered_more pages holders (set holders page h) seats page q txn mode t (let c = s.count in omega (arith, c)) own is (length-set holders page h) noted as_wide more table.covered;
      apart = apart_adds mode (locks_of holders held) (locks_of (set holders page h) held) txn page (adds mode held seats holders (set holders page h) page q txn s own more) free table.apart;
    }
