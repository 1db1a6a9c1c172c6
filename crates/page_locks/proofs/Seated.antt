-- Who has which place.
use Rattle.std.proofs.Common.{◌≡◌, ◌≢◌, ℕ, suc, ◌+◌, ◌<◌, Bool, true, false, ◌||◌, ◌&&◌, ◌==◌, Option, Some, None, List, [], ◌∷◌, length, get_or, set, refl, ap, sym, ◌∙◌, ◌⊎◌, inl, inr, arith, get_or-set_same, get_or-set_other}
use Rattle.std.specs.List.{list_any, AllByRecursion}
use Rattle.std.proofs.lemmas.Bool.{or_cases, cases_Bool, cases_eq, eq-eqb, eqb-true, ne_eqb}
use Rattle.std.proofs.lemmas.List.{get_or_default}
use Rattle.std.proofs.lemmas.List.Elements.{recursion_from_All}
use Rattle.std.proofs.lemmas.List.Sums.{sum_by-set, sum_by-cons}
use Rattle.object_graph.specs.declared.limits.TheConstants.{MOST_OPEN}
use Rattle.page_locks.specs.Sets.{is_among}
use Rattle.page_locks.specs.Words.{nobody, holders_at, is_held}
use Rattle.page_locks.specs.Places.{free_seat, seat_at, transaction_at, free_or_not, count_free, locks_of, numbers_in, AreSeated}
use Rattle.page_locks.specs.declared.admitted.Admitted.{Admitted}
use Rattle.page_locks.specs.declared.holders.Holders.{Holders}
use Rattle.page_locks.specs.declared.holders.Mode.{Mode}
use Rattle.page_locks.specs.declared.seats.Seat.{Seat}
use Rattle.page_locks.proofs.Apart.{or_parts}
use Rattle.page_locks.proofs.Modes.{has_lock, has_lock-locks_of}

-- ---- one seat changes

pub number-set_same : (seats : List Seat) (q : ℕ) (s : Seat) → q < length seats → transaction_at (set seats q s) q ≡ s.txn
number-set_same seats q s lt = ap (λ (x : Seat). x.txn) (get_or-set_same seats q s free_seat lt)

pub number-set_other : (seats : List Seat) (q p : ℕ) (s : Seat) → p ≢ q → transaction_at (set seats q s) p ≡ transaction_at seats p
number-set_other seats q p s ne = ap (λ (x : Seat). x.txn) (get_or-set_other seats q p s free_seat ne)

pub count-set : (seats : List Seat) (q : ℕ) (s : Seat) → q < length seats
    → count_free (set seats q s) + free_or_not (transaction_at seats q) ≡ count_free seats + free_or_not s.txn
count-set seats q s lt = sum_by-set (λ (x : Seat). free_or_not x.txn) seats q s free_seat lt

pub none_free : (seats : List Seat) → ((q : ℕ) → q < length seats → transaction_at seats q ≢ None) → count_free seats ≡ 0
none_free [] taken = refl
none_free (s ∷ ss) taken =
    let rest : count_free ss ≡ 0 = none_free ss (λ q lt. taken (suc q) (omega arith)) in
    let first : free_or_not s.txn ≡ 0 = one s.txn (taken 0 (omega arith)) in
    sum_by-cons (λ (x : Seat). free_or_not x.txn) s ss ∙ omega (arith, rest, first)
  where
    one : (o : Option ℕ) → o ≢ None → free_or_not o ≡ 0
    one None ne = absurd (ne refl)
    one (Some n) ne = refl

-- ---- a transaction and its place

-- one that is admitted, with what is known of all
one_among : (held : List Admitted) (P : Admitted → Type 0) (n : ℕ) → is_among (numbers_in held) n ≡ true → AllByRecursion P held → (a : Admitted) × P a × (a.txn ≡ n)
one_among [] P n e all = cc
one_among (a ∷ others) P n e all = elim (or_cases (a.txn == n) (is_among (numbers_in others) n) e) [
  | inl same ↦ (a, all.0, eqb-true a.txn n same)
  | inr rest ↦ one_among others P n rest all.1
]

pub seat_of : (held : List Admitted) (seats : List Seat) (n : ℕ) → AreSeated held seats → is_among (numbers_in held) n ≡ true
    → (q : ℕ) × (q < MOST_OPEN) × (transaction_at seats q ≡ Some n)
seat_of held seats n s e =
    let f = one_among held (λ a. (a.place < MOST_OPEN) × (transaction_at seats a.place ≡ Some a.txn)) n e
    (recursion_from_All (λ a. (a.place < MOST_OPEN) × (transaction_at seats a.place ≡ Some a.txn)) held s.seated) in
    (f.0.place, f.1.0, f.1.1 ∙ ap Some f.2)

pub seat_or_not : (held : List Admitted) (seats : List Seat) (n : ℕ) → AreSeated held seats
    → ((q : ℕ) × (q < MOST_OPEN) × (transaction_at seats q ≡ Some n)) ⊎ (is_among (numbers_in held) n ≡ false)
seat_or_not held seats n s = elim (cases_Bool (is_among (numbers_in held) n)) [
  | inl e ↦ inl (seat_of held seats n s e)
  | inr e ↦ inr e
]

absorb : (x m : Bool) → (x || (m && x)) ≡ x
absorb true m = refl
absorb false true = refl
absorb false false = refl

any_alike : (held : List Admitted) (n q : ℕ) (g : ℕ → Bool) → AllByRecursion (λ a. a.txn ≡ n → a.place ≡ q) held
    → list_any (λ a. (a.txn == n) && g a.place) held ≡ (is_among (numbers_in held) n && g q)
any_alike [] n q g all = refl
any_alike (a ∷ others) n q g all = elim (cases_eq a.txn n) [
  | inl same ↦
      ap (λ b. (b && g a.place) || list_any (λ a. (a.txn == n) && g a.place) others) (eq-eqb a.txn n same)
      ∙ (ap (λ p. g p || list_any (λ a. (a.txn == n) && g a.place) others) (all.0 same)
      ∙ (ap (λ b. g q || b) (any_alike others n q g all.1)
      ∙ (absorb (g q) (is_among (numbers_in others) n)
      ∙ sym (ap (λ b. (b || is_among (numbers_in others) n) && g q) (eq-eqb a.txn n same)))))
  | inr ne ↦
      ap (λ b. (b && g a.place) || list_any (λ a. (a.txn == n) && g a.place) others) (ne_eqb a.txn n ne)
      ∙ (any_alike others n q g all.1
      ∙ sym (ap (λ b. (b || is_among (numbers_in others) n) && g q) (ne_eqb a.txn n ne)))
]

any_none : (held : List Admitted) (n : ℕ) (g : ℕ → Bool) → is_among (numbers_in held) n ≡ false → list_any (λ a. (a.txn == n) && g a.place) held ≡ false
any_none [] n g e = refl
any_none (a ∷ others) n g e =
    let p = or_parts (a.txn == n) (is_among (numbers_in others) n) e in
    ap (λ b. (b && g a.place) || list_any (λ a. (a.txn == n) && g a.place) others) p.0 ∙ any_none others n g p.1

-- the locks of a transaction are the bits of its place
pub lock_at : (held : List Admitted) (seats : List Seat) (holders : List Holders) (m : Mode) (n page q : ℕ) → AreSeated held seats → transaction_at seats q ≡ Some n
    → has_lock m (locks_of holders held) n page ≡ is_held m holders page q
lock_at held seats holders m n page q s e =
    has_lock-locks_of m holders held n page
    ∙ (any_alike held n q (λ p. is_held m holders page p)
    (recursion_from_All (λ a. a.txn ≡ n → a.place ≡ q) held (λ i d lt same. s.single (get_or held i d).place q n ((s.seated i d lt).1 ∙ ap Some same) e))
    ∙ ap (λ b. b && is_held m holders page q) (s.admitted q n e))

pub no_lock : (held : List Admitted) (holders : List Holders) (m : Mode) (n page : ℕ) → is_among (numbers_in held) n ≡ false
    → has_lock m (locks_of holders held) n page ≡ false
no_lock held holders m n page e = has_lock-locks_of m holders held n page ∙ any_none held n (λ p. is_held m holders page p) e

pub some_same : (a b : ℕ) → Some a ≡ Some b → a ≡ b
some_same a b e = ap (λ o. of o) e
  where
    of : Option ℕ → ℕ
    of None = 0
    of (Some n) = n

-- two places are one where their numbers are
pub same_place : (held : List Admitted) (seats : List Seat) (q place n txn : ℕ) → AreSeated held seats → transaction_at seats q ≡ Some n → transaction_at seats place ≡ Some txn
    → (q == place) ≡ (n == txn)
same_place held seats q place n txn s e f = elim (cases_eq q place) [
  | inl same ↦ eq-eqb q place same ∙ sym (eq-eqb n txn (some_same n txn (sym e ∙ (ap (transaction_at seats) same ∙ f))))
  | inr ne ↦ ne_eqb q place ne ∙ sym (ne_eqb n txn (λ same. ne (s.single q place n e (f ∙ ap Some (sym same)))))
]

-- who has no place isn't admitted
pub unseated : (held : List Admitted) (seats : List Seat) (txn : ℕ) → AreSeated held seats → ((q : ℕ) → transaction_at seats q ≢ Some txn) → is_among (numbers_in held) txn ≡ false
unseated held seats txn s never = elim (cases_Bool (is_among (numbers_in held) txn)) [
  | inl e ↦ let f = seat_of held seats txn s e in absurd (never f.0 f.2)
  | inr e ↦ e
]

-- what is read at a place
pub seat_is : (seats : List Seat) (q : ℕ) (s : Seat) → q < length seats → s ≡ get_or seats q s → s ≡ seat_at seats q
seat_is seats q s lt is = is ∙ get_or_default seats q s free_seat lt

pub holders_are : (holders : List Holders) (page : ℕ) (h : Holders) → page < length holders → h ≡ get_or holders page h → h ≡ holders_at holders page
holders_are holders page h lt is = is ∙ get_or_default holders page h nobody lt
