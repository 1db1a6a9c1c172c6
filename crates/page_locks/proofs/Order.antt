-- The order of admission without one transaction.
use Rattle.std.proofs.Common.{◌≡◌, ℕ, zero, suc, ◌+◌, ◌<◌, Bool, true, false, not, cond, ◌==◌, nat_eq, ◌||◌, List, [], ◌∷◌, ◌++◌, length, filter, remove, get_or, Option, Some, None, refl, ap, sym, subst, ◌∙◌, inl, inr, arith}
use Rattle.std.specs.List.{list_any, AllByRecursion, IsDistinct, slice_get}
use Rattle.std.specs.Option.{IsSomeAnd}
use Rattle.std.specs.Cmp.{nat_eq_equiv}
use Rattle.std.proofs.lemmas.Bool.{cases_Bool, eq-eqb, eqb-true, ne_eqb}
use Rattle.std.proofs.lemmas.Option.{slice_get_within, get_or_from_slice_get}
use Rattle.std.proofs.lemmas.List.Elements.{All-filter, All-from_recursion, recursion_from_All}
use Rattle.std.proofs.lemmas.Map.Keys.{IsDistinct-head, IsDistinct-tail, IsDistinct-cons}
use Rattle.page_locks.specs.Sets.{is_among}
use Rattle.page_locks.specs.Places.{numbers_in}
use Rattle.page_locks.specs.declared.admitted.Admitted.{Admitted}
use Rattle.page_locks.proofs.Apart.{or_parts}

pub numbers-append : (held : List Admitted) (a : Admitted) → numbers_in (held ++ a ∷ []) ≡ numbers_in held ++ a.txn ∷ []
numbers-append [] a = refl
numbers-append (x ∷ xs) a = ap (λ ns. x.txn ∷ ns) (numbers-append xs a)

pub numbers-filter : (gone : ℕ) (held : List Admitted) → numbers_in (filter (λ a. not (a.txn == gone)) held) ≡ filter (λ n. not (n == gone)) (numbers_in held)
numbers-filter gone [] = refl
numbers-filter gone (a ∷ rest) = one a rest (numbers-filter gone rest) (not (a.txn == gone))
  where
    one : (a : Admitted) (rest : List Admitted) → numbers_in (filter (λ a. not (a.txn == gone)) rest) ≡ filter (λ n. not (n == gone)) (numbers_in rest)
        → (b : Bool) → numbers_in (cond b (a ∷ filter (λ a. not (a.txn == gone)) rest) (filter (λ a. not (a.txn == gone)) rest))
        ≡ cond b (a.txn ∷ filter (λ n. not (n == gone)) (numbers_in rest)) (filter (λ n. not (n == gone)) (numbers_in rest))
    one a rest e true = ap (λ ns. a.txn ∷ ns) e
    one a rest e false = e

-- the one that is gone isn't among them, and the others are as before
pub gone_away : (gone : ℕ) (ns : List ℕ) → is_among (filter (λ n. not (n == gone)) ns) gone ≡ false
gone_away gone [] = refl
gone_away gone (n ∷ ns) = elim (cases_Bool (n == gone)) [
  | inl e ↦ ap (λ b. is_among (cond (not b) (n ∷ filter (λ n. not (n == gone)) ns) (filter (λ n. not (n == gone)) ns)) gone) e ∙ gone_away gone ns
  | inr e ↦
      ap (λ b. is_among (cond (not b) (n ∷ filter (λ n. not (n == gone)) ns) (filter (λ n. not (n == gone)) ns)) gone) e
      ∙ (ap (λ b. b || is_among (filter (λ n. not (n == gone)) ns) gone) e ∙ gone_away gone ns)
]

pub others_among : (gone n : ℕ) (ns : List ℕ) → (n ≡ gone → ⊥) → is_among (filter (λ n. not (n == gone)) ns) n ≡ is_among ns n
others_among gone n [] ne = refl
others_among gone n (k ∷ ns) ne = elim (cases_Bool (k == gone)) [
  | inl e ↦
      let off : (k == n) ≡ false = ne_eqb k n (λ same. ne (sym same ∙ eqb-true k gone e)) in
      ap (λ b. is_among (cond (not b) (k ∷ filter (λ n. not (n == gone)) ns) (filter (λ n. not (n == gone)) ns)) n) e
      ∙ (others_among gone n ns ne ∙ sym (ap (λ b. b || is_among ns n) off))
  | inr e ↦
      ap (λ b. is_among (cond (not b) (k ∷ filter (λ n. not (n == gone)) ns) (filter (λ n. not (n == gone)) ns)) n) e
      ∙ ap (λ b. (k == n) || b) (others_among gone n ns ne)
]

-- ---- no transaction is admitted twice

-- where one isn't admitted, all stay
pub others_stay : (held : List Admitted) (gone : ℕ) → is_among (numbers_in held) gone ≡ false → filter (λ a. not (a.txn == gone)) held ≡ held
others_stay [] gone e = refl
others_stay (a ∷ rest) gone e =
    let p = or_parts (a.txn == gone) (is_among (numbers_in rest) gone) e in
    rw p.0 (ap (λ l. a ∷ l) (others_stay rest gone p.1))

-- one admitted before isn't admitted after
not_again : (ns : List ℕ) (txn : ℕ) → AllByRecursion (λ n. nat_eq txn n ≡ false) ns → is_among ns txn ≡ false
not_again [] txn a = refl
not_again (n ∷ ns) txn a = rw (nat_eq_equiv.symm n txn, a.0) (not_again ns txn a.1)

number_at_rank : (P : ℕ → Type 0) (held : List Admitted) (at : ℕ) (d : Admitted) → at < length held → AllByRecursion P (numbers_in held) → P (get_or held at d).txn
number_at_rank P [] at d lt a = absurd (omega arith)
number_at_rank P (h ∷ hs) zero d lt a = a.0
number_at_rank P (h ∷ hs) (suc at) d lt a = number_at_rank P hs at d (omega arith) a.1

-- to take one out is to keep the others
pub remove_is_filter : (held : List Admitted) (at : ℕ) (d : Admitted) → at < length held → IsDistinct nat_eq (numbers_in held)
    → remove held at ≡ filter (λ a. not (a.txn == (get_or held at d).txn)) held
remove_is_filter [] at d lt distinct = absurd (omega arith)
remove_is_filter (h ∷ hs) zero d lt distinct =
    rw (eq-eqb h.txn h.txn refl) (sym (others_stay hs h.txn (not_again (numbers_in hs) h.txn (IsDistinct-head nat_eq h.txn (numbers_in hs) distinct))))
remove_is_filter (h ∷ hs) (suc at) d lt distinct =
    let off : (h.txn == (get_or hs at d).txn) ≡ false =
    number_at_rank (λ n. nat_eq h.txn n ≡ false) hs at d (omega arith) (IsDistinct-head nat_eq h.txn (numbers_in hs) distinct) in
    rw off (ap (λ l. h ∷ l) (remove_is_filter hs at d (omega arith) (IsDistinct-tail nat_eq h.txn (numbers_in hs) distinct)))

-- one that is admitted is one of them
pub one_less : (held : List Admitted) (gone : ℕ) → IsDistinct nat_eq (numbers_in held) → is_among (numbers_in held) gone ≡ true
    → length (filter (λ a. not (a.txn == gone)) held) + 1 ≡ length held
one_less [] gone distinct e = cc
one_less (h ∷ hs) gone distinct e = elim (cases_Bool (h.txn == gone)) [
  | inl here ↦
      let rest : is_among (numbers_in hs) h.txn ≡ false = not_again (numbers_in hs) h.txn (IsDistinct-head nat_eq h.txn (numbers_in hs) distinct) in
      let all : filter (λ a. not (a.txn == gone)) hs ≡ hs = others_stay hs gone (ap (is_among (numbers_in hs)) (sym (eqb-true h.txn gone here)) ∙ rest) in
      let n = ap length all in
      rw here (omega (arith, n))
  | inr off ↦
      let n = one_less hs gone (IsDistinct-tail nat_eq h.txn (numbers_in hs) distinct) (sym (ap (λ b. b || is_among (numbers_in hs) gone) off) ∙ e) in
      rw off (omega (arith, n))
]

-- the others are distinct
pub distinct_filter : (test : ℕ → Bool) (ns : List ℕ) → IsDistinct nat_eq ns → IsDistinct nat_eq (filter test ns)
distinct_filter test [] d = d
distinct_filter test (n ∷ ns) d =
    one (test n) (distinct_filter test ns (IsDistinct-tail nat_eq n ns d))
    (recursion_from_All (λ m. nat_eq n m ≡ false) (filter test ns)
    (All-filter test (λ m. nat_eq n m ≡ false) ns (All-from_recursion (λ m. nat_eq n m ≡ false) ns (IsDistinct-head nat_eq n ns d))))
  where
    one : (b : Bool) → IsDistinct nat_eq (filter test ns) → AllByRecursion (λ m. nat_eq n m ≡ false) (filter test ns)
        → IsDistinct nat_eq (cond b (n ∷ filter test ns) (filter test ns))
    one true rest others = IsDistinct-cons nat_eq n (filter test ns) others rest
    one false rest others = rest

pub absent : (ns : List ℕ) (txn : ℕ) → is_among ns txn ≡ false → list_any (nat_eq txn) ns ≡ false
absent [] txn e = refl
absent (n ∷ ns) txn e =
    let p = or_parts (n == txn) (is_among ns txn) e in
    rw (nat_eq_equiv.symm txn n, p.0) (absent ns txn p.1)

at_place : (xs : List Admitted) (i : ℕ) (P : Admitted → Type 0) (o : Option Admitted) → slice_get xs i ≡ o → IsSomeAnd o P → (d : Admitted) → (i < length xs) × P (get_or xs i d)
at_place xs i P None e h d = absurd h
at_place xs i P (Some x) e h d = (slice_get_within xs i x e, subst P (sym (get_or_from_slice_get xs i x d e)) h)

pub found_at : (held : List Admitted) (at txn : ℕ) (d : Admitted) → IsSomeAnd (slice_get held at) (λ a. a.txn ≡ txn) → (at < length held) × ((get_or held at d).txn ≡ txn)
found_at held at txn d found = at_place held at (λ a. a.txn ≡ txn) (slice_get held at) refl found d
