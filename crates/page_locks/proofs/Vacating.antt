-- A place that is taken from the holders of pages.
use Rattle.std.proofs.Common.{◌≡◌, ◌≢◌, ℕ, ◌+◌, ◌-◌, ◌*◌, ◌/◌, ◌%◌, ◌^◌, ◌<◌, ◌≤◌, Bool, true, false, not, ◌||◌, ◌&&◌, ◌==◌, List, length, take, get_or, set, refl, ap, sym, ◌∙◌, ◌⊎◌, inl, inr, arith, bit_and, nat_lt, get_or-set_same, get_or-set_other}
use Rattle.std.proofs.lemmas.Bool.{cases_eq, eq-eqb, eqb-true, ne_eqb, cases_Bool, ltb-true, ltb-false}
use Rattle.std.proofs.lemmas.Nat.{and_le_l}
use Rattle.std.proofs.lemmas.List.{get_or_past, get_or-take, length-take}
use Rattle.page_locks.specs.Sets.{has_bit, in_set}
use Rattle.page_locks.specs.Words.{word_of, holders_at, nobody, is_held}
use Rattle.page_locks.specs.declared.holders.Holders.{Holders}
use Rattle.page_locks.specs.declared.holders.Mode.{Mode}
use Rattle.page_locks.proofs.Bits.{has_clear, has_none, and_false, or_false}
use Rattle.page_locks.proofs.Modes.{held_by_nobody}

-- ---- one page's holders change

pub held_past : (m : Mode) (holders : List Holders) (page q : ℕ) → length holders ≤ page → is_held m holders page q ≡ false
held_past m holders page q le = ap (λ (h : Holders). has_bit (word_of m h) q) (get_or_past holders page nobody le) ∙ held_by_nobody m q

pub held-set_same : (m : Mode) (holders : List Holders) (page q : ℕ) (h : Holders) → page < length holders → is_held m (set holders page h) page q ≡ has_bit (word_of m h) q
held-set_same m holders page q h lt = ap (λ (x : Holders). has_bit (word_of m x) q) (get_or-set_same holders page h nobody lt)

pub held-set_other : (m : Mode) (holders : List Holders) (page other q : ℕ) (h : Holders) → other ≢ page
    → is_held m (set holders page h) other q ≡ is_held m holders other q
held-set_other m holders page other q h ne = ap (λ (x : Holders). has_bit (word_of m x) q) (get_or-set_other holders page other h nobody ne)

-- ---- one bit of a word

pub clear_less : (n k : ℕ) → k < 64 → has_bit n k ≡ true → bit_and n (18446744073709551615 - 1 * 2 ^ k % 18446744073709551616) < n
clear_less n k lt on =
    let le = and_le_l n (18446744073709551615 - 1 * 2 ^ k % 18446744073709551616) in
    let ne : bit_and n (18446744073709551615 - 1 * 2 ^ k % 18446744073709551616) ≢ n = λ e.
    let off : has_bit n k ≡ false = ap (λ x. has_bit x k) (sym e) ∙ (has_clear n k k lt lt ∙ (ap (λ b. has_bit n k && not b) (eq-eqb k k refl) ∙ and_false (has_bit n k))) in
    let clash : true ≡ false = sym on ∙ off in cc in
    omega (arith, le, ne)

page_is : (page at k : ℕ) → k < 64 → (page == 64 * at + k) ≡ ((page / 64 == at) && (page % 64 == k))
page_is page at k lt = elim (cases_eq page (64 * at + k)) [
  | inl same ↦
      let d : page / 64 ≡ at = omega arith in
      let r : page % 64 ≡ k = omega arith in
      eq-eqb page (64 * at + k) same ∙ sym (ap (λ b. b && (page % 64 == k)) (eq-eqb (page / 64) at d) ∙ eq-eqb (page % 64) k r)
  | inr ne ↦ ne_eqb page (64 * at + k) ne ∙ sym (elim (cases_eq (page / 64) at) [
    | inl d ↦
        let off : page % 64 ≢ k = λ r. ne (omega arith) in
        ap (λ b. b && (page % 64 == k)) (eq-eqb (page / 64) at d) ∙ ne_eqb (page % 64) k off
    | inr off ↦ ap (λ b. b && (page % 64 == k)) (ne_eqb (page / 64) at off)
  ])
]

vacates : (H Q A W L B : Bool) → (B ≡ true → L ≡ true) → (L ≡ true → W ≡ true)
    → ((H && not (Q && (A && (W && not L)))) && not (Q && (A && B))) ≡ (H && not (Q && (A && (W && not (L && not B)))))
vacates false Q A W L B p q = refl
vacates true false A W L B p q = refl
vacates true true false W L B p q = refl
vacates true true true true true true p q = refl
vacates true true true true true false p q = refl
vacates true true true true false false p q = refl
vacates true true true true false true p q = let clash : false ≡ true = p refl in absurd cc
vacates true true true false true B p q = let clash : false ≡ true = q refl in absurd cc
vacates true true true false false true p q = let clash : false ≡ true = p refl in absurd cc
vacates true true true false false false p q = refl

-- the lowest bit of what is left of a word is done
pub bit_done : (first now new : List Holders) (at word left less place k : ℕ) (m : Mode) (page q : ℕ) → q < 64 → k < 64
    → has_bit left k ≡ true → ((i : ℕ) → i < 64 → has_bit left i ≡ true → has_bit word i ≡ true)
    → ((i : ℕ) → i < 64 → has_bit less i ≡ (has_bit left i && not (i == k)))
    → is_held m now page q ≡ (is_held m first page q && not ((q == place) && ((page / 64 == at) && (has_bit word (page % 64) && not (has_bit left (page % 64))))))
    → is_held m new page q ≡ (is_held m now page q && not ((q == place) && (page == 64 * at + k)))
    → is_held m new page q ≡ (is_held m first page q && not ((q == place) && ((page / 64 == at) && (has_bit word (page % 64) && not (has_bit less (page % 64))))))
bit_done first now new at word left less place k m page q low lt on within rest old is =
    let small : page % 64 < 64 = omega arith in
    is
    ∙ (ap (λ b. b && not ((q == place) && (page == 64 * at + k))) old
    ∙ (ap (λ b. (is_held m first page q && not ((q == place) && ((page / 64 == at) && (has_bit word (page % 64) && not (has_bit left (page % 64)))))) && not ((q == place) && b)) (page_is page at k lt)
    ∙ (vacates (is_held m first page q) (q == place) (page / 64 == at) (has_bit word (page % 64)) (has_bit left (page % 64)) (page % 64 == k)
    (λ e. ap (has_bit left) (eqb-true (page % 64) k e) ∙ on) (within (page % 64) small)
    ∙ ap (λ b. is_held m first page q && not ((q == place) && ((page / 64 == at) && (has_bit word (page % 64) && not b)))) (sym (rest (page % 64) small)))))

and_not_nothing : (a b : Bool) → b ≡ false → (a && not b) ≡ a
and_not_nothing true b e = ap not e
and_not_nothing false b e = refl

and_nothing : (a b : Bool) → b ≡ false → (a && b) ≡ false
and_nothing true b e = e
and_nothing false b e = refl

-- a page's holders without the place, and a page that isn't there
pub page_vacated : (now : List Holders) (p place : ℕ) (h : Holders) (m : Mode) (page q : ℕ) → p < length now
    → has_bit (word_of m h) q ≡ (has_bit (word_of m (holders_at now p)) q && not (q == place))
    → is_held m (set now p h) page q ≡ (is_held m now page q && not ((q == place) && (page == p)))
page_vacated now p place h m page q lt is = elim (cases_eq page p) [
  | inl same ↦
      ap (λ x. is_held m (set now p h) x q) same
      ∙ (held-set_same m now p q h lt
      ∙ (is
      ∙ (ap (λ b. is_held m now p q && not b) (sym (and_one (q == place)))
      ∙ (ap (λ b. is_held m now p q && not ((q == place) && b)) (sym (eq-eqb page p same))
      ∙ ap (λ x. is_held m now x q && not ((q == place) && (page == p))) (sym same)))))
  | inr ne ↦
      held-set_other m now p page q h ne
      ∙ sym (and_not_nothing (is_held m now page q) ((q == place) && (page == p)) (and_nothing (q == place) (page == p) (ne_eqb page p ne)))
]
  where
    and_one : (a : Bool) → (a && true) ≡ a
    and_one true = refl
    and_one false = refl

pub page_past : (now : List Holders) (p place : ℕ) (m : Mode) (page q : ℕ) → length now ≤ p
    → is_held m now page q ≡ (is_held m now page q && not ((q == place) && (page == p)))
page_past now p place m page q le = elim (cases_eq page p) [
  | inl same ↦
      let none : is_held m now page q ≡ false = held_past m now page q (omega arith) in
      none ∙ sym (ap (λ b. b && not ((q == place) && (page == p))) none)
  | inr ne ↦ sym (and_not_nothing (is_held m now page q) ((q == place) && (page == p)) (and_nothing (q == place) (page == p) (ne_eqb page p ne)))
]

-- ---- the words of a set

nat_cases : (a b : ℕ) → (a < b) ⊎ (b ≤ a)
nat_cases a b = elim (cases_Bool (nat_lt a b)) [
  | inl lt ↦ inl (ltb-true a b lt)
  | inr ge ↦ inr (ltb-false a b ge)
]

more_words : (words : List ℕ) (at word page : ℕ) → at < length words → word ≡ get_or words at 0
    → in_set (take (at + 1) words) page ≡ (in_set (take at words) page || ((page / 64 == at) && has_bit word (page % 64)))
more_words words at word page lt is = elim (cases_eq (page / 64) at) [
  | inl here ↦
      ap (λ w. has_bit w (page % 64)) (get_or-take (at + 1) words (page / 64) 0 (omega arith) ∙ (ap (λ i. get_or words i 0) here ∙ sym is))
      ∙ sym (ap (λ w. has_bit w (page % 64) || ((page / 64 == at) && has_bit word (page % 64))) (get_or_past (take at words) (page / 64) 0 (omega (arith, length-take at words)))
      ∙ (ap (λ b. b || ((page / 64 == at) && has_bit word (page % 64))) (has_none (page % 64))
      ∙ ap (λ b. b && has_bit word (page % 64)) (eq-eqb (page / 64) at here)))
  | inr off ↦
      same off
      ∙ sym (ap (λ b. in_set (take at words) page || (b && has_bit word (page % 64))) (ne_eqb (page / 64) at off) ∙ or_false (in_set (take at words) page))
]
  where
    same : page / 64 ≢ at → in_set (take (at + 1) words) page ≡ in_set (take at words) page
    same off = elim (nat_cases (page / 64) at) [
      | inl lt ↦ ap (λ w. has_bit w (page % 64)) (get_or-take (at + 1) words (page / 64) 0 (omega arith) ∙ sym (get_or-take at words (page / 64) 0 lt))
      | inr le ↦ ap (λ w. has_bit w (page % 64)) (get_or_past (take (at + 1) words) (page / 64) 0 (omega (arith, length-take (at + 1) words)) ∙ sym (get_or_past (take at words) (page / 64) 0 (omega (arith, length-take at words))))
    ]

both : (H Q X Y : Bool) → ((H && not (Q && X)) && not (Q && Y)) ≡ (H && not (Q && (X || Y)))
both false Q X Y = refl
both true false X Y = refl
both true true true Y = refl
both true true false Y = refl

pub word_done : (first now new : List Holders) (words : List ℕ) (at word place : ℕ) (m : Mode) (page q : ℕ) → at < length words → word ≡ get_or words at 0
    → is_held m now page q ≡ (is_held m first page q && not ((q == place) && in_set (take at words) page))
    → is_held m new page q ≡ (is_held m now page q && not ((q == place) && ((page / 64 == at) && has_bit word (page % 64))))
    → is_held m new page q ≡ (is_held m first page q && not ((q == place) && in_set (take (at + 1) words) page))
word_done first now new words at word place m page q lt is old done =
    done
    ∙ (ap (λ b. b && not ((q == place) && ((page / 64 == at) && has_bit word (page % 64)))) old
    ∙ (both (is_held m first page q) (q == place) (in_set (take at words) page) ((page / 64 == at) && has_bit word (page % 64))
    ∙ ap (λ b. is_held m first page q && not ((q == place) && b)) (sym (more_words words at word page lt is))))
