-- Sets as words.
use Rattle.std.proofs.Common.{◌≡◌, ℕ, ◌/◌, ◌%◌, ◌*◌, ◌^◌, ◌<◌, ◌-◌, Bool, true, false, ◌||◌, ◌&&◌, ◌==◌, not, List, length, get_or, set, refl, ap, sym, ◌∙◌, inl, inr, arith, zero, suc, bit_and, bit_or, max, w64, get_or-set_same, get_or-set_other}
use Rattle.std.specs.Int.{bit_at}
use Rattle.std.proofs.lemmas.Nat.Bits.{bit_at_set_same, bit_at_set_other, bit_at_clear_same, bit_at_clear_other, bit_at_or, bit_at-lt, bit_at-zero}
use Rattle.std.proofs.lemmas.Bool.{cases_eq, eq-eqb, ne_eqb}
use Rattle.std.proofs.lemmas.Grind.{get_or_default_zero}
use Rattle.page_locks.specs.Sets.{has_bit, in_set}

pub or_false : (a : Bool) → (a || false) ≡ a
or_false true = refl
or_false false = refl

pub or_true : (a : Bool) → (a || true) ≡ true
or_true true = refl
or_true false = refl

in_set-set : (words : List ℕ) (page p : ℕ) → page / 64 < length words
    → in_set (set words (page / 64) (bit_or (get_or words (page / 64) 0) (1 * 2 ^ (page % 64) % 18446744073709551616))) p ≡ (in_set words p || (p == page))
in_set-set words page p lt = elim (cases_eq (p / 64) (page / 64)) [
  | inl same ↦
      let at : get_or (set words (page / 64) word) (p / 64) 0 ≡ word =
      ap (λ i. get_or (set words (page / 64) word) i 0) same ∙ get_or-set_same words (page / 64) word 0 lt in
      elim (cases_eq (p % 64) (page % 64)) [
        | inl here ↦
            let e : p ≡ page = omega arith in
            ap (λ n. bit_at n (p % 64) == 1) at ∙ (ap (λ i. bit_at word i == 1) here ∙ (ap (λ n. n == 1) (bit_at_set_same w64 (get_or words (page / 64) 0) (page % 64) k)
            ∙ sym (ap (λ b. in_set words p || b) (eq-eqb p page e) ∙ or_true (in_set words p))))
        | inr away ↦
            let ne : p ≡ page → ⊥ = λ e. away (ap (λ n. n % 64) e) in
            ap (λ n. bit_at n (p % 64) == 1) at ∙ (ap (λ n. n == 1) (bit_at_set_other w64 (get_or words (page / 64) 0) (page % 64) k (p % 64) away)
            ∙ (ap (λ i. bit_at (get_or words i 0) (p % 64) == 1) (sym same)
            ∙ sym (ap (λ b. in_set words p || b) (ne_eqb p page ne) ∙ or_false (in_set words p))))
      ]
  | inr off ↦
      let ne : p ≡ page → ⊥ = λ e. off (ap (λ n. n / 64) e) in
      ap (λ n. bit_at n (p % 64) == 1) (get_or-set_other words (page / 64) (p / 64) word 0 off)
      ∙ sym (ap (λ b. in_set words p || b) (ne_eqb p page ne) ∙ or_false (in_set words p))
]
  where
    word : ℕ
    word = bit_or (get_or words (page / 64) 0) (1 * 2 ^ (page % 64) % 18446744073709551616)

    k : page % 64 < 64
    k = omega arith

pub in_set-insert : (words : List ℕ) (page p word : ℕ) → page / 64 < length words → word ≡ get_or words (page / 64) word
    → in_set (set words (page / 64) (bit_or word (1 * 2 ^ (page % 64) % 18446744073709551616))) p ≡ (in_set words p || (p == page))
in_set-insert words page p word lt is =
    ap (λ w. in_set (set words (page / 64) (bit_or w (1 * 2 ^ (page % 64) % 18446744073709551616))) p) (is ∙ get_or_default_zero words (page / 64) word lt)
    ∙ in_set-set words page p lt

-- ---- sets of places

pub and_true : (a : Bool) → (a && true) ≡ a
and_true true = refl
and_true false = refl

pub and_false : (a : Bool) → (a && false) ≡ false
and_false true = refl
and_false false = refl

pub has_set : (n k q : ℕ) → k < 64 → has_bit (bit_or n (1 * 2 ^ k % 18446744073709551616)) q ≡ (has_bit n q || (q == k))
has_set n k q lt = elim (cases_eq q k) [
  | inl same ↦
      ap (λ i. bit_at (bit_or n (1 * 2 ^ k % 18446744073709551616)) i == 1) same
      ∙ (ap (λ b. b == 1) (bit_at_set_same w64 n k lt) ∙ sym (ap (λ b. has_bit n q || b) (eq-eqb q k same) ∙ or_true (has_bit n q)))
  | inr ne ↦
      ap (λ b. b == 1) (bit_at_set_other w64 n k lt q ne) ∙ sym (ap (λ b. has_bit n q || b) (ne_eqb q k ne) ∙ or_false (has_bit n q))
]

pub has_clear : (n k q : ℕ) → k < 64 → q < 64
    → has_bit (bit_and n (18446744073709551615 - 1 * 2 ^ k % 18446744073709551616)) q ≡ (has_bit n q && not (q == k))
has_clear n k q lt low = elim (cases_eq q k) [
  | inl same ↦
      ap (λ i. bit_at (bit_and n (18446744073709551615 - 1 * 2 ^ k % 18446744073709551616)) i == 1) same
      ∙ (ap (λ b. b == 1) (bit_at_clear_same w64 n k lt) ∙ sym (ap (λ b. has_bit n q && not b) (eq-eqb q k same) ∙ and_false (has_bit n q)))
  | inr ne ↦
      ap (λ b. b == 1) (bit_at_clear_other w64 n k lt q low ne) ∙ sym (ap (λ b. has_bit n q && not b) (ne_eqb q k ne) ∙ and_true (has_bit n q))
]

one_of : (a b : ℕ) → a < 2 → b < 2 → (max a b == 1) ≡ ((a == 1) || (b == 1))
one_of zero zero p q = refl
one_of zero (suc zero) p q = refl
one_of (suc zero) zero p q = refl
one_of (suc zero) (suc zero) p q = refl
one_of (suc (suc a)) b p q = absurd (omega arith)
one_of zero (suc (suc b)) p q = absurd (omega arith)
one_of (suc zero) (suc (suc b)) p q = absurd (omega arith)

pub has_or : (n m q : ℕ) → has_bit (bit_or n m) q ≡ (has_bit n q || has_bit m q)
has_or n m q = ap (λ b. b == 1) (bit_at_or n m q) ∙ one_of (bit_at n q) (bit_at m q) (bit_at-lt n q) (bit_at-lt m q)

pub has_none : (q : ℕ) → has_bit 0 q ≡ false
has_none q = ap (λ b. b == 1) (bit_at-zero q)
