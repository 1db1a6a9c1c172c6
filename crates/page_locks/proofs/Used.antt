-- The words of a set that aren't 0.
use Rattle.std.proofs.Common.{◌≡◌, ◌≢◌, ℕ, ◌+◌, ◌*◌, ◌/◌, ◌%◌, ◌^◌, ◌<◌, ◌≤◌, Bool, true, false, cond, ◌||◌, ◌==◌, nat_eq, List, [], ◌∷◌, ◌++◌, length, take, get_or, set, refl, ap, sym, subst, ◌∙◌, inl, inr, arith, bit_or, length-append, get_or-set_same, get_or-set_other}
use Rattle.std.specs.List.{list_any, All, AllByRecursion, IsDistinct}
use Rattle.std.specs.Cmp.{nat_eq_equiv}
use Rattle.std.proofs.lemmas.Bool.{or_cases, cases_Bool, cases_eq, eq-eqb, eqb-true, ne_eqb}
use Rattle.std.proofs.lemmas.List.{length-set, take_more}
use Rattle.std.proofs.lemmas.List.Folds.{list_any-append}
use Rattle.std.proofs.lemmas.List.Elements.{All-nil, All-push, recursion_from_All}
use Rattle.std.proofs.lemmas.Map.Keys.{IsDistinct-push}
use Rattle.std.proofs.lemmas.Map.Steps.{length-le_from_distinct_below}
use Rattle.page_locks.specs.Sets.{has_bit, in_set, is_among, AreUsed}
use Rattle.page_locks.proofs.Bits.{or_false, or_true, has_set, has_none}
use Rattle.page_locks.proofs.Order.{absent}

among_push : (used : List ℕ) (at n : ℕ) → is_among (used ++ at ∷ []) n ≡ (is_among used n || (at == n))
among_push used at n = list_any-append (λ k. k == n) used (at ∷ []) ∙ ap (λ b. is_among used n || b) (or_false (at == n))

-- what all of them pass, one that is among them passes
one_of : (P : ℕ → Type 0) (used : List ℕ) (n : ℕ) → AllByRecursion P used → is_among used n ≡ true → P n
one_of P [] n all e = cc
one_of P (k ∷ ks) n all e = elim (or_cases (k == n) (is_among ks n) e) [
  | inl same ↦ subst P (eqb-true k n same) all.0
  | inr rest ↦ one_of P ks n all.1 rest
]

as_key : (used : List ℕ) (n : ℕ) → list_any (nat_eq n) used ≡ true → is_among used n ≡ true
as_key [] n e = cc
as_key (k ∷ ks) n e = elim (or_cases (nat_eq n k) (list_any (nat_eq n) ks) e) [
  | inl same ↦ ap (λ b. b || is_among ks n) (nat_eq_equiv.symm k n ∙ same)
  | inr rest ↦ ap (λ b. (k == n) || b) (as_key ks n rest) ∙ or_true (k == n)
]

module _ (words used : List ℕ) (at : ℕ) (u : AreUsed words used) (lt : at < length words) where
  unused : get_or words at 0 ≡ 0 → is_among used at ≡ false
  unused nil = elim (cases_Bool (is_among used at)) [
    | inl e ↦ absurd (one_of (λ k. get_or words k 0 ≢ 0) used at (recursion_from_All (λ k. get_or words k 0 ≢ 0) used u.only) e nil)
    | inr e ↦ e
  ]

  pushed : get_or words at 0 ≡ 0 → IsDistinct nat_eq (used ++ at ∷ [])
  pushed nil = IsDistinct-push nat_eq_equiv used at u.distinct (absent used at (unused nil))

  all_within : All (λ k. k < length words) (used ++ at ∷ [])
  all_within = All-push (λ k. k < length words) used at u.within lt

  pub room_for : get_or words at 0 ≡ 0 → length used + 1 ≤ length words
  room_for nil =
      let l = length-le_from_distinct_below (used ++ at ∷ []) (length words) (pushed nil) (λ q e.
      one_of (λ k. k < length words) (used ++ at ∷ []) q (recursion_from_All (λ k. k < length words) (used ++ at ∷ []) all_within) (as_key (used ++ at ∷ []) q e)) in
      omega (arith, l, length-append used (at ∷ []))

  module _ (new : ℕ) (some : new ≢ 0) where
    at_new : get_or (set words at new) at 0 ≢ 0
    at_new e = some (sym (get_or-set_same words at new 0 lt) ∙ e)

    others : (k : ℕ) → get_or words k 0 ≢ 0 → get_or (set words at new) k 0 ≢ 0
    others k ne = elim (cases_eq k at) [
      | inl here ↦ λ e. at_new (ap (λ i. get_or (set words at new) i 0) (sym here) ∙ e)
      | inr off ↦ λ e. ne (sym (get_or-set_other words at k new 0 off) ∙ e)
    ]

    as_long : length (set words at new) ≡ length words
    as_long = length-set words at new

    within_new : (xs : List ℕ) → All (λ k. k < length words) xs → All (λ k. k < length (set words at new)) xs
    within_new xs all = λ i d l. subst (λ n. get_or xs i d < n) (sym as_long) (all i d l)

    used_more : (b : Bool) → (get_or words at 0 == 0) ≡ b → AreUsed (set words at new) (cond b (used ++ at ∷ []) used)
    used_more true e =
        let nil = eqb-true (get_or words at 0) 0 e in record {
          within = within_new (used ++ at ∷ []) all_within;
          distinct = pushed nil;
          all = λ k ne. elim (cases_eq k at) [
            | inl here ↦ among_push used at k ∙ (ap (λ b. is_among used k || b) (eq-eqb at k (sym here)) ∙ or_true (is_among used k))
            | inr off ↦ among_push used at k ∙ ap (λ b. b || (at == k)) (u.all k (λ z. ne (get_or-set_other words at k new 0 off ∙ z)))
          ];
          only = All-push (λ k. get_or (set words at new) k 0 ≢ 0) used at (λ i d l. others (get_or used i d) (u.only i d l)) at_new;
        }
    used_more false e = record {
      within = within_new used u.within;
      distinct = u.distinct;
      all = λ k ne. elim (cases_eq k at) [
        | inl here ↦ u.all k (λ z.
            let t : true ≡ false = sym (eq-eqb (get_or words at 0) 0 (ap (λ i. get_or words i 0) (sym here) ∙ z)) ∙ e in cc)
        | inr off ↦ u.all k (λ z. ne (get_or-set_other words at k new 0 off ∙ z))
      ];
      only = λ i d l. others (get_or used i d) (u.only i d l);
    }

    pub used_after : AreUsed (set words at new) (cond (get_or words at 0 == 0) (used ++ at ∷ []) used)
    used_after = used_more (get_or words at 0 == 0) refl

-- a word with one bit more isn't 0
pub not_zero : (word k : ℕ) → k < 64 → bit_or word (1 * 2 ^ k % 18446744073709551616) ≢ 0
not_zero word k lt e =
    let on : has_bit (bit_or word (1 * 2 ^ k % 18446744073709551616)) k ≡ true =
    has_set word k k lt ∙ (ap (λ b. has_bit word k || b) (eq-eqb k k refl) ∙ or_true (has_bit word k)) in
    let off : has_bit (bit_or word (1 * 2 ^ k % 18446744073709551616)) k ≡ false = ap (λ x. has_bit x k) e ∙ has_none k in
    let clash : true ≡ false = sym on ∙ off in cc

nothing_used : IsDistinct nat_eq []
unfolding IsDistinct
nothing_used = tt

-- all words are 0
pub none_used : (words : List ℕ) → ((at : ℕ) → get_or words at 0 ≡ 0) → AreUsed words []
none_used words nil = record {
  within = All-nil (λ k. k < length words);
  distinct = nothing_used;
  all = λ at ne. absurd (ne (nil at));
  only = All-nil (λ k. get_or words k 0 ≢ 0);
}

pub none_in : (words : List ℕ) (page : ℕ) → get_or words (page / 64) 0 ≡ 0 → in_set words page ≡ false
none_in words page nil = ap (λ w. has_bit w (page % 64)) nil ∙ has_none (page % 64)

-- once the words that aren't 0 are cleared, all are 0
pub all_cleared : (words used : List ℕ) (at : ℕ) → AreUsed words used → cond (is_among used at) 0 (get_or words at 0) ≡ 0
all_cleared words used at u = elim (cases_Bool (is_among used at)) [
  | inl e ↦ ap (λ b. cond b 0 (get_or words at 0)) e
  | inr e ↦ ap (λ b. cond b 0 (get_or words at 0)) e ∙ elim (cases_eq (get_or words at 0) 0) [
    | inl z ↦ z
    | inr ne ↦ let t : true ≡ false = sym (u.all at ne) ∙ e in absurd cc
  ]
]

-- ---- the walks

pub one_more : (used : List ℕ) (i n : ℕ) → i < length used → is_among (take (i + 1) used) n ≡ (is_among (take i used) n || (get_or used i 0 == n))
one_more used i n lt = ap (λ xs. is_among xs n) (take_more used i 0 lt) ∙ among_push (take i used) (get_or used i 0) n

pub cleared_more : (words first used : List ℕ) (i at : ℕ) → i < length used → get_or used i 0 < length words
    → get_or words at 0 ≡ cond (is_among (take i used) at) 0 (get_or first at 0)
    → get_or (set words (get_or used i 0) 0) at 0 ≡ cond (is_among (take (i + 1) used) at) 0 (get_or first at 0)
cleared_more words first used i at lt within old = elim (cases_eq at (get_or used i 0)) [
  | inl here ↦
      ap (λ k. get_or (set words (get_or used i 0) 0) k 0) here
      ∙ (get_or-set_same words (get_or used i 0) 0 0 within
      ∙ sym (ap (λ b. cond b 0 (get_or first at 0)) (one_more used i at lt ∙ (ap (λ b. is_among (take i used) at || b) (eq-eqb (get_or used i 0) at (sym here)) ∙ or_true (is_among (take i used) at)))))
  | inr off ↦
      get_or-set_other words (get_or used i 0) at 0 0 off
      ∙ (old
      ∙ ap (λ b. cond b 0 (get_or first at 0)) (sym (one_more used i at lt ∙ (ap (λ b. is_among (take i used) at || b) (ne_eqb (get_or used i 0) at (λ e. off (sym e))) ∙ or_false (is_among (take i used) at)))))
]
