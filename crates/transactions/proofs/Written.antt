-- Pages written, ascending.
use Rattle.std.proofs.Common.{◌≡◌, ℕ, ◌+◌, ◌-◌, ◌<◌, ◌≤◌, ◌==◌, ◌≢◌, if◌then◌else◌, Bool, true, false, List, ◌∷◌, length, Ok, Err, Result, MatchResult, sym, ◌∙◌, ap, arith, ◌⊎◌, inl, inr, get_or, nat_cmp}
use Rattle.std.specs.List.{insert, All}
use Rattle.std.specs.List.Sorted.{IsBinarySearchResult}
use Rattle.std.proofs.lemmas.Bool.{cases_eq, cases_lt, eq-eqb, ne_eqb}
use Rattle.std.proofs.lemmas.List.Edits.{get_or-insert_at, get_or-insert_below, get_or-insert_above, length-insert}
use Rattle.std.proofs.lemmas.List.Sorted.{IsPermutation-insert, list_any-IsPermutation, searched}
use Rattle.std.proofs.lemmas.Grind.{get_or_default_zero}
use Rattle.std.proofs.lemmas.List.Folds.{list_any_at, list_any_none}
use Rattle.store_model.specs.Causes.{has_page}
use Rattle.store_model.specs.Steps.{with_page}
use Rattle.transactions.specs.Tables.{IsAscending, IsPlaceFor, HaveSamePages}

abbrev at : List ℕ → ℕ → ℕ
at pages i = get_or pages i 0

-- a page put in its place leaves the pages ascending
pub ascending_more : (pages : List ℕ) (page here : ℕ) → IsAscending pages → IsPlaceFor page here pages → IsAscending (insert pages here page)
ascending_more pages page here up place i j less within = by_cases (cases_lt j here) (cases_eq j here)
  where
    long : length (insert pages here page) ≡ length pages + 1
    long = length-insert pages here page place.within

    low : (k : ℕ) → k < here → at (insert pages here page) k ≡ at pages k
    low k h = get_or-insert_below pages here page 0 k h place.within

    self : at (insert pages here page) here ≡ page
    self = get_or-insert_at pages here page 0 place.within

    high : (k : ℕ) → here < k → at (insert pages here page) k ≡ at pages (k - 1)
    high k h =
        let k1 : k ≡ (k - 1) + 1 = omega (arith, h) in
        let h1 : here ≤ k - 1 = omega (arith, h) in
        ap (at (insert pages here page)) k1 ∙ get_or-insert_above pages here page 0 (k - 1) h1 place.within

    by_cases : (j < here) ⊎ (here ≤ j) → (j ≡ here) ⊎ (j ≢ here) → at (insert pages here page) i < at (insert pages here page) j
    by_cases (inl before) e =
        let i_low : i < here = omega (arith, less, before) in
        let j_in : j < length pages = omega (arith, before, place.within) in
        let a = low i i_low in
        let b = low j before in
        let c = up i j less j_in in
        omega (arith, a, b, c)
    by_cases (inr after) (inl e) =
        let i_low : i < here = omega (arith, less, e) in
        let a = low i i_low in
        let b : at (insert pages here page) j ≡ page = ap (at (insert pages here page)) e ∙ self in
        let c = place.below i i_low in
        omega (arith, a, b, c)
    by_cases (inr after) (inr other) =
        let j_high : here < j = omega (arith, after, other) in
        let j_in : j - 1 < length pages = omega (arith, within, long, j_high) in
        let b = high j j_high in
        by_first (cases_lt i here) (cases_eq i here) j_high j_in b
      where
        by_first : (i < here) ⊎ (here ≤ i) → (i ≡ here) ⊎ (i ≢ here) → here < j → j - 1 < length pages → at (insert pages here page) j ≡ at pages (j - 1)
            → at (insert pages here page) i < at (insert pages here page) j
        by_first (inl before) e j_high j_in b =
            let a = low i before in
            let less1 : i < j - 1 = omega (arith, before, j_high) in
            let c = up i (j - 1) less1 j_in in
            omega (arith, a, b, c)
        by_first (inr after1) (inl e) j_high j_in b =
            let a : at (insert pages here page) i ≡ page = ap (at (insert pages here page)) e ∙ self in
            let h1 : here ≤ j - 1 = omega (arith, j_high) in
            let c = place.above (j - 1) h1 j_in in
            omega (arith, a, b, c)
        by_first (inr after1) (inr other1) j_high j_in b =
            let i_high : here < i = omega (arith, after1, other1) in
            let a = high i i_high in
            let less1 : i - 1 < j - 1 = omega (arith, less, i_high) in
            let c = up (i - 1) (j - 1) less1 j_in in
            omega (arith, a, b, c)

-- and it is one page more
pub one_more : (pages : List ℕ) (page here : ℕ) → has_page pages page ≡ false → here ≤ length pages → HaveSamePages (insert pages here page) (with_page page pages)
one_more pages page here absent within = record {
  count = length-insert pages here page within ∙ longer ∙ sym (ap length skipped);
  each = λ q. sym (list_any-IsPermutation (λ (p : ℕ). p == q) (page ∷ pages) (insert pages here page) (IsPermutation-insert pages here page)) ∙ sym (ap (λ (ps : List ℕ). has_page ps q) skipped);
}
  where
    longer : length pages + 1 ≡ length (page ∷ pages)
    longer = omega arith

    skipped : with_page page pages ≡ page ∷ pages
    skipped = ap (λ (b : Bool). if b then pages else page ∷ pages) absent

-- where the search ends: the page is there, or its place is
abbrev IsFound : List ℕ → ℕ → Result ℕ ℕ → Type 0
IsFound pages page r = MatchResult r (λ i. (i < length pages) × (at pages i ≡ page)) (λ i. (i ≤ length pages) × ((k : ℕ) → k < i → at pages k < page) × ((k : ℕ) → i ≤ k → k < length pages → page < at pages k))

ends : (pages : List ℕ) (page : ℕ) (r : Result ℕ ℕ) → IsAscending pages → IsBinarySearchResult (λ y. nat_cmp y page) pages r → IsFound pages page r
ends pages page r up found = searched pages page r found rising
  where
    rising : (i j : ℕ) → i ≤ j → j < length pages → at pages i ≤ at pages j
    rising i j less within = elim (cases_eq i j) [
      | inl e ↦ let same : at pages i ≡ at pages j = ap (at pages) e in omega (arith, same)
      | inr other ↦ let less1 : i < j = omega (arith, less, other) in let c = up i j less1 within in omega (arith, c)
    ]

-- so the search tells whether the page is there
pub is_there : (pages : List ℕ) (page : ℕ) (r : Result ℕ ℕ) → IsAscending pages → IsBinarySearchResult (λ y. nat_cmp y page) pages r → MatchResult r (λ i. true ≡ has_page pages page) (λ i. false ≡ has_page pages page)
is_there pages page r up found = by_result r (ends pages page r up found)
  where
    by_result : (r : Result ℕ ℕ) → IsFound pages page r → MatchResult r (λ i. true ≡ has_page pages page) (λ i. false ≡ has_page pages page)
    by_result (Ok i) h = sym (list_any_at (λ (p : ℕ). p == page) pages i 0 h.0 (eq-eqb (at pages i) page h.1))
    by_result (Err i) h = sym (list_any_none (λ (p : ℕ). p == page) pages other)
      where
        other : All (λ (p : ℕ). (p == page) ≡ false) pages
        other k d low = let same = get_or_default_zero pages k d low in elim (cases_lt k i) [
          | inl less ↦ let l = h.1 k less in ne_eqb (get_or pages k d) page (λ (e : get_or pages k d ≡ page). omega (arith, l, same, e))
          | inr more ↦ let l = h.2 k more low in ne_eqb (get_or pages k d) page (λ (e : get_or pages k d ≡ page). omega (arith, l, same, e))
        ]

-- a page that isn't there has its place
pub place_found : (pages : List ℕ) (page : ℕ) (r : Result ℕ ℕ) → IsAscending pages → IsBinarySearchResult (λ y. nat_cmp y page) pages r → has_page pages page ≡ false
    → MatchResult r (λ i. ⊥) (λ i. IsPlaceFor page i pages)
place_found pages page r up found absent = by_result r (ends pages page r up found)
  where
    by_result : (r : Result ℕ ℕ) → IsFound pages page r → MatchResult r (λ i. ⊥) (λ i. IsPlaceFor page i pages)
    by_result (Ok i) h =
        let there : has_page pages page ≡ true = list_any_at (λ (p : ℕ). p == page) pages i 0 h.0 (eq-eqb (at pages i) page h.1) in
        cc
    by_result (Err i) h = record { within = h.0; below = h.1; above = h.2 }
