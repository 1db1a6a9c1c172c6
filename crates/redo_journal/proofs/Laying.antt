-- Images laid over others, one by one.
use Rattle.std.proofs.Common.{◌≡◌, inl, inr, ℕ, zero, suc, ◌+◌, ◌<◌, ◌≤◌, false, eqb, cond, List, [], ◌∷◌, ◌++◌, length, get_or, take, drop, set, Option, Some, None, refl, sym, ◌∙◌, ap, subst, arith, take-append-drop}
use native.Mathlib.Numerals.{unary_clauses}
use Rattle.std.specs.Prelude.{⊤}
use Rattle.std.specs.List.{AllByRecursion, insert}
use Rattle.std.specs.List.Sorted.{IsStrictlyIncreasing}
use Rattle.std.proofs.lemmas.Bool.{ne_eqb, eqb-true, cases_Bool}
use Rattle.page_image.specs.Pages.{PageParts}
use Rattle.redo_journal.specs.Record.{numbers_of}
use Rattle.redo_journal.specs.Replays.{later, last_image, image_among, AreLatest, IsLaidOver}
use Rattle.redo_journal.proofs.LastImages.{later-assoc, last-append}

-- ---- ascending

-- each number is at least `low`, and above the one before it
abbrev pub Rises : ℕ → List PageParts → Type 0
Rises low [] = ⊤
Rises low (p ∷ ps) = (low ≤ p.number) × Rises (p.number + 1) ps

abbrev pub Starts : ℕ → List PageParts → Type 0
Starts low [] = ⊤
Starts low (p ∷ ps) = low ≤ p.number

pub to_rises : (low : ℕ) (xs : List PageParts) → Starts low xs → IsStrictlyIncreasing (numbers_of xs) → Rises low xs
to_rises low [] le inc = tt
to_rises low (p ∷ []) le inc = (le, tt)
to_rises low (p ∷ q ∷ ps) le inc = (le, to_rises (p.number + 1) (q ∷ ps) (omega (arith, inc 0 (omega arith))) (λ k lt. simp unary_clauses (simp unary_clauses at (inc (suc k) (omega (arith, lt))))))

pub from_rises : (low : ℕ) (xs : List PageParts) → Rises low xs → IsStrictlyIncreasing (numbers_of xs)
from_rises low [] r k lt = absurd (omega arith)
from_rises low (p ∷ []) r k lt = absurd (omega (arith, lt))
from_rises low (p ∷ q ∷ ps) r zero lt = omega (arith, r.1.0)
from_rises low (p ∷ q ∷ ps) r (suc k) lt = simp unary_clauses (simp unary_clauses at (from_rises (p.number + 1) (q ∷ ps) r.1 k (omega (arith, lt))))

pub any_start : (xs : List PageParts) → Starts 0 xs
any_start [] = tt
any_start (p ∷ ps) = omega arith

-- ---- between what is below and what isn't

abbrev AreBelow : ℕ → List PageParts → Type 0
AreBelow n xs = AllByRecursion (λ p. p.number < n) xs

pub front_below : (n : ℕ) (xs : List PageParts) (at : ℕ) → at ≤ length xs → ((i : ℕ) → i < at → get_or (numbers_of xs) i 0 < n) → AreBelow n (take at xs)
front_below n xs zero le h = tt
front_below n [] (suc at) le h = absurd (omega (arith, le))
front_below n (p ∷ ps) (suc at) le h = (h 0 (omega arith), front_below n ps at (omega (arith, le)) (λ i lt. h (suc i) (omega (arith, lt))))

pub back_from : (n : ℕ) (xs : List PageParts) (at : ℕ) → (at < length xs → n ≤ get_or (numbers_of xs) at 0) → Starts n (drop at xs)
back_from n [] zero h = tt
back_from n [] (suc at) h = tt
back_from n (p ∷ ps) zero h = h (omega arith)
back_from n (p ∷ ps) (suc at) h = back_from n ps at (λ lt. h (omega (arith, lt)))

rises_between : (low : ℕ) (front rest : List PageParts) (image : PageParts) → low ≤ image.number → AreBelow image.number front → Starts (image.number + 1) rest → Rises low (front ++ rest) → Rises low (front ++ image ∷ rest)
rises_between low [] [] image le below above r = (le, tt)
rises_between low [] (q ∷ qs) image le below above r = (le, (above, r.1))
rises_between low (p ∷ front) rest image le below above r = (r.0, rises_between (p.number + 1) front rest image (omega (arith, below.0)) below.1 above r.1)

below_between : (n : ℕ) (front rest : List PageParts) (image : PageParts) → image.number < n → AreBelow n (front ++ rest) → AreBelow n (front ++ image ∷ rest)
below_between n [] rest image lt below = (lt, below)
below_between n (p ∷ front) rest image lt below = (below.0, below_between n front rest image lt below.1)

below_set : (n : ℕ) (xs : List PageParts) (at : ℕ) (image : PageParts) → image.number < n → AreBelow n xs → AreBelow n (set xs at image)
below_set n [] zero image lt below = tt
below_set n [] (suc at) image lt below = tt
below_set n (p ∷ ps) zero image lt below = (lt, below.1)
below_set n (p ∷ ps) (suc at) image lt below = (below.0, below_set n ps at image lt below.1)

-- ---- the image of a page

abbrev only : PageParts → ℕ → Option PageParts
only image page = cond (eqb image.number page) (Some image) None

-- an image before this one is of another page
passed : (p image : PageParts) (page : ℕ) (o : Option PageParts) → p.number < image.number → cond (eqb p.number page) (Some p) (later (only image page) o) ≡ later (only image page) (cond (eqb p.number page) (Some p) o)
passed p image page o lt =
    elim (cases_Bool (eqb p.number page)) [
      | inl is_it ↦
          let other : eqb image.number page ≡ false = ne_eqb image.number page (λ same. absurd (omega (arith, lt, same, eqb-true p.number page is_it))) in
          rw (is_it, other) refl
      | inr is_not ↦ rw is_not refl
    ]

pub laid_between : (front rest : List PageParts) (image : PageParts) (page : ℕ) → AreBelow image.number front → image_among (front ++ image ∷ rest) page ≡ later (only image page) (image_among (front ++ rest) page)
laid_between [] rest image page below =
    elim (cases_Bool (eqb image.number page)) [
      | inl is_it ↦ rw is_it refl
      | inr is_not ↦ rw is_not refl
    ]
laid_between (p ∷ front) rest image page below = ap (λ (o : Option PageParts). cond (eqb p.number page) (Some p) o) (laid_between front rest image page below.1) ∙ passed p image page (image_among (front ++ rest) page) below.0

pub laid_set : (xs : List PageParts) (at : ℕ) (image : PageParts) (page : ℕ) → at < length xs → get_or (numbers_of xs) at 0 ≡ image.number → AreBelow image.number (take at xs) → image_among (set xs at image) page ≡ later (only image page) (image_among xs page)
laid_set [] at image page lt same below = absurd (omega (arith, lt))
laid_set (p ∷ ps) zero image page lt same below =
    let is : p.number ≡ image.number = same in
    elim (cases_Bool (eqb image.number page)) [
      | inl is_it ↦ rw is_it refl
      | inr is_not ↦ rw (is, is_not) refl
    ]
laid_set (p ∷ ps) (suc at) image page lt same below = ap (λ (o : Option PageParts). cond (eqb p.number page) (Some p) o) (laid_set ps at image page (omega (arith, lt)) same below.1) ∙ passed p image page (image_among ps page) below.0

-- ---- more and more

-- over nothing each page has the last of them
pub laid_first : (xs b : List PageParts) → IsLaidOver xs [] b → (page : ℕ) → image_among b page ≡ last_image xs page
laid_first xs b laid page = laid page ∙ alone (last_image xs page)
  where
    alone : (o : Option PageParts) → later o None ≡ o
    alone (Some p) = refl
    alone None = refl

pub laid_nothing : (a : List PageParts) → IsLaidOver [] a a
laid_nothing a page = refl

pub laid_more : (xs ys a b c : List PageParts) → IsLaidOver xs a b → IsLaidOver ys b c → IsLaidOver (xs ++ ys) a c
laid_more xs ys a b c first second page =
    second page ∙ ap (λ (o : Option PageParts). later (last_image ys page) o) (first page) ∙ sym (ap (λ (o : Option PageParts). later o (image_among a page)) (last-append xs ys page) ∙ later-assoc (last_image ys page) (last_image xs page) (image_among a page))

-- ---- one image laid

module _ (pages : ℕ) (xs : List PageParts) (image : PageParts) (at : ℕ) (latest : AreLatest pages xs) (lt : image.number < pages) (fits : at ≤ length xs) (before : (i : ℕ) → i < at → get_or (numbers_of xs) i 0 < image.number) where
  pub inserted : (at < length xs → image.number < get_or (numbers_of xs) at 0) → AreLatest pages (insert xs at image) × IsLaidOver (image ∷ []) xs (insert xs at image)
  inserted above =
      let whole = take-append-drop at xs in
      let front = front_below image.number xs at fits before in
      let rises = subst (λ (ys : List PageParts). Rises 0 ys) (sym whole) (to_rises 0 xs (any_start xs) latest.ascending) in
      let below = subst (λ (ys : List PageParts). AreBelow pages ys) (sym whole) latest.below in (
        record {
          ascending = from_rises 0 (insert xs at image) (rises_between 0 (take at xs) (drop at xs) image (omega arith) front (back_from (image.number + 1) xs at (λ l. omega (arith, above l))) rises);
          below = below_between pages (take at xs) (drop at xs) image lt below;
        },
        λ page. laid_between (take at xs) (drop at xs) image page front ∙ ap (λ (ys : List PageParts). later (only image page) (image_among ys page)) whole,
      )

  pub replaced : at < length xs → get_or (numbers_of xs) at 0 ≡ image.number → AreLatest pages (set xs at image) × IsLaidOver (image ∷ []) xs (set xs at image)
  replaced inside same = (
    record {
      ascending = subst (λ (ns : List ℕ). IsStrictlyIncreasing ns) (sym (same_numbers xs at image inside same)) latest.ascending;
      below = below_set pages xs at image lt latest.below;
    },
    λ page. laid_set xs at image page inside same (front_below image.number xs at fits before),
  )
    where
      same_numbers : (ys : List PageParts) (i : ℕ) (q : PageParts) → i < length ys → get_or (numbers_of ys) i 0 ≡ q.number → numbers_of (set ys i q) ≡ numbers_of ys
      same_numbers [] i q l is = refl
      same_numbers (y ∷ ys) zero q l is = ap (λ (n : ℕ). n ∷ numbers_of ys) (sym is)
      same_numbers (y ∷ ys) (suc i) q l is = ap (λ (ns : List ℕ). y.number ∷ ns) (same_numbers ys i q (omega (arith, l)) is)
