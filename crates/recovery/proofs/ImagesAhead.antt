-- Images of pages that ascend, taken one after the other.
use Rattle.std.proofs.Common.{◌≡◌, ◌≢◌, ℕ, suc, ◌+◌, ◌<◌, ◌≤◌, Bool, cond, List, [], ◌∷◌, length, get_or, drop, drop-cons, add-one, Some, None, refl, sym, ◌∙◌, ap, subst, arith}
use Rattle.std.specs.List.Sorted.{IsStrictlyIncreasing}
use Rattle.std.proofs.lemmas.Bool.{eq-eqb, ne_eqb}
use Rattle.std.proofs.lemmas.List.{drop_all}
use Rattle.page_image.specs.Pages.{PageParts}
use Rattle.redo_journal.specs.Record.{numbers_of}
use Rattle.redo_journal.specs.Replays.{image_among}
use Rattle.recovery.specs.Reading.{AreFrom, IsAhead}

-- ---- one list

from_less : (low page : ℕ) (ps : List PageParts) → low ≤ page → AreFrom page ps → AreFrom low ps
from_less low page [] le h = h
from_less low page (p ∷ ps) le h = (omega (arith, le, h.0), h.1)

pub not_there : (page other : ℕ) (ps : List PageParts) → AreFrom page ps → other < page → image_among ps other ≡ None
not_there page other [] h lt = refl
not_there page other (p ∷ ps) h lt =
    ap (λ (b : Bool). cond b (Some p) (image_among ps other)) (ne_eqb p.number other (λ same. let wrong : ⊥ = omega (arith, h.0, lt, same) in wrong))
    ∙ not_there (p.number + 1) other ps h.1 (omega (arith, h.0, lt))

found : (p : PageParts) (ps : List PageParts) (page : ℕ) → p.number ≡ page → image_among (p ∷ ps) page ≡ Some p
found p ps page is = ap (λ (b : Bool). cond b (Some p) (image_among ps page)) (eq-eqb p.number page is)

passed_over : (p : PageParts) (ps : List PageParts) (page : ℕ) → p.number ≢ page → image_among (p ∷ ps) page ≡ image_among ps page
passed_over p ps page off = ap (λ (b : Bool). cond b (Some p) (image_among ps page)) (ne_eqb p.number page off)

from_increasing : (page : ℕ) (ps : List PageParts) → IsStrictlyIncreasing (numbers_of ps) → (0 < length (numbers_of ps) → page ≤ get_or (numbers_of ps) 0 0) → AreFrom page ps
from_increasing page [] up first = tt
from_increasing page (p ∷ ps) up first =
    (first (omega arith), from_increasing (p.number + 1) ps (λ k lt. later k (up (suc k) (omega (arith, lt)))) (λ some. let one = up 0 (omega (arith, some)) in omega (arith, one)))
  where
    later : (k : ℕ) → get_or (numbers_of ps) k 0 < get_or (p.number ∷ numbers_of ps) (suc k + 1) 0 → get_or (numbers_of ps) k 0 < get_or (numbers_of ps) (k + 1) 0
    later k h = let j : suc k + 1 ≡ suc (k + 1) = omega arith in subst (λ (i : ℕ). get_or (numbers_of ps) k 0 < get_or (p.number ∷ numbers_of ps) i 0) j h

-- ---- a place in the list

pub ahead_first : (images : List PageParts) → IsStrictlyIncreasing (numbers_of images) → IsAhead images 0 0
ahead_first images up = record { from = from_increasing 0 images up (λ some. omega arith); same = λ other le. refl }

pub ahead_taken : (images : List PageParts) (next page : ℕ) (p : PageParts) → next < length images → p ≡ get_or images next p → p.number ≡ page → IsAhead images next page → (image_among images page ≡ Some p) × IsAhead images (next + 1) (page + 1)
ahead_taken images next page p lt is number h =
    let whole : drop next images ≡ p ∷ drop (next + 1) images = drop-cons images next p lt ∙ ap (λ (n : ℕ). get_or images next p ∷ drop n images) (sym (add-one next)) ∙ ap (λ (q : PageParts). q ∷ drop (next + 1) images) (sym is) in
    let from : AreFrom page (p ∷ drop (next + 1) images) = subst (AreFrom page) whole h.from in (
      sym (h.same page (omega arith)) ∙ ap (λ (l : List PageParts). image_among l page) whole ∙ found p (drop (next + 1) images) page number,
      record {
        from = subst (λ (n : ℕ). AreFrom (n + 1) (drop (next + 1) images)) number from.1;
        same = λ other le.
            sym (passed_over p (drop (next + 1) images) other (λ same. let wrong : ⊥ = omega (arith, le, number, same) in wrong))
            ∙ ap (λ (l : List PageParts). image_among l other) (sym whole) ∙ h.same other (omega (arith, le));
      },
    )

ahead_after : (images : List PageParts) (next page : ℕ) → AreFrom (page + 1) (drop next images) → IsAhead images next page → (image_among images page ≡ None) × IsAhead images next (page + 1)
ahead_after images next page from h = (
  sym (h.same page (omega arith)) ∙ not_there (page + 1) page (drop next images) from (omega arith),
  record { from = from; same = λ other le. h.same other (omega (arith, le)) },
)

pub ahead_passed : (images : List PageParts) (next page : ℕ) (p : PageParts) → next < length images → p ≡ get_or images next p → p.number ≢ page → IsAhead images next page → (image_among images page ≡ None) × IsAhead images next (page + 1)
ahead_passed images next page p lt is off h =
    let whole : drop next images ≡ p ∷ drop (next + 1) images = drop-cons images next p lt ∙ ap (λ (n : ℕ). get_or images next p ∷ drop n images) (sym (add-one next)) ∙ ap (λ (q : PageParts). q ∷ drop (next + 1) images) (sym is) in
    let from : AreFrom page (p ∷ drop (next + 1) images) = subst (AreFrom page) whole h.from in
    ahead_after images next page (subst (AreFrom (page + 1)) (sym whole) (omega (arith, from.0, off), from.1)) h

pub ahead_ended : (images : List PageParts) (next page : ℕ) → length images ≤ next → IsAhead images next page → (image_among images page ≡ None) × IsAhead images next (page + 1)
ahead_ended images next page le h = ahead_after images next page (subst (AreFrom (page + 1)) (sym (drop_all next images le)) tt) h
