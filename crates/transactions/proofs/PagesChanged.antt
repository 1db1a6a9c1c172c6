-- The frames of some pages change in the same way, one after another.
use Rattle.std.proofs.Common.{◌≡◌, ℕ, ◌<◌, Bool, true, false, ◌||◌, ◌==◌, cond, List, [], ◌∷◌, ◌++◌, length, refl, sym, subst, ap, ◌∙◌, inl, inr, arith, get_or, get_or-set_same, get_or-set_other}
use Rattle.std.proofs.lemmas.Bool.{cases_eq, eq-eqb, eqb-true, ne_eqb, cond-true, cond-false}
use Rattle.std.proofs.lemmas.List.{length-set}
use Rattle.std.proofs.lemmas.List.Folds.{list_any-append, list_any_at}
use Rattle.store_model.specs.Causes.{has_page}
use Rattle.page_buffer.specs.Frames.{frame_at, with_frame, blank_frame}
use Rattle.page_buffer.specs.declared.frame.Frame.{Frame}
use Rattle.transactions.specs.Calls.{ChangesFramesOf}
use Rattle.transactions.proofs.Entries.{or_false, or_true}

-- the frames of these pages were changed, and no others
pub record AreChanged (change : Frame → Frame) (old new : List Frame) (pages : List ℕ) : Type 0 where
  pub count : length new ≡ length old
  pub frames : (page : ℕ) → frame_at new page ≡ cond (has_page pages page) (change (frame_at old page)) (frame_at old page)

pub page_at : (pages : List ℕ) (i : ℕ) → i < length pages → has_page pages (get_or pages i 0) ≡ true
page_at pages i lt = list_any_at (λ p. p == get_or pages i 0) pages i 0 lt (eq-eqb (get_or pages i 0) (get_or pages i 0) refl)

-- one more page; to change a frame twice is to change it once
pub changes_more : (change : Frame → Frame) (old new : List Frame) (pages : List ℕ) (page : ℕ) → ((frame : Frame) → change (change frame) ≡ change frame)
    → page < length old → AreChanged change old new pages
    → AreChanged change old (with_frame new page (change (frame_at new page))) (pages ++ page ∷ [])
changes_more change old new pages page again lt h = record {
  count = length-set new page (change (frame_at new page)) ∙ h.count;
  frames = λ p.
      let has : has_page (pages ++ page ∷ []) p ≡ (has_page pages p || ((page == p) || false)) = list_any-append (λ q. q == p) pages (page ∷ []) in
      elim (cases_eq p page) [
        | inl here ↦
            let n = h.count in
            let inside : page < length new = omega arith in
            let noted : has_page (pages ++ page ∷ []) p ≡ true = has ∙ (ap (λ b. has_page pages p || (b || false)) (eq-eqb page p (sym here)) ∙ or_true (has_page pages p)) in
            ap (frame_at (with_frame new page (change (frame_at new page)))) here
            ∙ (get_or-set_same new page (change (frame_at new page)) blank_frame inside
            ∙ (ap change (h.frames page)
            ∙ (once (has_page pages page) (frame_at old page)
            ∙ (ap (λ q. change (frame_at old q)) (sym here)
            ∙ sym (cond-true (has_page (pages ++ page ∷ []) p) (change (frame_at old p)) (frame_at old p) noted)))))
        | inr away ↦
            let same : has_page (pages ++ page ∷ []) p ≡ has_page pages p = has ∙ (ap (λ b. has_page pages p || (b || false)) (ne_eqb page p (λ f. away (sym f))) ∙ or_false (has_page pages p)) in
            get_or-set_other new page p (change (frame_at new page)) blank_frame away
            ∙ (h.frames p ∙ ap (λ b. cond b (change (frame_at old p)) (frame_at old p)) (sym same))
      ];
}
  where
    once : (b : Bool) (frame : Frame) → change (cond b (change frame) frame) ≡ change frame
    once true frame = again frame
    once false frame = refl

-- so the frames of all other pages are as they were
pub changes_of_these : (change : Frame → Frame) (old new : List Frame) (pages : List ℕ) → ((page : ℕ) → has_page pages page ≡ true → page < length old) → AreChanged change old new pages
    → ChangesFramesOf pages old new
changes_of_these change old new pages within h = record {
  count = h.count;
  within = within;
  others = λ page off. h.frames page ∙ cond-false (has_page pages page) (change (frame_at old page)) (frame_at old page) off;
}

-- the frame of one page is changed
pub changes_of_one : (old new : List Frame) (page at : ℕ) (frame : Frame) → at < length old → at ≡ page → new ≡ with_frame old at frame → ChangesFramesOf (page ∷ []) old new
changes_of_one old new page at frame low is same = record {
  count = ap length same ∙ length-set old at frame;
  within = λ other on. subst (λ p. p < length old) (is ∙ eqb-true page other (or_true_left (page == other) on)) low;
  others = λ other off.
      ap (λ fs. frame_at fs other) same
      ∙ get_or-set_other old at other frame blank_frame (λ e. let t : has_page (page ∷ []) other ≡ true = ap (λ b. b || false) (eq-eqb page other (sym (e ∙ is))) in let z : true ≡ false = sym t ∙ off in cc);
}
  where
    or_true_left : (b : Bool) → (b || false) ≡ true → b ≡ true
    or_true_left true on = refl
    or_true_left false on = on
