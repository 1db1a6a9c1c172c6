-- Fit copies: the frame as it stands is fit, and a fit copy keeps a cut sound.
use Rattle.std.proofs.Common.{◌≡◌, ℕ, ◌<◌, ◌≤◌, Bool, true, false, cond, List, [], ◌∷◌, ◌++◌, length, get_or, set, Option, Some, None, refl, sym, subst, ◌⊎◌, inl, inr, arith, ltb}
use Rattle.std.specs.List.{AllByRecursion}
use Rattle.std.specs.Option.{IfSome, IsSomeAnd}
use Rattle.std.proofs.lemmas.Bool.{cases_eq}
use borrow.Author.Tests.{ltb-false}
use Rattle.std.proofs.lemmas.List.{get_or-set_same, get_or-set_other, length-set}
use Rattle.object_graph.specs.SlotParts.{SlotParts}
use Rattle.store_model.specs.Worlds.{World, Transaction, Opening}
use Rattle.store_model.specs.Causes.{has_page}
use Rattle.store_model.proofs.Lists.{find_in}
use Rattle.store_model.specs.Lawful.{IsOrderly}
use Rattle.store_model.specs.States.{State, state_of, shown_by}
use Rattle.cut_model.specs.States.{KeepsOpening}
use Rattle.cut_model.specs.CutPages.{CopyParts, AfterImage, CutPage, bare_page, committed_image, settled_with, images_of_copy, images_of_after, kept_beside, with_copy}
use Rattle.cut_model.specs.Sound.{IsSafeImage, IsSoundPage, IsSound, IsFitCopy}
use Rattle.cut_model.specs.Frames.{writer_of, copy_with, copy_now}
use Rattle.cut_model.proofs.Views.{committed_safe, view_safe}

-- the page's frame as it stands is a fit copy
pub frame_is_fit : (w : World) (opening : Opening) (page : ℕ) (p : CutPage) → IsOrderly w → KeepsOpening w opening
    → IsFitCopy (state_of w) opening page p (copy_now w page)
frame_is_fit w opening page p lawful keeps = by_writer (writer_of w.transactions page) refl
  where
    by_writer : (writer : Option Transaction) → writer_of w.transactions page ≡ writer → IsFitCopy (state_of w) opening page p (copy_with w page writer)
    by_writer None e = record { settled = inl refl; images = (committed_safe w opening page keeps, tt); since = keeps.commits; moment = omega arith }
    by_writer (Some t) e = record {
      settled = inl refl;
      images = (view_safe w t opening page lawful (find_in (λ (t : Transaction). has_page t.pages_written page) w.transactions t e) keeps, (committed_safe w opening page keeps, tt));
      since = keeps.commits;
      moment = omega arith;
    }

-- ---- a fit copy keeps a page sound

abbrev pub all_append : {A : Type 0} (P : A → Type 0) (xs ys : List A) → AllByRecursion P xs → AllByRecursion P ys → AllByRecursion P (xs ++ ys)
all_append P [] ys h k = k
all_append P (x ∷ xs) ys h k = (h.0, all_append P xs ys h.1 k)

pub all_left : {A : Type 0} (P : A → Type 0) (xs ys : List A) → AllByRecursion P (xs ++ ys) → AllByRecursion P xs
all_left P [] ys h = tt
all_left P (x ∷ xs) ys h = (h.0, all_left P xs ys h.1)

pub all_right : {A : Type 0} (P : A → Type 0) (xs ys : List A) → AllByRecursion P (xs ++ ys) → AllByRecursion P ys
all_right P [] ys h = h
all_right P (x ∷ xs) ys h = all_right P xs ys h.1

-- an after-image that is kept beside a copy
kept_settled : (moment : ℕ) (after : Option AfterImage) (copy : Option CopyParts) (c : CopyParts) (image : List SlotParts)
    → IfSome (settled_with after copy) (λ i. i ≡ image) → (committed_image c ≡ image) ⊎ IsSomeAnd after (λ a. moment < a.moment)
    → IfSome (settled_with (kept_beside moment after) (Some c)) (λ i. i ≡ image)
kept_settled moment None copy c image h f = elim f [ inl e ↦ e | inr z ↦ absurd z ]
kept_settled moment (Some a) copy c image h f = by_test moment a c image h f (ltb moment a.moment) refl
  where
    by_test : (moment : ℕ) (a : AfterImage) (c : CopyParts) (image : List SlotParts) → a.image ≡ image → (committed_image c ≡ image) ⊎ (moment < a.moment)
        → (b : Bool) → ltb moment a.moment ≡ b → IfSome (settled_with (cond b (Some a) None) (Some c)) (λ i. i ≡ image)
    by_test moment a c image h f true e = h
    by_test moment a c image h f false e = elim f [ inl q ↦ q | inr z ↦ absurd (omega (arith, ltb-false, e)) ]

kept_images : (P : List SlotParts → Type 0) (moment : ℕ) (after : Option AfterImage) → AllByRecursion P (images_of_after after) → AllByRecursion P (images_of_after (kept_beside moment after))
kept_images P moment None h = tt
kept_images P moment (Some a) h = by_test P a h (ltb moment a.moment)
  where
    by_test : (P : List SlotParts → Type 0) (a : AfterImage) → AllByRecursion P (images_of_after (Some a)) → (b : Bool) → AllByRecursion P (images_of_after (cond b (Some a) None))
    by_test P a h true = h
    by_test P a h false = tt

kept_moment : (Q : AfterImage → Type 0) (moment : ℕ) (after : Option AfterImage) → IfSome after Q → IfSome (kept_beside moment after) Q
kept_moment Q moment None h = tt
kept_moment Q moment (Some a) h = by_test Q a h (ltb moment a.moment)
  where
    by_test : (Q : AfterImage → Type 0) (a : AfterImage) → Q a → (b : Bool) → IfSome (cond b (Some a) None) Q
    by_test Q a h true = h
    by_test Q a h false = tt

pub fit_copy_keeps_page : (s : State) (opening : Opening) (page : ℕ) (p : CutPage) (c : CopyParts) → IsSoundPage s opening page p → IsFitCopy s opening page p c
    → IsSoundPage s opening page (with_copy c p)
fit_copy_keeps_page s opening page p c sound fit = record {
  settled = kept_settled c.moment p.after p.copy c (shown_by s page) sound.settled fit.settled;
  images = all_append (IsSafeImage opening page) (images_of_after (kept_beside c.moment p.after)) (images_of_copy (Some c))
      (kept_images (IsSafeImage opening page) c.moment p.after (all_left (IsSafeImage opening page) (images_of_after p.after) (images_of_copy p.copy) sound.images))
      fit.images;
  born = sound.born;
  copied = fit.moment;
  changed = kept_moment (λ (a : AfterImage). a.moment ≤ s.commits) c.moment p.after sound.changed;
}

-- a sound cut with one page that stays sound
pub page_keeps_cut : (s : State) (opening : Opening) (pages : List CutPage) (page : ℕ) (p : CutPage) → IsSound s opening pages → IsSoundPage s opening page p
    → IsSound s opening (set pages page p)
page_keeps_cut s opening pages page p sound new = λ k within. elim (cases_eq k page) [
  | inl e ↦
      let low : page < length pages = omega (arith, within, e, length-set pages page p) in
      let g : get_or (set pages page p) page bare_page ≡ p = get_or-set_same pages page p bare_page low in
      subst (λ i. IsSoundPage s opening i (get_or (set pages page p) i bare_page)) (sym e) (subst (IsSoundPage s opening page) (sym g) new)
  | inr e ↦
      let g : get_or (set pages page p) k bare_page ≡ get_or pages k bare_page = get_or-set_other pages page k p bare_page e in
      let low : k < length pages = omega (arith, within, length-set pages page p) in
      subst (IsSoundPage s opening k) (sym g) (sound k low)
]

-- so a copy that is handed in keeps a cut sound, and the page's frame too
pub fit_copy_keeps_cut : (s : State) (opening : Opening) (pages : List CutPage) (page : ℕ) (c : CopyParts) → IsSound s opening pages → page < length pages
    → IsFitCopy s opening page (get_or pages page bare_page) c → IsSound s opening (set pages page (with_copy c (get_or pages page bare_page)))
fit_copy_keeps_cut s opening pages page c sound within fit =
    page_keeps_cut s opening pages page (with_copy c (get_or pages page bare_page)) sound
    (fit_copy_keeps_page s opening page (get_or pages page bare_page) c (sound page within) fit)

pub frame_keeps_cut : (w : World) (opening : Opening) (pages : List CutPage) (page : ℕ) → IsOrderly w → KeepsOpening w opening → IsSound (state_of w) opening pages → page < length pages
    → IsSound (state_of w) opening (set pages page (with_copy (copy_now w page) (get_or pages page bare_page)))
frame_keeps_cut w opening pages page lawful keeps sound within =
    fit_copy_keeps_cut (state_of w) opening pages page (copy_now w page) sound within (frame_is_fit w opening page (get_or pages page bare_page) lawful keeps)
