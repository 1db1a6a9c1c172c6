-- A cut of young objects has one name at each place.
use Rattle.std.proofs.Common.{◌≡◌, ℕ, ◌+◌, ◌<◌, ◌≤◌, Bool, true, false, Option, Some, None, List, replicate, length, set, get_or, sym, subst, ap, ◌∙◌, inl, inr, if◌then◌else◌, length-set, arith}
use Rattle.std.specs.Prelude.{nat_lt}
use Rattle.std.specs.Option.{IfSome, option_map}
use mathlib.Core.Logic.{dite}
use native.Mathlib.Decide.{ℕ_discrete}
use Rattle.std.proofs.lemmas.List.{get_or-set_same, get_or-set_other, get_or_default, get_or_past, length-replicate}
use Rattle.std.proofs.lemmas.Bool.{cases_lt}
use Rattle.object_graph.specs.Names.{root_name}
use Rattle.object_graph.specs.NameParts.{NameParts}
use Rattle.object_graph.specs.SlotParts.{SlotParts}
use Rattle.object_graph.specs.ObjectParts.{ObjectParts}
use Rattle.object_graph.specs.Slots.{below}
use Rattle.object_graph.proofs.Members.{In, in_append, append_left, append_right}
use Rattle.object_graph.proofs.Paths.{name_of}
use Rattle.store_model.specs.Images.{no_slot, objects_of}
use Rattle.store_model.proofs.Flats.{in_flat, in_objects_of}
use Rattle.page_image.specs.Slots.{fresh_slot}
use Rattle.page_image.specs.Pages.{PageParts}
use Rattle.page_image.specs.declared.page_copy.PageCopy.{PageCopy}
use Rattle.cut_model.specs.CutPages.{CopyParts, AfterImage, CutPage, bare_page, images_of, images_of_after, images_of_copy, images_of_before, objects_on, kept_beside, with_copy, with_commit, with_born, cut_graph}
use Rattle.cut_model.proofs.Openings.{get-replicate_same}
use Rattle.cut_builder.specs.CutParts.{CutParts, page_in_cut, with_cut_page, copied_of, HasOneNameEach, IsLater}
use Rattle.cut_builder.specs.Young.{IsYoung, AreYoung, IsYoungCut, IsYoungCopy}

-- a slot in use is one of the image
pub used_within : (image : List SlotParts) (slot : ℕ) → (get_or image slot fresh_slot).in_use ≡ true → slot < length image
used_within image slot used = elim (cases_lt slot (length image)) [
  | inl h ↦ h
  | inr h ↦ let e : get_or image slot fresh_slot ≡ fresh_slot = get_or_past image slot fresh_slot h in let z = ap (λ (s : SlotParts). s.in_use) e in cc
]

-- an object in a young image is the first of its place
young_object : (page : ℕ) (image : List SlotParts) (o : ObjectParts) → IsYoung image → In o (objects_of page image) → o.name.generation ≡ 1
young_object page image o young m =
    let s = in_objects_of page image o m in
    let same = get_or_default image s.slot no_slot fresh_slot s.within in
    ap (λ (x : ObjectParts). x.name.generation) s.is
    ∙ (ap (λ (p : SlotParts). p.generation) same ∙ young s.slot (sym (ap (λ (p : SlotParts). p.in_use) same) ∙ s.in_use))

first_of_place : (pages : List CutPage) (o : ObjectParts) → AreYoung pages → In o (cut_graph pages) → o.name.generation ≡ 1
first_of_place pages o young m =
    let a = in_flat (λ (page : ℕ). objects_on page (page_in_cut pages page)) (below (length pages)) o m in
    let b = in_flat (objects_of a.0) (images_of (page_in_cut pages a.0)) o a.2 in
    young_object a.0 b.0 o (young.each a.0 b.0 b.1) b.2

same_name : (a b : NameParts) → a.page ≡ b.page → a.slot ≡ b.slot → a.generation ≡ b.generation → a ≡ b
same_name a b p s g = λ i. name_of (p i) (s i) (g i)

pub young_names : (pages : List CutPage) → AreYoung pages → HasOneNameEach pages
young_names pages young = record {
  once = λ a b m n p s. same_name a.name b.name p s (first_of_place pages a young m ∙ sym (first_of_place pages b young n));
  root = λ o m p s. same_name o.name root_name p s (first_of_place pages o young m);
}

-- another page in place of one
replaced : (pages : List CutPage) (page : ℕ) (p : CutPage) → page < length pages → AreYoung pages → ((image : List SlotParts) → In image (images_of p) → IsYoung image) → AreYoung (set pages page p)
replaced pages page p within young new = record {
  each = λ k image m. dite (ℕ_discrete k page)
      (λ e. new image (subst (λ (q : CutPage). In image (images_of q)) (ap (page_in_cut (set pages page p)) e ∙ get_or-set_same pages page p bare_page within) m))
      (λ n. young.each k image (subst (λ (q : CutPage). In image (images_of q)) (get_or-set_other pages page k p bare_page n) m));
}

replaced_early : (pages : List CutPage) (page commits : ℕ) (p : CutPage) → page < length pages → ((k : ℕ) → IsLater commits (page_in_cut pages k)) → IsLater commits p
    → (k : ℕ) → IsLater commits (page_in_cut (set pages page p) k)
replaced_early pages page commits p within early new k = dite (ℕ_discrete k page)
    (λ e. subst (IsLater commits) (sym (ap (page_in_cut (set pages page p)) e ∙ get_or-set_same pages page p bare_page within)) new)
    (λ n. subst (IsLater commits) (sym (get_or-set_other pages page k p bare_page n)) (early k))

kept_in : (keep : Bool) (a : AfterImage) (image : List SlotParts) → In image (images_of_after (if keep then Some a else None)) → In image (images_of_after (Some a))
kept_in true a image m = m
kept_in false a image m = absurd m

kept_change : (moment : ℕ) (after : Option AfterImage) (image : List SlotParts) → In image (images_of_after (kept_beside moment after)) → In image (images_of_after after)
kept_change moment None image m = absurd m
kept_change moment (Some a) image m = kept_in (nat_lt moment a.moment) a image m

in_before : (before : Option (List SlotParts)) (image : List SlotParts) → In image (images_of_before before) → before ≡ Some image
in_before None image m = absurd m
in_before (Some b) image m = elim m [ inl e ↦ ap (λ (i : List SlotParts). Some i) (sym e) | inr z ↦ absurd z ]

before_young : (before : Option PageParts) (image : List SlotParts) → IfSome before (λ p. IsYoung p.slots) → option_map (λ (p : PageParts). p.slots) before ≡ Some image → IsYoung image
before_young None image h e = cc
before_young (Some p) image h e = let q : p.slots ≡ image = cc in subst IsYoung q h

young_copy : (pages : List CutPage) (page commits : ℕ) (c : PageCopy) → page < length pages → AreYoung pages → IsYoungCopy c commits
    → AreYoung (set pages page (with_copy (copied_of c) (page_in_cut pages page)))
young_copy pages page commits c within young is =
    let p : CutPage = page_in_cut pages page in
    replaced pages page (with_copy (copied_of c) p) within young (λ image m. elim (in_append (images_of_after (kept_beside c.moment p.after)) (images_of_copy (Some (copied_of c))) image m) [
      | inl a ↦ young.each page image (append_left (images_of_after p.after) (images_of_copy p.copy) image (kept_change c.moment p.after image a))
      | inr b ↦ elim b [
        | inl e ↦ subst IsYoung (sym e) is.current
        | inr r ↦ before_young c.before image is.before (in_before (copied_of c).before image r)
      ]
    ])

early_kept : (keep : Bool) (a : AfterImage) (commits : ℕ) → a.moment < commits → IfSome (if keep then Some a else None) (λ (x : AfterImage). x.moment < commits)
early_kept true a commits h = h
early_kept false a commits h = tt

early_change : (moment commits : ℕ) (after : Option AfterImage) → IfSome after (λ a. a.moment < commits) → IfSome (kept_beside moment after) (λ a. a.moment < commits)
early_change moment commits None h = tt
early_change moment commits (Some a) h = early_kept (nat_lt moment a.moment) a commits h

-- a copy is added
pub copied_young : (cut : CutParts) (pages commits : ℕ) (c : PageCopy) → c.page < length cut.pages → IsYoungCut cut pages commits → IsYoungCopy c commits
    → IsYoungCut (with_cut_page cut c.page (with_copy (copied_of c) (page_in_cut cut.pages c.page))) pages commits
copied_young cut pages commits c within is young = record {
  count = length-set cut.pages c.page (with_copy (copied_of c) (page_in_cut cut.pages c.page)) ∙ is.count;
  started = is.started;
  young = young_copy cut.pages c.page commits c within is.young young;
  early = replaced_early cut.pages c.page (commits + 1) (with_copy (copied_of c) (page_in_cut cut.pages c.page)) within is.early
      (subst (λ m. m < commits + 1) (sym young.moment) (omega arith), early_change c.moment (commits + 1) (page_in_cut cut.pages c.page).after (is.early c.page).1);
}

-- slots in which objects were made are added
pub born_young : (cut : CutParts) (pages commits page born : ℕ) → page < length cut.pages → IsYoungCut cut pages commits
    → IsYoungCut (with_cut_page cut page (with_born born (page_in_cut cut.pages page))) pages commits
born_young cut pages commits page born within is =
    let p : CutPage = with_born born (page_in_cut cut.pages page) in record {
      count = length-set cut.pages page p ∙ is.count;
      started = is.started;
      young = replaced cut.pages page p within is.young (is.young.each page);
      early = replaced_early cut.pages page (commits + 1) p within is.early (is.early page);
    }

young_after : (pages : List CutPage) (page moment born : ℕ) (after : List SlotParts) → page < length pages → AreYoung pages → IsYoung after
    → AreYoung (set pages page (with_commit after moment born (page_in_cut pages page)))
young_after pages page moment born after within young new =
    let p : CutPage = page_in_cut pages page in
    replaced pages page (with_commit after moment born p) within young (λ image m. elim m [
      | inl e ↦ subst IsYoung (sym e) new
      | inr r ↦ young.each page image (append_right (images_of_after p.after) (images_of_copy p.copy) image r)
    ])

later_copy : (copy : Option CopyParts) (low high : ℕ) → low ≤ high → IfSome copy (λ c. c.moment < low) → IfSome copy (λ c. c.moment < high)
later_copy None low high h m = tt
later_copy (Some c) low high h m = omega (arith, h, m)

later_change : (after : Option AfterImage) (low high : ℕ) → low ≤ high → IfSome after (λ a. a.moment < low) → IfSome after (λ a. a.moment < high)
later_change None low high h m = tt
later_change (Some a) low high h m = omega (arith, h, m)

later_page : (p : CutPage) (low high : ℕ) → low ≤ high → IsLater low p → IsLater high p
later_page p low high h m = (later_copy p.copy low high h m.0, later_change p.after low high h m.1)

-- the image after the next commit is added
pub changed_young : (cut : CutParts) (pages commits : ℕ) (image : PageParts) → image.number < length cut.pages → IsYoungCut cut pages commits → IsYoung image.slots
    → IsYoungCut (with_cut_page cut image.number (with_commit image.slots (commits + 1) (page_in_cut cut.pages image.number).born (page_in_cut cut.pages image.number))) pages (commits + 1)
changed_young cut pages commits image within is young =
    let p : CutPage = page_in_cut cut.pages image.number in
    let q : CutPage = with_commit image.slots (commits + 1) p.born p in
    let later : (k : ℕ) → IsLater (commits + 1 + 1) (page_in_cut cut.pages k) = λ k. later_page (page_in_cut cut.pages k) (commits + 1) (commits + 1 + 1) (omega arith) (is.early k) in
    record {
      count = length-set cut.pages image.number q ∙ is.count;
      started = (let h = is.started in omega (arith, h));
      young = young_after cut.pages image.number (commits + 1) p.born image.slots within is.young young;
      early = replaced_early cut.pages image.number (commits + 1 + 1) q within later ((later image.number).0, omega arith);
    }

pub started_young : (pages number commits : ℕ) → IsYoungCut (record { number = number; start = commits; pages = replicate pages bare_page }) pages commits
started_young pages number commits = record {
  count = length-replicate pages bare_page;
  started = omega arith;
  young = record { each = λ page image m. absurd (subst (λ (p : CutPage). In image (images_of p)) (get-replicate_same pages page bare_page) m) };
  early = λ k. subst (IsLater (commits + 1)) (sym (get-replicate_same pages k bare_page)) (tt, tt);
}
