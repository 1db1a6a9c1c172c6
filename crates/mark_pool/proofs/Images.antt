-- Where the objects of a cut's graph stand in its images.
use Rattle.std.proofs.Common.{◌≡◌, ℕ, ◌<◌, ◌==◌, Bool, true, false, ◌||◌, ◌&&◌, if◌then◌else◌, Option, Some, None, List, ◌++◌, length, get_or, refl, sym, subst, ap, ◌∙◌, inl, inr, arith}
use Rattle.std.specs.Option.{option_map}
use Rattle.std.specs.List.{list_any}
use mathlib.Core.Logic.{dite}
use native.Mathlib.Decide.{ℕ_discrete}
use Rattle.std.proofs.lemmas.Bool.{and_parts, and_from, or_cases, eqb-true, eq-eqb, cases_lt}
use Rattle.std.proofs.lemmas.List.{get_or_default, get_or_past}
use Rattle.object_graph.specs.NameParts.{NameParts}
use Rattle.object_graph.specs.SlotParts.{SlotParts}
use Rattle.object_graph.specs.Slots.{below}
use Rattle.object_graph.specs.ObjectParts.{ObjectParts}
use Rattle.object_graph.specs.Graphs.{has_object, is_to}
use Rattle.object_graph.proofs.Members.{In, append_right, or_left, or_right}
use Rattle.object_graph.proofs.Paths.{has_object_in, in_has_object, name_of}
use Rattle.store_model.specs.Images.{no_slot, object_in, objects_of}
use Rattle.store_model.proofs.Cuts.{below_bound}
use Rattle.store_model.proofs.Flats.{in_flat, in_objects_of, objects_of_in}
use Rattle.page_image.specs.Slots.{fresh_slot, IsSlot}
use Rattle.page_image.specs.Pages.{PageParts, IsPage, slot_at, page_has_name}
use Rattle.page_image.proofs.Again.{whole_at}
use Rattle.cut_model.specs.CutPages.{CopyParts, AfterImage, CutPage, images_of_before, images_of_copy, images_of_after, images_of, objects_on, cut_graph}
use Rattle.cut_model.proofs.CutGraphs.{in_cut_graph}
use Rattle.cut_builder.specs.CutParts.{page_in_cut, before_of, image_of, as_page}
use Rattle.mark_pool.specs.Walks.{is_used_name}

-- ---- each image has its number

abbrev IsNumbered : CutPage → List SlotParts → Type 0
IsNumbered p image = (which : ℕ) × (which < 3) × (image_of p which ≡ Some image)

number_before : (c : CopyParts) (after : Option AfterImage) (born : ℕ) (image : List SlotParts) (before : Option (List SlotParts)) → c.before ≡ before → In image (images_of_before before)
    → IsNumbered (record { copy = Some c; after = after; born = born }) image
number_before c after born image None e m = absurd m
number_before c after born image (Some b) e m = elim m [
  | inl q ↦ (1, omega arith, e ∙ ap (λ (i : List SlotParts). Some i) (sym q))
  | inr z ↦ absurd z
]

number_copy : (copy : Option CopyParts) (after : Option AfterImage) (born : ℕ) (image : List SlotParts) → In image (images_of_copy copy)
    → IsNumbered (record { copy = copy; after = after; born = born }) image
number_copy None after born image m = absurd m
number_copy (Some c) after born image m = elim m [
  | inl q ↦ (0, omega arith, ap (λ (i : List SlotParts). Some i) (sym q))
  | inr r ↦ number_before c after born image c.before refl r
]

number_change : (copy : Option CopyParts) (after : Option AfterImage) (born : ℕ) (image : List SlotParts) → In image (images_of_after after ++ images_of_copy copy)
    → IsNumbered (record { copy = copy; after = after; born = born }) image
number_change copy None born image m = number_copy copy None born image m
number_change copy (Some a) born image m = elim m [
  | inl q ↦ (2, omega arith, ap (λ (i : List SlotParts). Some i) (sym q))
  | inr r ↦ number_copy copy (Some a) born image r
]

number_of_image : (p : CutPage) (image : List SlotParts) → In image (images_of p) → IsNumbered p image
number_of_image p image m = number_change p.copy p.after p.born image m

chosen : (current before after : Bool) (copy : Option CopyParts) (change : Option AfterImage) (image : List SlotParts)
    → (if current then option_map (λ c. c.current) copy else (if before then before_of copy else (if after then option_map (λ a. a.image) change else None))) ≡ Some image
    → In image (images_of_after change ++ images_of_copy copy)
chosen true before after (Some c) change image e = append_right (images_of_after change) (images_of_copy (Some c)) image (inl (let q : c.current ≡ image = cc in sym q))
chosen true before after None change image e = cc
chosen false true after (Some c) change image e =
    append_right (images_of_after change) (images_of_copy (Some c)) image (inr (subst (λ b. In image (images_of_before b)) (sym e) (inl refl)))
chosen false true after None change image e = cc
chosen false false true copy (Some a) image e = inl (let q : a.image ≡ image = cc in sym q)
chosen false false true copy None image e = cc
chosen false false false copy change image e = cc

pub numbered_image : (p : CutPage) (which : ℕ) (image : List SlotParts) → image_of p which ≡ Some image → In image (images_of p)
numbered_image p which image e = chosen (which == 0) (which == 1) (which == 2) p.copy p.after image e

-- ---- objects in images

-- an object at a place, in an image of its page
pub record IsAtPlace (pages : List CutPage) (page slot : ℕ) (o : ObjectParts) : Type 0 where
  pub within : page < length pages
  pub which : ℕ
  pub below_three : which < 3
  pub slots : List SlotParts
  pub image : image_of (page_in_cut pages page) which ≡ Some slots
  pub in_use : (slot_at (as_page page slots) slot).in_use ≡ true
  pub is : o ≡ object_in page slot (slot_at (as_page page slots) slot)

pub at_place : (pages : List CutPage) (o : ObjectParts) → In o (cut_graph pages) → IsAtPlace pages o.name.page o.name.slot o
at_place pages o m =
    let a = in_flat (λ (page : ℕ). objects_on page (page_in_cut pages page)) (below (length pages)) o m in
    let page : ℕ = a.0 in
    let b = in_flat (objects_of page) (images_of (page_in_cut pages page)) o a.2 in
    let image : List SlotParts = b.0 in
    let c = in_objects_of page image o b.2 in
    let n = number_of_image (page_in_cut pages page) image b.1 in
    let same : get_or image c.slot no_slot ≡ get_or image c.slot fresh_slot = get_or_default image c.slot no_slot fresh_slot c.within in
    let p : page ≡ o.name.page = sym (ap (λ (x : ObjectParts). x.name.page) c.is) in
    let s : c.slot ≡ o.name.slot = sym (ap (λ (x : ObjectParts). x.name.slot) c.is) in
    let here : IsAtPlace pages page c.slot o = record {
      within = below_bound (length pages) page a.1;
      which = n.0;
      below_three = n.1;
      slots = image;
      image = n.2;
      in_use = subst (λ (x : SlotParts). x.in_use ≡ true) same c.in_use;
      is = c.is ∙ ap (object_in page c.slot) same;
    } in
    subst (λ (z : ℕ × ℕ). IsAtPlace pages z.0 z.1 o) (λ i. (p i, s i)) here

pub used_within : (slots : List SlotParts) (slot : ℕ) → (get_or slots slot fresh_slot).in_use ≡ true → slot < length slots
used_within slots slot used = elim (cases_lt slot (length slots)) [
  | inl h ↦ h
  | inr h ↦ let z = ap (λ (s : SlotParts). s.in_use) (get_or_past slots slot fresh_slot h) in cc
]

pub in_graph : (pages : List CutPage) (page which : ℕ) (slots : List SlotParts) (slot : ℕ) → page < length pages → image_of (page_in_cut pages page) which ≡ Some slots
    → (slot_at (as_page page slots) slot).in_use ≡ true → In (object_in page slot (slot_at (as_page page slots) slot)) (cut_graph pages)
in_graph pages page which slots slot within image used =
    let low = used_within slots slot used in
    let same : get_or slots slot no_slot ≡ get_or slots slot fresh_slot = get_or_default slots slot no_slot fresh_slot low in
    subst (λ (s : SlotParts). In (object_in page slot s) (cut_graph pages)) same
    (in_cut_graph pages page slots (object_in page slot (get_or slots slot no_slot)) within (numbered_image (page_in_cut pages page) which slots image)
    (objects_of_in page slots slot low (subst (λ (s : SlotParts). s.in_use ≡ true) (sym same) used)))

-- a name in use is on a page of the cut
pub on_page : (pages : List CutPage) (name : NameParts) → has_object (cut_graph pages) name ≡ true → name.page < length pages
on_page pages name h =
    let a = has_object_in (cut_graph pages) name h in
    subst (λ (n : NameParts). n.page < length pages) a.2 (at_place pages a.0 a.1).within

-- ---- the test whether a name is in use

is_in_there : (name : NameParts) (image : Option (List SlotParts)) → is_used_name name image ≡ true → (slots : List SlotParts) × (image ≡ Some slots) × (page_has_name (as_page name.page slots) name ≡ true)
is_in_there name None h = cc
is_in_there name (Some slots) h = (slots, refl, h)

is_in_graph : (pages : List CutPage) (name : NameParts) (which : ℕ) → name.page < length pages → is_used_name name (image_of (page_in_cut pages name.page) which) ≡ true → has_object (cut_graph pages) name ≡ true
is_in_graph pages name which within h =
    let a = is_in_there name (image_of (page_in_cut pages name.page) which) h in
    let s : SlotParts = slot_at (as_page name.page a.0) name.slot in
    let b = and_parts (name.page == name.page) (s.in_use && (s.generation == name.generation)) a.2 in
    let c = and_parts s.in_use (s.generation == name.generation) b.1 in
    let m = in_graph pages name.page which a.0 name.slot within a.1 c.0 in
    subst (λ g. has_object (cut_graph pages) (name_of name.page name.slot g) ≡ true) (eqb-true s.generation name.generation c.1) (in_has_object (cut_graph pages) (object_in name.page name.slot s) m)

in_which : (pages : List CutPage) (name : NameParts) (o : ObjectParts) → o.name ≡ name → (there : IsAtPlace pages name.page name.slot o) → is_used_name name (image_of (page_in_cut pages name.page) there.which) ≡ true
in_which pages name o named there =
    let s : SlotParts = slot_at (as_page name.page there.slots) name.slot in
    let g : s.generation ≡ name.generation = sym (ap (λ (x : ObjectParts). x.name.generation) there.is) ∙ ap (λ (n : NameParts). n.generation) named in
    subst (λ i. is_used_name name i ≡ true) (sym there.image)
    (and_from (name.page == name.page) (s.in_use && (s.generation == name.generation)) (eq-eqb name.page name.page refl)
    (and_from s.in_use (s.generation == name.generation) there.in_use (eq-eqb s.generation name.generation g)))

one_of_three : (f : ℕ → Bool) (which : ℕ) → which < 3 → f which ≡ true → (f 0 || (f 1 || f 2)) ≡ true
one_of_three f which low h = dite (ℕ_discrete which 0)
    (λ e. or_left (f 0) (f 1 || f 2) (subst (λ k. f k ≡ true) e h))
    (λ n. dite (ℕ_discrete which 1)
    (λ e. or_right (f 0) (f 1 || f 2) (or_left (f 1) (f 2) (subst (λ k. f k ≡ true) e h)))
    (λ m. let e : which ≡ 2 = omega (arith, low, n, m) in or_right (f 0) (f 1 || f 2) (or_right (f 1) (f 2) (subst (λ k. f k ≡ true) e h))))

same_test : (a b : Bool) → (a ≡ true → b ≡ true) → (b ≡ true → a ≡ true) → a ≡ b
same_test true b f g = sym (f refl)
same_test false true f g = g refl
same_test false false f g = refl

pub in_use_test : (pages : List CutPage) (name : NameParts) → name.page < length pages
    → (is_used_name name (image_of (page_in_cut pages name.page) 0) || (is_used_name name (image_of (page_in_cut pages name.page) 1) || is_used_name name (image_of (page_in_cut pages name.page) 2)))
    ≡ has_object (cut_graph pages) name
in_use_test pages name within =
    let f : ℕ → Bool = λ which. is_used_name name (image_of (page_in_cut pages name.page) which) in
    same_test (f 0 || (f 1 || f 2)) (has_object (cut_graph pages) name)
    (λ h. elim (or_cases (f 0) (f 1 || f 2) h) [
      | inl a ↦ is_in_graph pages name 0 within a
      | inr b ↦ elim (or_cases (f 1) (f 2) b) [ inl a ↦ is_in_graph pages name 1 within a | inr a ↦ is_in_graph pages name 2 within a ]
    ])
    (λ h.
    let a = has_object_in (cut_graph pages) name h in
    let there = subst (λ (n : NameParts). IsAtPlace pages n.page n.slot a.0) a.2 (at_place pages a.0 a.1) in
    one_of_three f there.which there.below_three (in_which pages name a.0 a.2 there))

pub not_in_use : (pages : List CutPage) (name : NameParts) → ¬ (name.page < length pages) → false ≡ has_object (cut_graph pages) name
not_in_use pages name past = same_test false (has_object (cut_graph pages) name) (λ h. cc) (λ h. absurd (past (on_page pages name h)))

-- ---- what the calls answer

pub some_image : (image : Option (List SlotParts)) (page : ℕ) (p : PageParts) → Some p ≡ option_map (as_page page) image → (slots : List SlotParts) × (image ≡ Some slots) × (as_page page slots ≡ p)
some_image None page p e = cc
some_image (Some slots) page p e = (slots, refl, let q : as_page page slots ≡ p = cc in q)

-- ---- the references of a slot

fresh_is_slot : IsSlot fresh_slot
fresh_is_slot = record { used = λ e. cc; free = λ e. (refl, refl); count = refl; refs = (tt, (tt, (tt, (tt, tt)))) }

-- each slot of a page, and each past its last, is one that slots are
pub slot_is : (p : PageParts) (slot : ℕ) → IsPage p → IsSlot (slot_at p slot)
slot_is p slot page = elim (cases_lt slot (length p.slots)) [
  | inl lt ↦ (whole_at p.slots slot fresh_slot page.slots lt).slot
  | inr ge ↦ subst IsSlot (sym (get_or_past p.slots slot fresh_slot ge)) fresh_is_slot
]

-- where nothing is in use, no reference is set
pub free_refers_to_none : (s : SlotParts) (to : NameParts) → IsSlot s → s.in_use ≡ false → list_any (is_to to) s.refs ≡ false
free_refers_to_none s to is free = ap (list_any (is_to to)) (is.free free).1
