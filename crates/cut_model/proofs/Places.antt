-- Places and names: in a sound cut a place has one name, so sets of slots stand for names.
use Rattle.std.proofs.Common.{◌≡◌, ℕ, ◌<◌, Bool, true, false, not, ◌&&◌, List, [], ◌∷◌, length, get_or, Some, refl, sym, subst, ap, ◌∙◌, inl, inr}
use Rattle.std.proofs.lemmas.Bool.{and_parts, and_from, cases_Bool, cases_lt}
use Rattle.std.proofs.lemmas.List.{get_or_past}
use Rattle.object_graph.specs.NameParts.{NameParts}
use Rattle.object_graph.specs.Names.{root_name}
use Rattle.object_graph.specs.SlotParts.{SlotParts}
use Rattle.object_graph.specs.Slots.{has_slot}
use Rattle.object_graph.specs.ObjectParts.{ObjectParts}
use Rattle.object_graph.specs.Graphs.{has_object, has_name, objects_at}
use Rattle.store_model.specs.Worlds.{World, Opening, is_freed}
use Rattle.object_graph.proofs.Members.{In}
use Rattle.object_graph.proofs.Paths.{name_of, has_object_in}
use Rattle.store_model.specs.Lawful.{IsOrderly}
use Rattle.store_model.specs.Worlds.{is_unfreed}
use Rattle.cut_model.specs.States.{generation_with, generation_at}
use Rattle.store_model.specs.Images.{unfreed_at, no_slot, object_in, objects_of}
use Rattle.cut_model.specs.CutPages.{CutPage, bare_page, settled_image, cut_graph, IsMarked}
use Rattle.cut_model.specs.Sound.{IsSafeObject}
use Rattle.cut_model.specs.Doomed.{IsDoomed, AreDoomedOn, AreMarks, is_used, is_doomed}
use Rattle.store_model.proofs.Flats.{in_objects_of, objects_of_in}
use Rattle.store_model.proofs.Shown.{one_each, in_unfreed_at}
use Rattle.cut_model.proofs.CutGraphs.{settled_in, in_cut_graph}
use Rattle.store_model.proofs.Committed.{path_last}

-- two names with equal parts
same_name : (a b : NameParts) → a.page ≡ b.page → a.slot ≡ b.slot → a.generation ≡ b.generation → a ≡ b
same_name a b p q r = ap (λ k. name_of k a.slot a.generation) p ∙ (ap (λ k. name_of b.page k a.generation) q ∙ ap (λ k. name_of b.page b.slot k) r)

-- in the images of a sound cut a place is in use under one name
pub one_name : (opening : Opening) (a b : ObjectParts) → IsSafeObject opening a → IsSafeObject opening b → a.name.page ≡ b.name.page → a.name.slot ≡ b.name.slot → a.name ≡ b.name
one_name opening a b sa sb p q =
    same_name a.name b.name p q
    (sa.name ∙ (ap (λ k. generation_at opening.graph opening.freed k a.name.slot) p ∙ (ap (λ k. generation_at opening.graph opening.freed b.name.page k) q ∙ sym sb.name)))

-- the name of place (0, 0) is the root's
first_generation : (os : List ObjectParts) (names : ℕ) (o : ObjectParts) → In o os → ((a b : ObjectParts) → In a os → In b os → a ≡ b) → generation_with os names ≡ o.name.generation
first_generation [] names o m same = absurd m
first_generation (h ∷ hs) names o m same = ap (λ (x : ObjectParts). x.name.generation) (same h o (inl refl) m)

pub root_place : (w : World) → IsOrderly w → generation_at w.graph w.freed 0 0 ≡ 1
root_place w lawful =
    let r = and_parts (has_object w.graph root_name) (not (is_freed w root_name)) lawful.root in
    let a = has_object_in w.graph root_name r.0 in
    let o : ObjectParts = a.0 in
    let u : is_unfreed w.freed o ≡ true = subst (λ n. not (has_name w.freed n) ≡ true) (sym a.2) r.1 in
    let m : In o (unfreed_at w.graph w.freed 0 0) = subst (λ (n : NameParts). In o (unfreed_at w.graph w.freed n.page n.slot)) a.2 (in_unfreed_at w.graph w.freed o a.1 u) in
    first_generation (unfreed_at w.graph w.freed 0 0) (length (objects_at w.graph 0 0)) o m (one_each w.graph w.freed lawful.counted lawful.last 0 0)
    ∙ ap (λ (n : NameParts). n.generation) a.2

-- a slot in use is one of the image
used_within : (image : List SlotParts) (slot : ℕ) → is_used image slot ≡ true → slot < length image
used_within image slot used = elim (cases_lt slot (length image)) [
  | inl h ↦ h
  | inr h ↦ let e : get_or image slot no_slot ≡ no_slot = get_or_past image slot no_slot h in let z = ap (λ (s : SlotParts). s.in_use) e in cc
]

and_not : (a b c : Bool) → (a && (not b && not c)) ≡ true → (a ≡ true) × (b ≡ false) × (c ≡ false)
and_not true false false h = (refl, refl, refl)
and_not true true c h = cc
and_not true false true h = cc
and_not false b c h = cc

-- where each place of a cut has one name, the slots in use in the settled image, neither born nor marked, are those of
-- the doomed names
pub doomed_names : (from : List NameParts) (pages : List CutPage) (marks : ℕ → ℕ) (page slots : ℕ) (image : List SlotParts)
    → ((a b : ObjectParts) → In a (cut_graph pages) → In b (cut_graph pages) → a.name.page ≡ b.name.page → a.name.slot ≡ b.name.slot → a.name ≡ b.name)
    → page < length pages → settled_image (get_or pages page bare_page) ≡ Some image
    → AreMarks from pages marks → ((slot : ℕ) → has_slot slots slot ≡ is_doomed image (get_or pages page bare_page).born (marks page) slot)
    → AreDoomedOn from pages page slots
doomed_names from pages marks page slots image once within settled marked is = λ slot. (
  λ h.
      let a = and_not (is_used image slot) (has_slot (get_or pages page bare_page).born slot) (has_slot (marks page) slot) (sym (is slot) ∙ h) in
      let o : ObjectParts = object_in page slot (get_or image slot no_slot) in
      let low = used_within image slot a.0 in
      let doomed : IsDoomed from pages o.name = record {
        image = image;
        object = o;
        within = within;
        settled = settled;
        shown = objects_of_in page image slot low a.0;
        named = refl;
        unborn = a.1;
        unmarked = λ m. let t = (marked page slot).1 (o.name, m, refl, refl) in let f = a.2 in cc;
      } in
      (o.name, doomed, refl, refl),
  λ n. is slot ∙ (doomed_here slot n.0 n.1 n.2 n.3),
)
  where
    unmarked_here : (name : NameParts) (o : ObjectParts) → In o (cut_graph pages) → o.name ≡ name → name.page ≡ page → ¬ IsMarked from pages name → has_slot (marks page) name.slot ≡ false
    unmarked_here name o m named on un = elim (cases_Bool (has_slot (marks page) name.slot)) [
      | inr e ↦ e
      | inl e ↦
          let n = (marked page name.slot).0 e in
          let there = has_object_in (cut_graph pages) n.0 (path_last (cut_graph pages) n.1.0 n.1.2.0 n.0 n.1.2.1) in
          let q : ObjectParts = there.0 in
          let p : q.name.page ≡ o.name.page = ap (λ (k : NameParts). k.page) there.2 ∙ (n.2 ∙ (sym on ∙ sym (ap (λ (k : NameParts). k.page) named))) in
          let s : q.name.slot ≡ o.name.slot = ap (λ (k : NameParts). k.slot) there.2 ∙ (n.3 ∙ sym (ap (λ (k : NameParts). k.slot) named)) in
          let same : n.0 ≡ name = sym there.2 ∙ (once q o there.1 m p s ∙ named) in
          absurd (un (subst (IsMarked from pages) same n.1))
    ]

    doomed_here : (slot : ℕ) (name : NameParts) → IsDoomed from pages name → name.page ≡ page → name.slot ≡ slot → is_doomed image (get_or pages page bare_page).born (marks page) slot ≡ true
    doomed_here slot name d on at =
        let e : settled_image (get_or pages page bare_page) ≡ Some d.image = subst (λ k. settled_image (get_or pages k bare_page) ≡ Some d.image) on d.settled in
        let same : d.image ≡ image = cc in
        let shown : In d.object (objects_of page image) = subst (λ i. In d.object (objects_of page i)) same (subst (λ k. In d.object (objects_of k d.image)) on d.shown) in
        let s = in_objects_of page image d.object shown in
        let is_slot : s.slot ≡ slot = sym (ap (λ (o : ObjectParts). o.name.slot) s.is) ∙ (ap (λ (n : NameParts). n.slot) d.named ∙ at) in
        let used : is_used image slot ≡ true = subst (λ k. is_used image k ≡ true) is_slot s.in_use in
        let graph = in_cut_graph pages page image d.object within (settled_in (get_or pages page bare_page) image settled) shown in
        let unborn : has_slot (get_or pages page bare_page).born slot ≡ false =
        subst (λ k. has_slot (get_or pages page bare_page).born k ≡ false) at (subst (λ k. has_slot (get_or pages k bare_page).born name.slot ≡ false) on d.unborn) in
        let unmarked : has_slot (marks page) slot ≡ false = subst (λ k. has_slot (marks page) k ≡ false) at (unmarked_here name d.object graph d.named on d.unmarked) in
        and_from (is_used image slot) (not (has_slot (get_or pages page bare_page).born slot) && not (has_slot (marks page) slot)) used
        (and_from (not (has_slot (get_or pages page bare_page).born slot)) (not (has_slot (marks page) slot)) (ap not unborn) (ap not unmarked))

-- so it is in a sound cut
pub doomed_slots : (opening : Opening) (from : List NameParts) (pages : List CutPage) (marks : ℕ → ℕ) (page slots : ℕ) (image : List SlotParts)
    → ((o : ObjectParts) → In o (cut_graph pages) → IsSafeObject opening o) → page < length pages → settled_image (get_or pages page bare_page) ≡ Some image
    → AreMarks from pages marks → ((slot : ℕ) → has_slot slots slot ≡ is_doomed image (get_or pages page bare_page).born (marks page) slot)
    → AreDoomedOn from pages page slots
doomed_slots opening from pages marks page slots image safe within settled marked is =
    doomed_names from pages marks page slots image (λ a b m n p s. one_name opening a b (safe a m) (safe b n) p s) within settled marked is
