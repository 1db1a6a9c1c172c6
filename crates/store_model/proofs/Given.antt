-- What images tell of names: which are in use, which were given, and which are freed.
use Rattle.std.proofs.Common.{◌≡◌, ◌↔◌, ℕ, suc, ◌-◌, Bool, true, false, ◌&&◌, ◌==◌, not, List, map, length, refl, sym, ◌∙◌, ap, subst, arith, inl, inr}
use Rattle.std.specs.Bool.{IsTrue}
use Rattle.std.specs.List.{filter, AllByRecursion}
use Rattle.std.proofs.Math.Dec.{leb, ltb}
use Rattle.std.proofs.lemmas.Bool.{cases_Bool, and_parts, and_from, eq-eqb, eqb-true, not-true, ltb-true, lt-ltb, leb-true, le-leb}
use Rattle.object_graph.specs.NameParts.{NameParts}
use Rattle.object_graph.specs.SlotParts.{SlotParts}
use Rattle.object_graph.specs.Slots.{below}
use Rattle.object_graph.specs.ObjectParts.{ObjectParts}
use Rattle.object_graph.specs.Graphs.{has_name, has_object, is_at, objects_at}
use Rattle.object_graph.proofs.Members.{In, each_in, in_filter, filter_in, in_map, map_in}
use Rattle.object_graph.proofs.Paths.{name_of, name_eq_same, has_name_in, has_object_in, in_has_object}
use Rattle.store_model.specs.Worlds.{is_unfreed}
use Rattle.store_model.specs.Images.{object_in, objects_in}
use Rattle.store_model.specs.Lawful.{CountsUp}
use Rattle.store_model.specs.FromImages.{slot_in, objects_in_use, is_name_in_use, was_given}
use Rattle.store_model.proofs.Cuts.{below_bound}
use Rattle.store_model.proofs.Flats.{in_objects_in, objects_in_in}
use Rattle.store_model.proofs.FromImages.{at_place, object_at}
use Rattle.store_model.proofs.Lists.{in_below}
use Rattle.store_model.proofs.Places.{generation_of}
use Rattle.store_model.proofs.PlacedLists.{in_places, place_gives, objects_of_place}

-- ---- the objects in use

pub objects_used_at : (images : List (List SlotParts)) (page slot : ℕ) → objects_at (objects_in_use images) page slot ≡ objects_in page slot (slot_in images page slot)
objects_used_at images page slot = objects_of_place objects_in (λ page slot. refl) object_at images page slot

pub used_named : (images : List (List SlotParts)) (name : NameParts) → has_object (objects_in_use images) name ≡ true → is_name_in_use images name ≡ true
used_named images name h =
    let a = has_object_in (objects_in_use images) name h in
    let p = in_places objects_in images a.0 a.1 in
    let b = in_objects_in p.page p.slot (slot_in images p.page p.slot) a.0 p.there in
    let named : name ≡ name_of p.page p.slot (slot_in images p.page p.slot).generation = sym a.2 ∙ ap (λ (o : ObjectParts). o.name) b.1 in
    subst (λ (n : NameParts). is_name_in_use images n ≡ true) (sym named)
    (and_from (slot_in images p.page p.slot).in_use ((slot_in images p.page p.slot).generation == (slot_in images p.page p.slot).generation) b.0
    (eq-eqb (slot_in images p.page p.slot).generation (slot_in images p.page p.slot).generation refl))

pub named_used : (images : List (List SlotParts)) (name : NameParts) → is_name_in_use images name ≡ true → has_object (objects_in_use images) name ≡ true
named_used images name h =
    let s : SlotParts = slot_in images name.page name.slot in
    let a = and_parts s.in_use (s.generation == name.generation) h in
    let o : ObjectParts = object_in name.page name.slot s in
    let m : In o (objects_in_use images) = place_gives objects_in (λ page slot. refl) images name.page name.slot o (objects_in_in name.page name.slot s a.0) in
    subst (λ (n : NameParts). has_object (objects_in_use images) n ≡ true) (ap (name_of name.page name.slot) (eqb-true s.generation name.generation a.1)) (in_has_object (objects_in_use images) o m)

pub same_tests : (a b : Bool) → (a ≡ true → b ≡ true) → (b ≡ true → a ≡ true) → a ≡ b
same_tests true b f g = sym (f refl)
same_tests false true f g = g refl
same_tests false false f g = refl

pub used_are_named : (images : List (List SlotParts)) (name : NameParts) → has_object (objects_in_use images) name ≡ is_name_in_use images name
used_are_named images name = same_tests (has_object (objects_in_use images) name) (is_name_in_use images name) (used_named images name) (named_used images name)

-- a name is known by its place and its generation
pub same_name : (a b : NameParts) → is_at b.page b.slot a ≡ true → a.generation ≡ b.generation → a ≡ b
same_name a b at generation =
    let p = and_parts (a.page == b.page) (a.slot == b.slot) at in
    name_eq_same a b (and_from (a.page == b.page) ((a.slot == b.slot) && (a.generation == b.generation)) p.0
    (and_from (a.slot == b.slot) (a.generation == b.generation) p.1 (eq-eqb a.generation b.generation generation)))

-- ---- the names that were given

module _ (graph : List ObjectParts) (images : List (List SlotParts)) (counts : CountsUp graph) (stored : (page slot : ℕ) → (slot_in images page slot).generation ≡ length (objects_at graph page slot)) where
  there_given : (name : NameParts) → has_object graph name ≡ true → was_given images name ≡ true
  there_given name h =
      let a = has_object_in graph name h in
      let g : a.0.name.generation ≡ name.generation = ap (λ (n : NameParts). n.generation) a.2 in
      let names : List ObjectParts = objects_at graph name.page name.slot in
      let at : is_at name.page name.slot a.0.name ≡ true = subst (λ (n : NameParts). is_at name.page name.slot n ≡ true) (sym a.2) (at_place name.page name.slot name refl refl) in
      let m : In a.0.name.generation (map suc (below (length names))) =
      subst (λ (l : List ℕ). In a.0.name.generation l) (counts name.page name.slot)
      (map_in generation_of names a.0 (filter_in (λ (o : ObjectParts). is_at name.page name.slot o.name) graph a.0 a.1 at)) in
      let b = in_map suc (below (length names)) a.0.name.generation m in
      let low = below_bound (length names) b.0 b.1 in
      let k : a.0.name.generation ≡ suc b.0 = b.2 in
      let last : ℕ = (slot_in images name.page name.slot).generation in
      and_from (ltb 0 name.generation) (leb name.generation last)
      (lt-ltb 0 name.generation (omega (arith, g, k))) (le-leb name.generation last (omega (arith, g, k, low, stored name.page name.slot)))

  given_there : (name : NameParts) → was_given images name ≡ true → has_object graph name ≡ true
  given_there name h =
      let last : ℕ = (slot_in images name.page name.slot).generation in
      let a = and_parts (ltb 0 name.generation) (leb name.generation last) h in
      let some = ltb-true 0 name.generation a.0 in
      let low = leb-true name.generation last a.1 in
      let names : List ObjectParts = objects_at graph name.page name.slot in
      let k : ℕ = name.generation - 1 in
      let g : suc k ≡ name.generation = omega (arith, some) in
      let i : In k (below (length names)) = in_below (length names) k (omega (arith, g, low, stored name.page name.slot)) in
      let m : In name.generation (map suc (below (length names))) = subst (λ (n : ℕ). In n (map suc (below (length names)))) g (map_in suc (below (length names)) k i) in
      let b = in_map generation_of names name.generation (subst (λ (l : List ℕ). In name.generation l) (sym (counts name.page name.slot)) m) in
      let there = in_filter (λ (o : ObjectParts). is_at name.page name.slot o.name) graph b.0 b.1 in
      subst (λ (n : NameParts). has_object graph n ≡ true) (same_name b.0.name name there.1 (sym b.2)) (in_has_object graph b.0 there.0)

  -- the names of the graph are those that were given
  pub names_given : (name : NameParts) → has_object graph name ≡ was_given images name
  names_given name = same_tests (has_object graph name) (was_given images name) (there_given name) (given_there name)

-- ---- the names that are freed

module _ (graph : List ObjectParts) (freed : List NameParts) (images : List (List SlotParts)) (names : (name : NameParts) → has_object graph name ≡ was_given images name)
    (there : AllByRecursion (λ name. IsTrue (has_object graph name)) freed) (used : (o : ObjectParts) → In o (filter (is_unfreed freed) graph) ↔ In o (objects_in_use images)) where
  used_unfreed_name : (name : NameParts) → is_name_in_use images name ≡ true → has_name freed name ≡ false
  used_unfreed_name name h =
      let a = has_object_in (objects_in_use images) name (named_used images name h) in
      let b = in_filter (is_unfreed freed) graph a.0 ((used a.0).1 a.1) in
      not-true (has_name freed name) (subst (λ (n : NameParts). not (has_name freed n) ≡ true) a.2 b.1)

  unfreed_used_name : (name : NameParts) → has_object graph name ≡ true → has_name freed name ≡ false → is_name_in_use images name ≡ true
  unfreed_used_name name h f =
      let a = has_object_in graph name h in
      let u : is_unfreed freed a.0 ≡ true = ap (λ (n : NameParts). not (has_name freed n)) a.2 ∙ ap not f in
      let m = (used a.0).0 (filter_in (is_unfreed freed) graph a.0 a.1 u) in
      used_named images name (subst (λ (n : NameParts). has_object (objects_in_use images) n ≡ true) a.2 (in_has_object (objects_in_use images) a.0 m))

  freed_unused : (name : NameParts) → has_name freed name ≡ true → (was_given images name && not (is_name_in_use images name)) ≡ true
  freed_unused name h =
      and_from (was_given images name) (not (is_name_in_use images name))
      (sym (names name) ∙ each_in (λ (n : NameParts). IsTrue (has_object graph n)) freed name there (has_name_in freed name h))
      (elim (cases_Bool (is_name_in_use images name)) [
        | inr e ↦ ap not e
        | inl e ↦ let z = used_unfreed_name name e in absurd cc
      ])

  unused_freed : (name : NameParts) → (was_given images name && not (is_name_in_use images name)) ≡ true → has_name freed name ≡ true
  unused_freed name h = elim (cases_Bool (has_name freed name)) [
    | inl e ↦ e
    | inr e ↦
        let a = and_parts (was_given images name) (not (is_name_in_use images name)) h in
        let u = unfreed_used_name name (names name ∙ a.0) e in
        let z = not-true (is_name_in_use images name) a.1 in
        absurd cc
  ]

  -- the freed names are those given that no object in use has
  pub freed_given : (name : NameParts) → has_name freed name ≡ (was_given images name && not (is_name_in_use images name))
  freed_given name = same_tests (has_name freed name) (was_given images name && not (is_name_in_use images name)) (freed_unused name) (unused_freed name)
