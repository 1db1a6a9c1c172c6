-- The world that images open to has what they have, and is lawful.
use Rattle.std.proofs.Common.{◌≡◌, ℕ, ◌<◌, Bool, true, false, ◌&&◌, ◌==◌, not, List, [], ◌∷◌, map, length, get_or, Option, Some, None, refl, sym, ◌∙◌, ap, subst, arith, inl, inr}
use Rattle.std.specs.Bool.{IsTrue}
use Rattle.std.specs.List.{list_any, filter, AllByRecursion}
use Rattle.std.proofs.lemmas.Bool.{and_parts, and_from, eqb-true}
use Rattle.std.proofs.lemmas.List.{length-replicate}
use Rattle.object_graph.specs.NameParts.{NameParts}
use Rattle.object_graph.specs.SlotParts.{SlotParts}
use Rattle.object_graph.specs.Names.{root_name, name_eq}
use Rattle.object_graph.specs.ObjectParts.{ObjectParts}
use Rattle.object_graph.specs.Graphs.{has_name, has_object, is_at, is_to, refers, objects_at, IsPath, IsReachedFrom}
use Rattle.object_graph.proofs.Members.{In, any_in, in_any, each_in, each_from, in_append, append_left, append_right, in_map, map_in, in_filter, filter_in}
use Rattle.object_graph.proofs.Paths.{has_name_in, in_has_name, has_object_in, in_has_object, is_to_same, reached_more}
use Rattle.store_model.specs.Worlds.{World, slots_of, fields_of, unfreed, is_freed, is_unfreed, new_object, IsOutOfReach}
use Rattle.store_model.specs.Images.{objects_in, shown, all_shown}
use Rattle.store_model.specs.Lawful.{IsPlaced, HaveFields, RefersWithin, OnlyLastUnfreed, IsLastOfPlace, IsOrderly, IsLawful}
use Rattle.store_model.specs.FromImages.{slot_in, of_places, objects_in_use, is_name_in_use, was_given, freed_in, all_objects_in, bare_world, world_of, AreImagesOf, AreImages, has_root, IsWhole}
use Rattle.store_model.proofs.Committed.{path_last}
use Rattle.store_model.proofs.Fields.{HasFields}
use Rattle.store_model.proofs.Flats.{in_objects_in}
use Rattle.store_model.proofs.PlacedLists.{in_places, place_gives}
use Rattle.store_model.proofs.Given.{named_used, names_given, freed_given}
use Rattle.store_model.proofs.FromImages.{at_place, placed_at, names_built, counts_built, used_unfreed, unfreed_built, unfreed_are_used, freed_as_made, page_built, images_built}
use Rattle.store_model.proofs.Reach.{none_only}

-- ---- the graph of images

module _ (w : World) (images : List (List SlotParts)) (right : AreImagesOf (slots_of w) (fields_of w) images) where
  abbrev graph : List ObjectParts
  graph = of_places (all_objects_in w) images

  abbrev freed : List NameParts
  freed = of_places freed_in images

  abbrev used : List ObjectParts
  used = objects_in_use images

  pub names_placed : AllByRecursion (λ o. IsPlaced (length images) (slots_of w) o.name) graph
  names_placed = each_from (λ (o : ObjectParts). IsPlaced (length images) (slots_of w) o.name) graph (λ o m.
      let p = in_places (all_objects_in w) images o m in
      let at = and_parts (o.name.page == p.page) (o.name.slot == p.slot) (placed_at w p.page p.slot (slot_in images p.page p.slot) o p.there) in
      let page : p.page ≡ o.name.page = sym (eqb-true o.name.page p.page at.0) in
      let slot : p.slot ≡ o.name.slot = sym (eqb-true o.name.slot p.slot at.1) in
      let within : p.slot < slots_of w p.page = subst (λ (n : ℕ). p.slot < n) (right.count p.page p.page_within) p.slot_within in
      (subst (λ (n : ℕ). n < length images) page p.page_within, subst (λ (n : ℕ). n < slots_of w o.name.page) slot (subst (λ (n : ℕ). p.slot < slots_of w n) page within)))

  pub last_unfreed : OnlyLastUnfreed graph freed
  last_unfreed = each_from (IsLastOfPlace graph) (filter (is_unfreed freed) graph) (λ o m.
      let a = in_filter (is_unfreed freed) graph o m in
      let page : ℕ = o.name.page in
      let slot : ℕ = o.name.slot in
      let there : In o (objects_at graph page slot) = filter_in (λ (x : ObjectParts). is_at page slot x.name) graph o a.0 (at_place page slot o.name refl refl) in
      let here : In o (objects_in page slot (slot_in images page slot)) =
      subst (λ (l : List ObjectParts). In o l) (unfreed_built w images right page slot) (filter_in (is_unfreed freed) (objects_at graph page slot) o there a.1) in
      ap (λ (x : ObjectParts). x.name.generation) (in_objects_in page slot (slot_in images page slot) o here).1 ∙ sym (names_built w images right page slot))

  pub freed_are_there : AllByRecursion (λ name. IsTrue (has_object graph name)) freed
  freed_are_there = each_from (λ (name : NameParts). IsTrue (has_object graph name)) freed (λ name m.
      let p = in_places freed_in images name m in
      let s : SlotParts = slot_in images p.page p.slot in
      let there : In (new_object w name) (all_objects_in w p.page p.slot s) =
      append_left (map (new_object w) (freed_in p.page p.slot s)) (objects_in p.page p.slot s) (new_object w name) (map_in (new_object w) (freed_in p.page p.slot s) name p.there) in
      in_has_object graph (new_object w name) (place_gives (all_objects_in w) (λ page slot. refl) images p.page p.slot (new_object w name) there))

  -- what is in use is unfreed
  pub used_is_unfreed : (name : NameParts) → has_object used name ≡ true → (has_object graph name ≡ true) × (has_name freed name ≡ false)
  used_is_unfreed name h =
      let a = has_object_in used name h in
      let p = in_places objects_in images a.0 a.1 in
      let s : SlotParts = slot_in images p.page p.slot in
      let there : In a.0 graph =
      place_gives (all_objects_in w) (λ page slot. refl) images p.page p.slot a.0 (append_right (map (new_object w) (freed_in p.page p.slot s)) (objects_in p.page p.slot s) a.0 p.there) in (
        subst (λ (n : NameParts). has_object graph n ≡ true) a.2 (in_has_object graph a.0 there),
        subst (λ (n : NameParts). has_name freed n ≡ false) a.2 (used_unfreed w images right p.page p.slot a.0 p.there),
      )

  pub named_placed : (name : NameParts) → is_name_in_use images name ≡ true → IsPlaced (length images) (slots_of w) name
  named_placed name h =
      let a = has_object_in graph name (used_is_unfreed name (named_used images name h)).0 in
      subst (IsPlaced (length images) (slots_of w)) a.2 (each_in (λ (o : ObjectParts). IsPlaced (length images) (slots_of w) o.name) graph a.0 names_placed a.1)

  -- the names of the graph are those that were given, and the freed ones those that no object in use has
  pub there_are_given : (name : NameParts) → has_object graph name ≡ was_given images name
  there_are_given = names_given graph images (counts_built w images right) (λ page slot. sym (names_built w images right page slot))

  pub freed_are_unused : (name : NameParts) → has_name freed name ≡ (was_given images name && not (is_name_in_use images name))
  freed_are_unused = freed_given graph freed images (λ name. there_are_given name) freed_are_there (λ o. (
    λ m. subst (λ (l : List ObjectParts). In o l) (unfreed_are_used w images right) m,
    λ m. subst (λ (l : List ObjectParts). In o l) (sym (unfreed_are_used w images right)) m,
  ))

  -- a freed object refers to nothing
  pub refers_used : (from to : NameParts) → refers graph from to ≡ true → refers used from to ≡ true
  refers_used from to h =
      let test : ObjectParts → Bool = λ o. name_eq o.name from && list_any (is_to to) o.refs in
      let a = any_in test graph h in
      let p = in_places (all_objects_in w) images a.0 a.1 in
      let s : SlotParts = slot_in images p.page p.slot in
      elim (in_append (map (new_object w) (freed_in p.page p.slot s)) (objects_in p.page p.slot s) a.0 p.there) [
        | inr here ↦ in_any test used a.0 (place_gives objects_in (λ page slot. refl) images p.page p.slot a.0 here) a.2
        | inl gone ↦
            let b = in_map (new_object w) (freed_in p.page p.slot s) a.0 gone in
            let ref = any_in (is_to to) a.0.refs (and_parts (name_eq a.0.name from) (list_any (is_to to) a.0.refs) a.2).1 in
            let some : In (Some to) a.0.refs = subst (λ r. In r a.0.refs) (is_to_same to ref.0 ref.2) ref.1 in
            let z : In (Some to) (new_object w b.0).refs = subst (λ (o : ObjectParts). In (Some to) o.refs) b.2 some in
            absurd (none_only (fields_of w b.0.page) to z)
      ]

  module _ (root : has_root images ≡ true) (whole : IsWhole images) where
    used_path : (first : NameParts) (rest : List NameParts) (last : NameParts) → IsReachedFrom used (root_name ∷ []) first → IsPath graph first rest last → IsReachedFrom used (root_name ∷ []) last
    used_path first [] last reached path = subst (IsReachedFrom used (root_name ∷ [])) path.0 reached
    used_path first (next ∷ rest) last reached path =
        let step = refers_used first next path.0 in
        used_path next rest last (reached_more used (root_name ∷ []) first next reached step (whole first next reached step)) path.2

    start_used : (start : NameParts) → has_name (root_name ∷ []) start ≡ true → IsReachedFrom used (root_name ∷ []) start
    start_used start h = elim (has_name_in (root_name ∷ []) start h) [
      | inl e ↦ (start, h, ([], (refl, subst (λ (n : NameParts). has_object used n ≡ true) (sym e) (named_used images root_name root))))
      | inr z ↦ absurd z
    ]

    -- what is reached in the graph is reached through objects in use
    pub reached_used : (name : NameParts) → IsReachedFrom graph (root_name ∷ []) name → IsReachedFrom used (root_name ∷ []) name
    reached_used name reached = used_path reached.0 reached.2.0 name (start_used reached.0 reached.1) reached.2.1

    pub refers_within : RefersWithin graph (root_name ∷ [])
    refers_within name target reached refers_to =
        (used_is_unfreed target (whole name target (reached_used name reached) (refers_used name target refers_to))).0

    pub freed_unreached : (name : NameParts) → has_name freed name ≡ true → ¬ IsReachedFrom graph (root_name ∷ []) name
    freed_unreached name is reached =
        let r = reached_used name reached in
        let unfreed : has_name freed name ≡ false = (used_is_unfreed name (path_last used r.0 r.2.0 name r.2.1)).1 in
        cc

    pub root_unfreed : (has_object graph root_name && not (has_name freed root_name)) ≡ true
    root_unfreed =
        let a = used_is_unfreed root_name (named_used images root_name root) in
        and_from (has_object graph root_name) (not (has_name freed root_name)) a.0 (ap not a.1)

  pub built_has_fields : HaveFields (fields_of w) graph
  built_has_fields = each_from (HasFields (fields_of w)) graph (λ o m.
      let p = in_places (all_objects_in w) images o m in
      let s : SlotParts = slot_in images p.page p.slot in
      let right_slot = right.slots p.page p.slot p.page_within (subst (λ (n : ℕ). p.slot < n) (right.count p.page p.page_within) p.slot_within) in
      elim (in_append (map (new_object w) (freed_in p.page p.slot s)) (objects_in p.page p.slot s) o p.there) [
        | inl gone ↦
            let a = in_map (new_object w) (freed_in p.page p.slot s) o gone in
            let none : Option NameParts = None in
            subst (HasFields (fields_of w)) (sym a.2) (length-replicate (fields_of w a.0.page) none)
        | inr here ↦ subst (HasFields (fields_of w)) (sym (in_objects_in p.page p.slot s o here).1) right_slot.width
      ])

-- ---- the world

pub used_are_placed : (images : List (List SlotParts)) (name : NameParts) → AreImages images → is_name_in_use images name ≡ true → IsPlaced (length images) (slots_of (world_of 0 images)) name
used_are_placed images name right h = named_placed (bare_world 0 (length images)) images right name h

pub opened_has_fields : (commits : ℕ) (images : List (List SlotParts)) → AreImages images → HaveFields (fields_of (world_of commits images)) (world_of commits images).graph
opened_has_fields commits images right = built_has_fields (bare_world commits (length images)) images right

pub opened_shows : (commits : ℕ) (images : List (List SlotParts)) → AreImages images → all_shown (world_of commits images) ≡ images
opened_shows commits images right = images_built (bare_world commits (length images)) images right

pub opened_shows_page : (commits page : ℕ) (images : List (List SlotParts)) → AreImages images → page < length images → shown (world_of commits images) page ≡ get_or images page []
opened_shows_page commits page images right within = page_built (bare_world commits (length images)) images right page within

-- what the opened world has of these images
module _ (commits : ℕ) (images : List (List SlotParts)) (right : AreImages images) where
  abbrev bare : World
  bare = bare_world commits (length images)

  pub opened_unfreed : unfreed (world_of commits images) ≡ objects_in_use images
  opened_unfreed = unfreed_are_used bare images right

  pub opened_names : (name : NameParts) → has_object (world_of commits images).graph name ≡ was_given images name
  opened_names = there_are_given bare images right

  pub opened_freed : (name : NameParts) → is_freed (world_of commits images) name ≡ (was_given images name && not (is_name_in_use images name))
  opened_freed = freed_are_unused bare images right

  pub opened_blank : (o : ObjectParts) → In o (world_of commits images).graph → is_freed (world_of commits images) o.name ≡ true → o ≡ new_object (world_of commits images) o.name
  opened_blank = freed_as_made bare images right

pub opened_is_orderly : (commits : ℕ) (images : List (List SlotParts)) → AreImages images → IsTrue (has_root images) → IsWhole images → IsOrderly (world_of commits images)
opened_is_orderly commits images right root whole =
    let w : World = bare_world commits (length images) in
    record {
      root = root_unfreed w images right root whole;
      placed = names_placed w images right;
      own_placed = tt;
      whole = refers_within w images right root whole;
      counted = counts_built w images right;
      last = last_unfreed w images right;
      distinct = λ number. omega arith;
      transactions = tt;
      apart = tt;
      freed_there = freed_are_there w images right;
    }

pub opened_is_lawful : (commits : ℕ) (images : List (List SlotParts)) → AreImages images → IsTrue (has_root images) → IsWhole images → IsLawful (world_of commits images)
opened_is_lawful commits images right root whole =
    let w : World = bare_world commits (length images) in
    let names : List NameParts = of_places freed_in images in
    record {
      orderly = opened_is_orderly commits images right root whole;
      freed = each_from (IsOutOfReach (world_of commits images)) names (λ name m. (freed_unreached w images right root whole name (in_has_name names name m), tt));
      lost = tt;
      swept = tt;
      doubt = tt;
    }
