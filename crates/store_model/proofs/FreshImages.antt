-- The images of a fresh store open to the fresh world.
use Rattle.std.proofs.Common.{◌≡◌, ℕ, ◌<◌, ◌==◌, ◌&&◌, Bool, true, false, cond, List, [], length, map, nat_eq, get_or, None, refl, sym, ◌∙◌, ap, subst, arith, inl, inr}
use Rattle.std.specs.List.{filter}
use Rattle.std.proofs.lemmas.Bool.{cases_Bool, and_parts, eqb-true}
use Rattle.object_graph.specs.NameParts.{NameParts}
use Rattle.object_graph.specs.SlotParts.{SlotParts}
use Rattle.object_graph.specs.Names.{root_name}
use Rattle.object_graph.specs.ObjectParts.{ObjectParts}
use Rattle.object_graph.specs.declared.names.TheConstants.{OBJECT_FIELDS}
use Rattle.object_graph.specs.declared.sizes.TheConstants.{SLOTS_PER_PAGE}
use Rattle.object_graph.specs.Slots.{below}
use Rattle.object_graph.specs.Graphs.{is_at, fresh_graph}
use Rattle.store_model.specs.Worlds.{World, no_doubt, fields_of, is_unfreed, fresh_world}
use Rattle.store_model.specs.Images.{slot_with, shown_of, shown, all_shown}
use Rattle.store_model.specs.FromImages.{slot_in, of_places, freed_in, all_objects_in, bare_world, world_of}
use Rattle.store_model.proofs.Flats.{length-map_below}
use Rattle.store_model.proofs.PlacedLists.{places_one}
use Rattle.store_model.proofs.ShownWorlds.{page_shown, slot_shown, length_shown}

-- the root's place has the root, and no other place has anything
root_or_none : (page slot : ℕ) → (page ≡ 0 → slot ≡ 0 → ⊥) → is_at page slot root_name ≡ false
root_or_none page slot off = elim (cases_Bool (is_at page slot root_name)) [
  | inr e ↦ e
  | inl e ↦ let a = and_parts (0 == page) (0 == slot) e in absurd (off (sym (eqb-true 0 page a.0)) (sym (eqb-true 0 slot a.1)))
]

abbrev slot_where : ℕ → Bool → SlotParts
slot_where fields here =
    let objects : List ObjectParts = cond here fresh_graph [] in
    slot_with fields (filter (is_unfreed []) objects) (length objects)

-- ---- what each page shows, by whether it is the root's

abbrev pub fresh_slots : Bool → List SlotParts
fresh_slots root = map (λ slot. slot_where OBJECT_FIELDS (root && (0 == slot))) (below SLOTS_PER_PAGE)

shown_is : (count page : ℕ) → shown (fresh_world count) page ≡ fresh_slots (0 == page)
unfolding shown_of
shown_is count page = refl

root_page : (page : ℕ) → (0 == page) ≡ nat_eq page 0
root_page page = elim (cases_Bool (nat_eq page 0)) [
  | inl e ↦ let zero : page ≡ 0 = eqb-true page 0 e in ap (λ (p : ℕ). 0 == p) zero ∙ sym e
  | inr e ↦ elim (cases_Bool (0 == page)) [
    | inr f ↦ f ∙ sym e
    | inl f ↦ let zero : page ≡ 0 = sym (eqb-true 0 page f) in let z : nat_eq page 0 ≡ true = ap (λ p. nat_eq p 0) zero in absurd cc
  ]
]

pub fresh_shown : (count page : ℕ) → shown (fresh_world count) page ≡ fresh_slots (nat_eq page 0)
fresh_shown count page = shown_is count page ∙ ap fresh_slots (root_page page)

-- ---- they open to it

module _ (pages : ℕ) where
  abbrev w : World
  w = fresh_world pages

  abbrev images : List (List SlotParts)
  images = all_shown w

  count : length images ≡ pages
  count = length-map_below (shown w) pages

  slot_is : (page slot : ℕ) → page < length images → slot < length (get_or images page []) → slot_in images page slot ≡ slot_where (fields_of w page) (is_at page slot root_name)
  slot_is page slot p s =
      let low : page < pages = subst (λ (n : ℕ). page < n) count p in
      slot_shown w page slot low (subst (λ (n : ℕ). slot < n) (ap length (page_shown w page low) ∙ length_shown w page) s)

  empty_slot : (page slot : ℕ) → page < length images → slot < length (get_or images page []) → (page ≡ 0 → slot ≡ 0 → ⊥) → slot_in images page slot ≡ slot_where (fields_of w page) false
  empty_slot page slot p s off = slot_is page slot p s ∙ ap (slot_where (fields_of w page)) (root_or_none page slot off)

  module _ (some : 0 < pages) where
    first_page : 0 < length images
    first_page = subst (λ (n : ℕ). 0 < n) (sym count) some

    first_slot : 0 < length (get_or images 0 [])
    first_slot = subst (λ (n : ℕ). 0 < n) (sym (ap length (page_shown w 0 some) ∙ length_shown w 0)) (omega arith)

    root_slot : slot_in images 0 0 ≡ slot_where (fields_of w 0) true
    root_slot = slot_is 0 0 first_page first_slot

    objects_are : of_places (all_objects_in (bare_world 0 (length images))) images ≡ fresh_graph
    objects_are =
        let bare : World = bare_world 0 (length images) in
        places_one (all_objects_in bare) images 0 0 first_page first_slot (λ page slot p s off. ap (all_objects_in bare page slot) (empty_slot page slot p s off))
        ∙ ap (all_objects_in bare 0 0) root_slot

    freed_are : of_places freed_in images ≡ []
    freed_are =
        places_one freed_in images 0 0 first_page first_slot (λ page slot p s off. ap (freed_in page slot) (empty_slot page slot p s off))
        ∙ ap (freed_in 0 0) root_slot

    abbrev made : ℕ → List ObjectParts → List NameParts → World
    made count graph freed = record {
      pages = count;
      graph = graph;
      commits = 0;
      freed = freed;
      last_cut = 0;
      transactions = [];
      cut = None;
      broken = None;
      doubt = no_doubt;
    }

    pub fresh_opens : world_of 0 images ≡ w
    fresh_opens =
        ap (λ (n : ℕ). made n (of_places (all_objects_in (bare_world 0 (length images))) images) (of_places freed_in images)) count
        ∙ ap (λ (graph : List ObjectParts). made pages graph (of_places freed_in images)) objects_are
        ∙ ap (made pages fresh_graph) freed_are
