-- The world that images open to shows them.
use Rattle.std.proofs.Common.{◌≡◌, ℕ, zero, suc, ◌-◌, ◌<◌, ◌≤◌, ◌==◌, Bool, true, false, not, cond, List, [], ◌∷◌, ◌++◌, map, length, get_or, replicate, Option, None, refl, sym, ◌∙◌, ap, subst, arith, ◌⊎◌, inl, inr, append-nil}
use Rattle.std.specs.List.{filter, flat_map}
use Rattle.std.proofs.lemmas.Bool.{cases_Bool, cases_lt, and_from, eq-eqb}
use Rattle.std.proofs.lemmas.List.{get_or_past, length-map, map-append, ext_get_or}
use Rattle.std.proofs.lemmas.List.Elements.{filter-append}
use Rattle.object_graph.specs.NameParts.{NameParts}
use Rattle.object_graph.specs.SlotParts.{SlotParts}
use Rattle.object_graph.specs.ObjectParts.{ObjectParts}
use Rattle.object_graph.specs.Graphs.{has_name, is_at, objects_at}
use Rattle.object_graph.specs.Slots.{below}
use Rattle.object_graph.proofs.Members.{In, in_append, in_map}
use Rattle.object_graph.proofs.Paths.{has_name_in, in_has_name}
use Rattle.store_model.specs.Worlds.{World, is_unfreed, new_object, slots_of, fields_of}
use Rattle.store_model.specs.Images.{no_slot, object_in, objects_in, slot_with, shown_slot, shown_of}
use Rattle.store_model.specs.Lawful.{CountsUp}
use Rattle.store_model.specs.FromImages.{slot_in, of_places, objects_in_use, freed_count, freed_name, freed_in, all_objects_in, IsSlotWith, AreImagesOf}
use Rattle.store_model.proofs.Cuts.{below_bound}
use Rattle.store_model.proofs.Flats.{in_objects_in, length_below, length-map_below, get-map_below}
use Rattle.store_model.proofs.Places.{map_of_map, generation_of}
use Rattle.store_model.proofs.PlacedLists.{filter_flat, flat_same, filter_all, filter_nothing, in_places, place_gives, objects_of_place}

-- ---- one place

pub at_place : (page slot : ℕ) (name : NameParts) → name.page ≡ page → name.slot ≡ slot → is_at page slot name ≡ true
at_place page slot name p s = and_from (name.page == page) (name.slot == slot) (eq-eqb name.page page p) (eq-eqb name.slot slot s)

-- a name that is freed at a place
pub record IsFreedAt (page slot : ℕ) (s : SlotParts) (name : NameParts) : Type 0 where
  pub page_is : name.page ≡ page
  pub slot_is : name.slot ≡ slot
  pub low : name.generation ≤ freed_count s

pub freed_is : (page slot : ℕ) (s : SlotParts) (name : NameParts) → In name (freed_in page slot s) → IsFreedAt page slot s name
freed_is page slot s name m =
    let a = in_map (freed_name page slot) (below (freed_count s)) name m in
    let b = below_bound (freed_count s) a.0 a.1 in
    let g : name.generation ≡ suc a.0 = ap (λ (n : NameParts). n.generation) a.2 in
    record { page_is = ap (λ (n : NameParts). n.page) a.2; slot_is = ap (λ (n : NameParts). n.slot) a.2; low = omega (arith, b, g) }

pub object_at : (page slot : ℕ) (s : SlotParts) (o : ObjectParts) → In o (objects_in page slot s) → is_at page slot o.name ≡ true
object_at page slot s o m =
    let a = in_objects_in page slot s o m in
    at_place page slot o.name (ap (λ (x : ObjectParts). x.name.page) a.1) (ap (λ (x : ObjectParts). x.name.slot) a.1)

pub placed_at : (w : World) (page slot : ℕ) (s : SlotParts) (o : ObjectParts) → In o (all_objects_in w page slot s) → is_at page slot o.name ≡ true
placed_at w page slot s o m = elim (in_append (map (new_object w) (freed_in page slot s)) (objects_in page slot s) o m) [
  | inr here ↦ object_at page slot s o here
  | inl gone ↦
      let a = in_map (new_object w) (freed_in page slot s) o gone in
      let f = freed_is page slot s a.0 a.1 in
      let name : o.name ≡ a.0 = ap (λ (x : ObjectParts). x.name) a.2 in
      at_place page slot o.name (ap (λ (n : NameParts). n.page) name ∙ f.page_is) (ap (λ (n : NameParts). n.slot) name ∙ f.slot_is)
]

freed_generations : (w : World) (page slot n : ℕ) → map generation_of (map (new_object w) (map (freed_name page slot) (below n))) ≡ map suc (below n)
freed_generations w page slot n =
    map_of_map (new_object w) generation_of (map (freed_name page slot) (below n))
    ∙ map_of_map (freed_name page slot) (λ (name : NameParts). generation_of (new_object w name)) (below n)

last_one : (n : ℕ) → 0 < n → map suc (below (n - 1)) ++ n ∷ [] ≡ map suc (below n)
last_one zero some = absurd (omega arith)
last_one (suc n) some =
    let less : suc n - 1 ≡ n = omega arith in
    ap (λ (k : ℕ). map suc (below k) ++ suc n ∷ []) less ∙ sym (map-append suc (below n) (n ∷ []))

abbrev all_objects_with : World → ℕ → ℕ → SlotParts → Bool → List ObjectParts
all_objects_with w page slot s used =
    map (new_object w) (map (freed_name page slot) (below (cond used (s.generation - 1) s.generation))) ++ cond used (object_in page slot s ∷ []) []

-- a place has the generations up to that of its slot
pub all_generations : (w : World) (page slot : ℕ) (s : SlotParts) → (s.in_use ≡ true → 0 < s.generation) → map generation_of (all_objects_in w page slot s) ≡ map suc (below s.generation)
all_generations w page slot s some = by_use s.in_use refl
  where
    by_use : (used : Bool) → s.in_use ≡ used → map generation_of (all_objects_with w page slot s used) ≡ map suc (below s.generation)
    by_use true e =
        map-append generation_of (map (new_object w) (map (freed_name page slot) (below (s.generation - 1)))) (object_in page slot s ∷ [])
        ∙ ap (λ (l : List ℕ). l ++ s.generation ∷ []) (freed_generations w page slot (s.generation - 1)) ∙ last_one s.generation (some e)
    by_use false e =
        ap (map generation_of) (append-nil (map (new_object w) (map (freed_name page slot) (below s.generation)))) ∙ freed_generations w page slot s.generation

pub length-all_objects_in : (w : World) (page slot : ℕ) (s : SlotParts) → (s.in_use ≡ true → 0 < s.generation) → length (all_objects_in w page slot s) ≡ s.generation
length-all_objects_in w page slot s some =
    sym (length-map (all_objects_in w page slot s) generation_of) ∙ ap length (all_generations w page slot s some) ∙ length-map (below s.generation) suc ∙ length_below s.generation

-- the slot that its objects give
pub slot_again : (fields page slot : ℕ) (s : SlotParts) → IsSlotWith fields s → slot_with fields (objects_in page slot s) s.generation ≡ s
slot_again fields page slot s right = by_use s.in_use refl
  where
    by_use : (used : Bool) → s.in_use ≡ used → slot_with fields (cond used (object_in page slot s ∷ []) []) s.generation ≡ s
    by_use true e = ap (λ (u : Bool). let x : SlotParts = record { in_use = u; generation = s.generation; number = s.number; refs = s.refs } in x) (sym e)
    by_use false e =
        ap (λ (u : Bool). let x : SlotParts = record { in_use = u; generation = s.generation; number = 0; refs = replicate fields None } in x) (sym e)
        ∙ ap (λ (n : ℕ). let x : SlotParts = record { in_use = s.in_use; generation = s.generation; number = n; refs = replicate fields None } in x) (sym (right.number e))
        ∙ ap (λ (r : List (Option NameParts)). let x : SlotParts = record { in_use = s.in_use; generation = s.generation; number = s.number; refs = r } in x) (sym (right.refs e))

-- ---- the graph and the freed names of images

module _ (w : World) (images : List (List SlotParts)) (right : AreImagesOf (slots_of w) (fields_of w) images) where
  abbrev graph : List ObjectParts
  graph = of_places (all_objects_in w) images

  abbrev freed : List NameParts
  freed = of_places freed_in images

  abbrev HasName : SlotParts → Type 0
  HasName s = s.in_use ≡ true → 0 < s.generation

  pub slot_named : (page slot : ℕ) → HasName (slot_in images page slot)
  slot_named page slot = by_page (cases_lt page (length images)) (cases_lt slot (length (get_or images page [])))
    where
      past : length (get_or images page []) ≤ slot → HasName (slot_in images page slot)
      past le = subst HasName (sym (get_or_past (get_or images page []) slot no_slot le)) (λ e. absurd cc)

      by_page : (page < length images) ⊎ (length images ≤ page) → (slot < length (get_or images page [])) ⊎ (length (get_or images page []) ≤ slot) → HasName (slot_in images page slot)
      by_page (inl p) (inl s) = (right.slots page slot p (subst (λ (n : ℕ). slot < n) (right.count page p) s)).named
      by_page (inl p) (inr s) = past s
      by_page (inr p) s = past (subst (λ (l : List SlotParts). length l ≤ slot) (sym (get_or_past images page [] p)) (omega arith))

  pub objects_built : (page slot : ℕ) → objects_at graph page slot ≡ all_objects_in w page slot (slot_in images page slot)
  objects_built page slot = objects_of_place (all_objects_in w) (λ page slot. refl) (placed_at w) images page slot

  pub names_built : (page slot : ℕ) → length (objects_at graph page slot) ≡ (slot_in images page slot).generation
  names_built page slot = ap length (objects_built page slot) ∙ length-all_objects_in w page slot (slot_in images page slot) (slot_named page slot)

  pub counts_built : CountsUp graph
  counts_built page slot =
      ap (map generation_of) (objects_built page slot) ∙ all_generations w page slot (slot_in images page slot) (slot_named page slot)
      ∙ ap (λ (n : ℕ). map suc (below n)) (sym (names_built page slot))

  -- an object in use isn't freed
  pub used_unfreed : (page slot : ℕ) (o : ObjectParts) → In o (objects_in page slot (slot_in images page slot)) → has_name freed o.name ≡ false
  used_unfreed page slot o m = elim (cases_Bool (has_name freed o.name)) [
    | inr e ↦ e
    | inl e ↦
        let a = in_objects_in page slot (slot_in images page slot) o m in
        let b = in_places freed_in images o.name (has_name_in freed o.name e) in
        let f = freed_is b.page b.slot (slot_in images b.page b.slot) o.name b.there in
        let p : b.page ≡ page = sym f.page_is ∙ ap (λ (x : ObjectParts). x.name.page) a.1 in
        let s : b.slot ≡ slot = sym f.slot_is ∙ ap (λ (x : ObjectParts). x.name.slot) a.1 in
        let same : slot_in images b.page b.slot ≡ slot_in images page slot = ap (λ (k : ℕ). slot_in images k b.slot) p ∙ ap (slot_in images page) s in
        let count : freed_count (slot_in images b.page b.slot) ≡ (slot_in images page slot).generation - 1 =
        ap freed_count same ∙ ap (λ (u : Bool). cond u ((slot_in images page slot).generation - 1) (slot_in images page slot).generation) a.0 in
        let g : o.name.generation ≡ (slot_in images page slot).generation = ap (λ (x : ObjectParts). x.name.generation) a.1 in
        absurd (omega (arith, f.low, count, g, slot_named page slot a.0))
  ]

  freed_gone : (page slot : ℕ) (o : ObjectParts) → In o (map (new_object w) (freed_in page slot (slot_in images page slot))) → is_unfreed freed o ≡ false
  freed_gone page slot o m =
      let a = in_map (new_object w) (freed_in page slot (slot_in images page slot)) o m in
      let f : In a.0 freed = place_gives freed_in (λ page slot. refl) images page slot a.0 a.1 in
      ap (λ (x : ObjectParts). not (has_name freed x.name)) a.2 ∙ ap not (in_has_name freed a.0 f)

  -- of a place the object in use is unfreed
  pub unfreed_built : (page slot : ℕ) → filter (is_unfreed freed) (objects_at graph page slot) ≡ objects_in page slot (slot_in images page slot)
  unfreed_built page slot =
      let gone : List ObjectParts = map (new_object w) (freed_in page slot (slot_in images page slot)) in
      let here : List ObjectParts = objects_in page slot (slot_in images page slot) in
      ap (filter (is_unfreed freed)) (objects_built page slot)
      ∙ filter-append (is_unfreed freed) gone here
      ∙ ap (λ (l : List ObjectParts). l ++ filter (is_unfreed freed) here) (filter_nothing (is_unfreed freed) gone (freed_gone page slot))
      ∙ filter_all (is_unfreed freed) here (λ o m. ap not (used_unfreed page slot o m))

  -- so the unfreed objects are those in use
  pub unfreed_are_used : filter (is_unfreed freed) graph ≡ objects_in_use images
  unfreed_are_used =
      let test : ObjectParts → Bool = is_unfreed freed in
      let all : ℕ → ℕ → List ObjectParts = λ page slot. all_objects_in w page slot (slot_in images page slot) in
      let here : ℕ → ℕ → List ObjectParts = λ page slot. objects_in page slot (slot_in images page slot) in
      let slots : ℕ → List ℕ = λ page. below (length (get_or images page [])) in
      filter_flat test (λ (page : ℕ). flat_map (all page) (slots page)) (below (length images))
      ∙ flat_same (λ (page : ℕ). filter test (flat_map (all page) (slots page))) (λ (page : ℕ). flat_map (here page) (slots page)) (below (length images)) (λ page.
      filter_flat test (all page) (slots page)
      ∙ flat_same (λ (slot : ℕ). filter test (all page slot)) (here page) (slots page) (λ slot. sym (ap (filter test) (objects_built page slot)) ∙ unfreed_built page slot))

  -- a freed object is as it was made
  pub freed_as_made : (o : ObjectParts) → In o graph → has_name freed o.name ≡ true → o ≡ new_object w o.name
  freed_as_made o m is =
      let p = in_places (all_objects_in w) images o m in
      let s : SlotParts = slot_in images p.page p.slot in
      elim (in_append (map (new_object w) (freed_in p.page p.slot s)) (objects_in p.page p.slot s) o p.there) [
        | inl gone ↦ let a = in_map (new_object w) (freed_in p.page p.slot s) o gone in a.2 ∙ ap (λ (x : ObjectParts). new_object w x.name) (sym a.2)
        | inr here ↦ let f = used_unfreed p.page p.slot o here in absurd cc
      ]

  pub slot_built : (page slot : ℕ) → page < length images → slot < slots_of w page → shown_slot (fields_of w page) graph freed page slot ≡ slot_in images page slot
  slot_built page slot p s =
      ap (λ (l : List ObjectParts). slot_with (fields_of w page) l (length (objects_at graph page slot))) (unfreed_built page slot)
      ∙ ap (slot_with (fields_of w page) (objects_in page slot (slot_in images page slot))) (names_built page slot)
      ∙ slot_again (fields_of w page) page slot (slot_in images page slot) (right.slots page slot p s)

  pub page_built : (page : ℕ) → page < length images → shown_of (slots_of w page) (fields_of w page) graph freed page ≡ get_or images page []
  unfolding shown_of
  page_built page p =
      let f : ℕ → SlotParts = shown_slot (fields_of w page) graph freed page in
      let l = length-map_below f (slots_of w page) in
      ext_get_or no_slot (map f (below (slots_of w page))) (get_or images page []) (l ∙ sym (right.count page p)) (λ slot lt.
      let s : slot < slots_of w page = subst (λ (n : ℕ). slot < n) l lt in
      get-map_below f (slots_of w page) slot no_slot s ∙ slot_built page slot p s)

  pub images_built : map (λ (page : ℕ). shown_of (slots_of w page) (fields_of w page) graph freed page) (below (length images)) ≡ images
  images_built =
      let f : ℕ → List SlotParts = λ page. shown_of (slots_of w page) (fields_of w page) graph freed page in
      let l = length-map_below f (length images) in
      ext_get_or [] (map f (below (length images))) images l (λ page lt.
      let p : page < length images = subst (λ (n : ℕ). page < n) l lt in
      get-map_below f (length images) page [] p ∙ page_built page p)
