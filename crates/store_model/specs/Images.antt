-- The image of a page: the objects in it, and what it shows of a graph.
use Rattle.std.specs.Prelude.{ℕ, true, false, cond, List, [], ◌∷◌, length, map, filter, replicate, slice_index_or, None}
use Rattle.std.specs.List.{flat_map}
use Rattle.object_graph.specs.NameParts.{NameParts}
use Rattle.object_graph.specs.SlotParts.{SlotParts}
use Rattle.object_graph.specs.ObjectParts.{ObjectParts}
use Rattle.object_graph.specs.Graphs.{objects_at}
use Rattle.object_graph.specs.Slots.{below}
use Rattle.store_model.specs.Worlds.{World, slots_of, fields_of, is_unfreed}

-- ---- the objects in an image

-- a slot in which nothing ever was
abbrev pub no_slot : SlotParts
no_slot = record { in_use = false; generation = 0; number = 0; refs = [] }

-- the object in a slot
abbrev pub object_in : ℕ → ℕ → SlotParts → ObjectParts
object_in page slot s = record {
  name =
      record { page = page; slot = slot; generation = s.generation };
  number = s.number;
  refs = s.refs;
}

-- the same, where the slot is in use
abbrev pub objects_in : ℕ → ℕ → SlotParts → List ObjectParts
objects_in page slot s = cond s.in_use (object_in page slot s ∷ []) []

-- what each slot of the image of a page gives, slots ascending
abbrev pub of_slots : {A : Type 0} → (ℕ → SlotParts → List A) → List SlotParts → List A
of_slots f image = flat_map (λ slot. f slot (slice_index_or image slot no_slot)) (below (length image))

-- the objects in use in the image of a page
abbrev pub objects_of : ℕ → List SlotParts → List ObjectParts
objects_of page image = of_slots (objects_in page) image

-- ---- what is shown of a graph

-- the unfreed objects at a place: one at most
abbrev pub unfreed_at : List ObjectParts → List NameParts → ℕ → ℕ → List ObjectParts
unfreed_at graph freed page slot = filter (is_unfreed freed) (objects_at graph page slot)

-- a slot with these unfreed objects, of which there is one at most, and so many names in all
abbrev pub slot_with : ℕ → List ObjectParts → ℕ → SlotParts
slot_with fields [] names = record { in_use = false; generation = names; number = 0; refs = replicate fields None }
slot_with fields (o ∷ os) names =
    record { in_use = true; generation = o.name.generation; number = o.number; refs = o.refs }

-- a slot of a page as a graph has it, of whose names these are freed
abbrev pub shown_slot : ℕ → List ObjectParts → List NameParts → ℕ → ℕ → SlotParts
shown_slot fields graph freed page slot =
    slot_with fields (unfreed_at graph freed page slot) (length (objects_at graph page slot))

-- the image of a page of so many slots, with so many references in each
unfoldable pub shown_of : ℕ → ℕ → List ObjectParts → List NameParts → ℕ → List SlotParts
shown_of slots fields graph freed page = map (shown_slot fields graph freed page) (below slots)

-- the image of a page as a graph of this world has it
abbrev pub shown_in : World → List ObjectParts → ℕ → List SlotParts
shown_in w graph page = shown_of (slots_of w page) (fields_of w page) graph w.freed page

-- the committed image of a page
abbrev pub shown : World → ℕ → List SlotParts
shown w page = shown_in w w.graph page

-- the committed images of all pages
abbrev pub all_shown : World → List (List SlotParts)
all_shown w = map (shown w) (below w.pages)
