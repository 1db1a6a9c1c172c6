-- The world that a store opens to from the images of its pages, and which images a store may have.
use Rattle.std.specs.Prelude.{◌≡◌, ℕ, suc, ◌-◌, ◌<◌, Bool, true, false, ◌&&◌, ◌==◌, None, List, [], ◌∷◌, ◌++◌, map, length, replicate, slice_index_or, if◌then◌else◌, nat_lt, nat_le}
use Rattle.std.specs.List.{flat_map}
use Rattle.object_graph.specs.NameParts.{NameParts}
use Rattle.object_graph.specs.SlotParts.{SlotParts}
use Rattle.object_graph.specs.Names.{root_name}
use Rattle.object_graph.specs.ObjectParts.{ObjectParts}
use Rattle.object_graph.specs.Slots.{below}
use Rattle.store_model.specs.Worlds.{World, no_doubt, slots_of, fields_of, new_object}
use Rattle.store_model.specs.Images.{no_slot, objects_in, of_slots}
use Rattle.store_model.specs.Lawful.{RefersWithin}

-- ---- the images of all pages, page 0 first

-- a slot of a page
abbrev pub slot_in : List (List SlotParts) → ℕ → ℕ → SlotParts
slot_in images page slot = slice_index_or (slice_index_or images page []) slot no_slot

-- what each slot of each page gives, pages and slots ascending
abbrev pub of_places : {A : Type 0} → (ℕ → ℕ → SlotParts → List A) → List (List SlotParts) → List A
of_places f images = flat_map (λ page. of_slots (f page) (slice_index_or images page [])) (below (length images))

-- the objects in use
abbrev pub objects_in_use : List (List SlotParts) → List ObjectParts
objects_in_use images = of_places objects_in images

-- the slot is in use under this generation
abbrev pub is_in_use_under : SlotParts → ℕ → Bool
is_in_use_under s generation = s.in_use && (s.generation == generation)

-- the name is that of an object in use
abbrev pub is_name_in_use : List (List SlotParts) → NameParts → Bool
is_name_in_use images name = is_in_use_under (slot_in images name.page name.slot) name.generation

-- the name is one of those that were ever given: at each place generations 1 to the stored one
abbrev pub was_given : List (List SlotParts) → NameParts → Bool
was_given images name = nat_lt 0 name.generation
    && nat_le name.generation (slot_in images name.page name.slot).generation

-- ---- the world that is opened

-- how many names of a place are freed: each but that of the object in use
abbrev pub freed_count : SlotParts → ℕ
freed_count s = if s.in_use then s.generation - 1 else s.generation

-- the freed names of a place, oldest first
abbrev pub freed_name : ℕ → ℕ → ℕ → NameParts
freed_name page slot before = record { page = page; slot = slot; generation = suc before }

abbrev pub freed_in : ℕ → ℕ → SlotParts → List NameParts
freed_in page slot s = map (freed_name page slot) (below (freed_count s))

-- all objects of a place, oldest first: the freed ones as they were made, then the one in use
abbrev pub all_objects_in : World → ℕ → ℕ → SlotParts → List ObjectParts
all_objects_in w page slot s = map (new_object w) (freed_in page slot s) ++ objects_in page slot s

-- a store of so many pages, before anything is in it
abbrev pub bare_world : ℕ → ℕ → World
bare_world commits pages = record {
  pages = pages;
  graph = [];
  commits = commits;
  freed = [];
  last_cut = 0;
  transactions = [];
  cut = None;
  broken = None;
  doubt = no_doubt;
}

-- a world with the objects and the freed names of these images
abbrev pub with_images : World → List (List SlotParts) → World
with_images w images = record w { graph = of_places (all_objects_in w) images; freed = of_places freed_in images }

-- the world that a store with these images and so many commits opens to
abbrev pub world_of : ℕ → List (List SlotParts) → World
world_of commits images = with_images (bare_world commits (length images)) images

-- ---- images that a store may have

-- an object in use has had a name, a free slot has no fields, and each has as many references as an object
pub record IsSlotWith (fields : ℕ) (s : SlotParts) : Type 0 where
  pub named : s.in_use ≡ true → 0 < s.generation
  pub number : s.in_use ≡ false → s.number ≡ 0
  pub refs : s.in_use ≡ false → s.refs ≡ replicate fields None
  pub width : length s.refs ≡ fields

-- each image has as many slots as its page
pub record AreImagesOf (slots_on fields_on : ℕ → ℕ) (images : List (List SlotParts)) : Type 0 where
  pub count : (page : ℕ) → page < length images → length (slice_index_or images page []) ≡ slots_on page
  pub slots : (page slot : ℕ) → page < length images → slot < slots_on page
      → IsSlotWith (fields_on page) (slot_in images page slot)

-- so it is in the store that opens to them
abbrev pub AreImages : List (List SlotParts) → Type 0
AreImages images = AreImagesOf (slots_of (world_of 0 images)) (fields_of (world_of 0 images)) images

-- the root is in use
abbrev pub has_root : List (List SlotParts) → Bool
has_root images = is_name_in_use images root_name

-- what is reached from the root through objects in use refers to objects in use only
abbrev pub IsWhole : List (List SlotParts) → Type 0
IsWhole images = RefersWithin (objects_in_use images) (root_name ∷ [])
