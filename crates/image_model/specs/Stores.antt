-- Which files are stores, and what is wrong with those that aren't.
use Rattle.std.specs.Prelude.{◌≡◌, ◌⊎◌, ℕ, ◌+◌, ◌*◌, ◌≤◌, false, List, [], ◌∷◌, length, Some, Ok, Err, slice_get, IsTrue}
use Rattle.object_graph.specs.NameParts.{NameParts}
use Rattle.object_graph.specs.Names.{root_name}
use Rattle.object_graph.specs.SlotParts.{SlotParts}
use Rattle.object_graph.specs.Slots.{below}
use Rattle.object_graph.specs.Graphs.{IsReachedFrom}
use Rattle.page_image.specs.Fields.{slot_start}
use Rattle.page_image.specs.Pages.{PageParts}
use Rattle.redo_journal.specs.Homes.{home_start}
use Rattle.redo_journal.specs.Record.{numbers_of}
use Rattle.store_model.specs.FromImages.{slot_in, objects_in_use, is_name_in_use, has_root, IsWhole}
use Rattle.image_model.specs.Super.{is_page_count}
use Rattle.image_model.specs.Opening.{StoreParts, Fault, damaged, store_images, open_of}

-- ---- a store

-- the root is in use, and what is reached from it refers to nothing but what is in use
pub record IsRooted (images : List (List SlotParts)) : Type 0 where
  pub root : IsTrue (has_root images)
  pub whole : IsWhole images

-- the file holds this, and all is right with it
pub record IsStore (file : List ℕ) (store : StoreParts) : Type 0 where
  pub opens : open_of file ≡ Ok store
  pub rooted : IsRooted (store_images store)

-- the pages of a store, page 0 first
pub record ArePages (pages : List PageParts) : Type 0 where
  pub count : IsTrue (is_page_count (length pages))
  pub numbered : numbers_of pages ≡ below (length pages)

-- ---- what is wrong with images

-- where the root's slot begins
abbrev pub root_place : ℕ
root_place = home_start 0 + slot_start 0

-- where a reference of an object stands in its page's home
abbrev pub reference_place : NameParts → ℕ → ℕ
reference_place name field = home_start name.page + slot_start name.slot + 16 + 8 * field

-- an object that is reached from the root refers, at this place, to a name that isn't in use
pub record DanglesAt (images : List (List SlotParts)) (at : ℕ) : Type 0 where
  pub from : NameParts
  pub field : ℕ
  pub target : NameParts
  pub reached : IsReachedFrom (objects_in_use images) (root_name ∷ []) from
  pub refers : slice_get (slot_in images from.page from.slot).refs field ≡ Some (Some target)
  pub missing : is_name_in_use images target ≡ false
  pub place : at ≡ reference_place from field

-- the least of these places
pub record IsFirstDangling (images : List (List SlotParts)) (at : ℕ) : Type 0 where
  pub dangles : DanglesAt images at
  pub least : (other : ℕ) → DanglesAt images other → at ≤ other

-- the root isn't in use
pub record IsRootless (images : List (List SlotParts)) (at : ℕ) : Type 0 where
  pub none : has_root images ≡ false
  pub place : at ≡ root_place

-- the root is in use, and this is the least place of a reference that dangles
pub record IsDangling (images : List (List SlotParts)) (at : ℕ) : Type 0 where
  pub root : IsTrue (has_root images)
  pub first : IsFirstDangling images at

abbrev pub HasFaultAt : List (List SlotParts) → ℕ → Type 0
HasFaultAt images at = IsRootless images at ⊎ IsDangling images at

-- ---- what is wrong with a file

-- what it holds has a fault
pub record HoldsFault (file : List ℕ) (fault : Fault) : Type 0 where
  pub store : StoreParts
  pub opens : open_of file ≡ Ok store
  pub at : ℕ
  pub there : HasFaultAt (store_images store) at
  pub is : fault ≡ damaged at

-- the first thing that is wrong with a file
abbrev pub HasFault : List ℕ → Fault → Type 0
HasFault file fault = (open_of file ≡ Err fault) ⊎ HoldsFault file fault
