-- Which names a sweep frees, and what holds of them from the closing of a cut on.
use Rattle.std.specs.Prelude.{◌≡◌, ◌↔◌, ℕ, ◌<◌, Bool, false, not, ◌&&◌, Some, List, length, slice_index_or, IsTrue}
use Rattle.object_graph.specs.NameParts.{NameParts}
use Rattle.object_graph.specs.SlotParts.{SlotParts}
use Rattle.object_graph.specs.Slots.{has_slot}
use Rattle.object_graph.specs.ObjectParts.{ObjectParts}
use Rattle.object_graph.specs.Graphs.{has_object}
use Rattle.store_model.specs.Worlds.{World, Opening, is_freed}
use Rattle.store_model.specs.Causes.{has_page}
use Rattle.store_model.specs.Worlds.{IsOutOfReach}
use Rattle.object_graph.specs.Members.{In}
use Rattle.store_model.specs.Worlds.{is_old, IsLost}
use Rattle.store_model.specs.Images.{no_slot, objects_of}
use Rattle.cut_model.specs.CutPages.{CutPage, bare_page, settled_image, IsMarked}

-- a name in use in the settled image of its page, neither born nor marked
pub record IsDoomed (from : List NameParts) (pages : List CutPage) (name : NameParts) : Type 0 where
  pub image : List SlotParts
  pub object : ObjectParts
  pub within : name.page < length pages
  pub settled : settled_image (slice_index_or pages name.page bare_page) ≡ Some image
  pub shown : In object (objects_of name.page image)
  pub named : object.name ≡ name
  pub unborn : has_slot (slice_index_or pages name.page bare_page).born name.slot ≡ false
  pub unmarked : ¬ IsMarked from pages name

-- an unfreed name that was there as the cut opened and is out of reach
pub record IsSafeToFree (w : World) (opening : Opening) (name : NameParts) : Type 0 where
  pub there : IsTrue (has_object w.graph name)
  pub unfreed : IsTrue (not (is_freed w name))
  pub old : IsTrue (is_old opening name)
  pub out : IsOutOfReach w name

-- on the pages that aren't swept each doomed name is safe to free, and what was lost and isn't freed is doomed there
pub record KeepsDoomed (w : World) (opening : Opening) (from : List NameParts) (pages : List CutPage)
    (swept : List ℕ) : Type 0 where
  pub safe : (name : NameParts) → IsDoomed from pages name → has_page swept name.page ≡ false
      → IsSafeToFree w opening name
  pub lost : (name : NameParts) → IsLost opening name → IsTrue (not (is_freed w name))
      → (has_page swept name.page ≡ false) × IsDoomed from pages name

-- the doomed slots of a page
abbrev pub AreDoomedOn : List NameParts → List CutPage → ℕ → ℕ → Type 0
AreDoomedOn from pages page slots =
    (slot : ℕ) → IsTrue (has_slot slots slot) ↔ ((name : NameParts) × IsDoomed from pages name × (name.page ≡ page)
    × (name.slot ≡ slot))

-- the marks by their places: a slot is marked where a marked name stands in it
abbrev pub AreMarks : List NameParts → List CutPage → (ℕ → ℕ) → Type 0
AreMarks from pages marks =
    (page slot : ℕ) → IsTrue (has_slot (marks page) slot) ↔ ((name : NameParts) × IsMarked from pages name
    × (name.page ≡ page) × (name.slot ≡ slot))

-- a slot in use in an image
abbrev pub is_used : List SlotParts → ℕ → Bool
is_used image slot = (slice_index_or image slot no_slot).in_use

-- the slots in use in a settled image that are neither born nor marked
abbrev pub is_doomed : List SlotParts → ℕ → ℕ → ℕ → Bool
is_doomed image born marked slot = is_used image slot && (not (has_slot born slot) && not (has_slot marked slot))
