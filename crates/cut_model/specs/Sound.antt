-- Which cuts are sound, and which copies are fit.
use Rattle.std.specs.Prelude.{◌≡◌, ℕ, ◌<◌, ◌≤◌, not, ◌⊎◌, Some, List, length, filter, slice_index_or, is_some, IsTrue, IfSome, IsSomeAnd}
use Rattle.std.specs.List.{list_any, AllByRecursion}
use Rattle.object_graph.specs.NameParts.{NameParts}
use Rattle.object_graph.specs.SlotParts.{SlotParts}
use Rattle.object_graph.specs.Slots.{has_slot}
use Rattle.object_graph.specs.ObjectParts.{ObjectParts}
use Rattle.object_graph.specs.Graphs.{is_to}
use Rattle.store_model.specs.Worlds.{World, Opening}
use Rattle.store_model.specs.Worlds.{IsOutOfReach}
use Rattle.store_model.specs.Lawful.{IsOrderly}
use Rattle.store_model.specs.Worlds.{is_unfreed, is_old, IsLost}
use Rattle.store_model.specs.States.{State, state_of, shown_by}
use Rattle.cut_model.specs.States.{KeepsOpening, generation_at}
use Rattle.store_model.specs.Images.{objects_of}
use Rattle.cut_model.specs.CutPages.{CopyParts, CutPage, bare_page, committed_image, settled_image, images_of_copy, images_of}

-- an object in an image has the name of its place, and doesn't refer to what was lost, unless it was lost itself
pub record IsSafeObject (opening : Opening) (o : ObjectParts) : Type 0 where
  pub name : o.name.generation ≡ generation_at opening.graph opening.freed o.name.page o.name.slot
  pub kept : ¬ IsLost opening o.name → (target : NameParts) → IsLost opening target
      → ¬ IsTrue (list_any (is_to target) o.refs)

abbrev pub IsSafeImage : Opening → ℕ → List SlotParts → Type 0
IsSafeImage opening page image = AllByRecursion (IsSafeObject opening) (objects_of page image)

-- the unfreed objects of a page that weren't there as the cut opened are born
abbrev pub IsBornRight : Opening → ℕ → ℕ → ObjectParts → Type 0
IsBornRight opening page born o = o.name.page ≡ page → has_slot born o.name.slot ≡ not (is_old opening o.name)

-- a page of a cut is sound
pub record IsSoundPage (s : State) (opening : Opening) (page : ℕ) (p : CutPage) : Type 0 where
  pub settled : IfSome (settled_image p) (λ image. image ≡ shown_by s page)
  pub images : AllByRecursion (IsSafeImage opening page) (images_of p)
  pub born : AllByRecursion (IsBornRight opening page p.born) (filter (is_unfreed s.freed) s.graph)
  pub copied : IfSome p.copy (λ c. c.moment ≤ s.commits)
  pub changed : IfSome p.after (λ a. a.moment ≤ s.commits)

-- each page is
abbrev pub IsSound : State → Opening → List CutPage → Type 0
IsSound s opening pages = (page : ℕ) → page < length pages
    → IsSoundPage s opening page (slice_index_or pages page bare_page)

-- a copy of a page that has none yet is fit
pub record IsFitCopy (s : State) (opening : Opening) (page : ℕ) (p : CutPage) (c : CopyParts) : Type 0 where
  pub settled : (committed_image c ≡ shown_by s page) ⊎ IsSomeAnd p.after (λ a. c.moment < a.moment)
  pub images : AllByRecursion (IsSafeImage opening page) (images_of_copy (Some c))
  pub since : opening.commits ≤ c.moment
  pub moment : c.moment ≤ s.commits

abbrev pub IsFit : State → Opening → ℕ → CutPage → CopyParts → Type 0
IsFit s opening page p c = IsTrue (is_some p.copy) ⊎ IsFitCopy s opening page p c

-- a sound cut with a copy of every page of a lawful world
pub record IsClosedBeside (w : World) (opening : Opening) (pages : List CutPage) : Type 0 where
  pub orderly : IsOrderly w
  pub freed : AllByRecursion (IsOutOfReach w) w.freed
  pub keeps : KeepsOpening w opening
  pub all : length pages ≡ w.pages
  pub sound : IsSound (state_of w) opening pages
  pub copied : (page : ℕ) → page < length pages → IsTrue (is_some (slice_index_or pages page bare_page).copy)
