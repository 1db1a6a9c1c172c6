-- Where the images of counted records stand in a store file.
use Rattle.std.specs.Prelude.{◌≡◌, ⊤, ℕ, ◌+◌, ◌≤◌, ◌<◌, ◌==◌, Bool, List, [], ◌∷◌, ◌++◌, Ok}
use Rattle.std.specs.List.{list_any}
use Rattle.disk_trait.specs.Disk.{piece}
use Rattle.page_image.specs.Pages.{PageParts}
use Rattle.page_image.specs.Fields.{page_at}
use Rattle.redo_journal.specs.Record.{RecordParts, size_of}
use Rattle.redo_journal.specs.declared.places.ImagePlace.{ImagePlace}
use Rattle.redo_journal.specs.declared.sizes.TheConstants.{HOMES_START, PAGE_SIZE, IMAGE_SIZE, FRAME_SIZE}

-- images one behind the other, the first of them with its page's number at this place
abbrev pub places_of : ℕ → List PageParts → List ImagePlace
places_of from [] = []
places_of from (p ∷ ps) = record { page = p.number; at = from + 4 } ∷ places_of (from + IMAGE_SIZE) ps

-- the images of records, the first of which has its gate at this place
abbrev pub places_in : ℕ → List RecordParts → List ImagePlace
places_in gate [] = []
places_in gate (r ∷ rs) = places_of (gate + FRAME_SIZE) r.images ++ places_in (gate + size_of r) rs

-- an image of one of so many pages, before the homes
pub record IsPlace (pages : ℕ) (place : ImagePlace) : Type 0 where
  pub below : place.page < pages
  pub within : place.at + PAGE_SIZE ≤ HOMES_START

-- an image of this page stands at one of the places
abbrev pub has_place : List ImagePlace → ℕ → Bool
has_place places page = list_any (λ place. place.page == page) places

-- at these places stand images of these pages
abbrev pub StandAt : List ImagePlace → List PageParts → List ℕ → Type 0
StandAt [] [] file = ⊤
StandAt (place ∷ places) (p ∷ ps) file = (place.page ≡ p.number) × (page_at (piece place.at PAGE_SIZE file) ≡ Ok p)
    × StandAt places ps file
StandAt [] (p ∷ ps) file = ⊥
StandAt (place ∷ places) [] file = ⊥
