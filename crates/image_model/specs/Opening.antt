-- What opening reads of a store file.
use Rattle.std.specs.Prelude.{ℕ, ◌+◌, ◌==◌, nat_le, List, [], ◌∷◌, map, length, Option, Some, None, Result, Ok, Err, if◌then◌else◌}
use Rattle.object_graph.specs.SlotParts.{SlotParts}
use Rattle.object_graph.specs.Slots.{below}
use Rattle.page_image.specs.Pages.{PageParts}
use Rattle.page_image.specs.Fields.{page_at}
use Rattle.redo_journal.specs.Area.{Contents, read_area, area_of, area_start}
use Rattle.redo_journal.specs.Homes.{home_start, home_of, store_size}
use Rattle.redo_journal.specs.Record.{RecordParts, grammar}
use Rattle.redo_journal.specs.Replays.{images_in, last_image}
use Rattle.redo_journal.specs.Results.{◌>>=◌, from_place}
use Rattle.redo_journal.specs.Walk.{weights}
use Rattle.image_model.specs.Super.{SuperParts, super_of}

-- the number of commits, and the final image of each page, page 0 first
pub record StoreParts : Type 0 where
  pub commits : ℕ
  pub pages : List PageParts

-- the slots of each page
abbrev pub page_slots : List PageParts → List (List SlotParts)
page_slots pages = map (λ p. p.slots) pages

abbrev pub store_images : StoreParts → List (List SlotParts)
store_images store = page_slots store.pages

-- why a file is no store
pub data Fault : Type 0 where
  not_a_store : Fault
  damaged : ℕ → Fault

-- ---- the final image of a page

-- the page that these bytes are the home of, or the offset of the first wrong field
abbrev pub home_at : ℕ → List ℕ → Result PageParts ℕ
home_at page bytes = do
  p ← page_at bytes
  if p.number == page then Ok p else Err 4

-- an image, or else what these bytes of the page's home spell
abbrev pub or_spelled : Option PageParts → ℕ → List ℕ → Result PageParts ℕ
or_spelled (Some p) page bytes = Ok p
or_spelled None page bytes = from_place (home_start page) (home_at page bytes)

-- an image, or else what stands at home
abbrev pub or_home : Option PageParts → ℕ → List ℕ → Result PageParts ℕ
or_home image page file = or_spelled image page (home_of page file)

-- its last image in the counted records, or else its home
abbrev pub final_at : List RecordParts → List ℕ → ℕ → Result PageParts ℕ
final_at records file page = or_home (last_image (images_in records) page) page file

-- all of these, or the first fault
abbrev pub each_of : {A : Type 0} → (ℕ → Result A ℕ) → List ℕ → Result (List A) ℕ
each_of f [] = Ok []
each_of f (n ∷ ns) = do
  x ← f n
  xs ← each_of f ns
  Ok (x ∷ xs)

-- ---- opening

-- what the active area holds
abbrev pub active_of : SuperParts → List ℕ → Result (Contents RecordParts) ℕ
active_of s file = read_area (grammar s.pages) (area_start s.area) (area_of s.area file)

-- the counted records over the homes
abbrev pub with_homes : SuperParts → List ℕ → Contents RecordParts → Result StoreParts ℕ
with_homes s file held = do
  pages ← each_of (final_at held.records file) (below s.pages)
  Ok (record { commits = held.base + weights (grammar s.pages) held.records; pages = pages })

abbrev pub as_damage : Result StoreParts ℕ → Result StoreParts Fault
as_damage (Ok store) = Ok store
as_damage (Err at) = Err (damaged at)

abbrev pub open_with : Option SuperParts → List ℕ → Result StoreParts Fault
open_with None file = Err not_a_store
open_with (Some s) file =
    if nat_le (store_size s.pages) (length file) then as_damage (active_of s file >>= with_homes s file)
    else Err (damaged (length file))

-- what the file holds, or the first thing that is wrong with it; the root and the references are judged above
unfoldable pub open_of : List ℕ → Result StoreParts Fault
open_of file = open_with (super_of file) file

-- ---- what counts

abbrev pub records_or_none : Result (Contents RecordParts) ℕ → List RecordParts
records_or_none (Ok held) = held.records
records_or_none (Err at) = []

abbrev pub counted_with : Option SuperParts → List ℕ → List RecordParts
counted_with None file = []
counted_with (Some s) file = records_or_none (active_of s file)

-- the counted records of the active area
abbrev pub counted_of : List ℕ → List RecordParts
counted_of file = counted_with (super_of file) file
