-- Files that a checkpoint leaves on its way, and files that are laid.
use Rattle.std.specs.Prelude.{◌≡◌, ℕ, ◌-◌, ◌<◌, List, [], ◌++◌, map, length, take, replicate, Some, Ok, if◌then◌else◌, ◌==◌}
use Rattle.std.specs.List.{flat_map}
use Rattle.object_graph.specs.Slots.{below}
use Rattle.page_image.specs.Pages.{PageParts, empty_page, with_slot}
use Rattle.page_image.specs.Slots.{taken}
use Rattle.page_image.specs.Spelling.{page_bytes}
use Rattle.redo_journal.specs.Area.{AreaHolds}
use Rattle.redo_journal.specs.declared.sizes.TheConstants.{AREA_SIZE}
use Rattle.redo_journal.specs.Homes.{home_of, store_size}
use Rattle.redo_journal.specs.Record.{grammar}
use Rattle.redo_journal.specs.Sending.{empty_area}
use Rattle.image_model.specs.Super.{SuperParts, super_of, super_bytes}
use Rattle.image_model.specs.Opening.{final_at, counted_of, home_at}

-- ---- on the way

-- the other area is empty and has this base, and each home has the final image of its page: either area may be the
-- active one
pub record IsReadyToSwitch (super : SuperParts) (commits : ℕ) (file : List ℕ) : Type 0 where
  pub head : super_of file ≡ Some super
  pub other : AreaHolds (grammar super.pages) (1 - super.area) commits [] file
  pub homes : (page : ℕ) (p : PageParts) → page < super.pages → final_at (counted_of file) file page ≡ Ok p
      → home_at page (home_of page file) ≡ Ok p

-- ---- laid

-- an area without records
unfoldable pub area_bytes : ℕ → List ℕ
area_bytes commits = empty_area commits ++ replicate (AREA_SIZE - 9) 0

-- the bytes of a store with these pages and so many commits, whose areas are empty
unfoldable pub store_bytes : ℕ → List PageParts → List ℕ
store_bytes commits pages = super_bytes (length pages) ++
    (area_bytes commits ++ (area_bytes commits ++ flat_map page_bytes pages))

-- the file begins with them
abbrev pub IsLaid : ℕ → List PageParts → List ℕ → Type 0
IsLaid commits pages file = take (store_size (length pages)) file ≡ store_bytes commits pages

-- the pages of a fresh store: page 0 has the root
abbrev pub fresh_page : ℕ → PageParts
fresh_page page = if page == 0 then with_slot (empty_page 0) 0 taken else empty_page page

abbrev pub fresh_pages : ℕ → List PageParts
fresh_pages pages = map fresh_page (below pages)
