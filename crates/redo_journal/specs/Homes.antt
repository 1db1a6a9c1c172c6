-- The homes of pages in a store file, and how a file changes as images are sent there.
use Rattle.std.specs.Prelude.{◌≡◌, ℕ, ◌+◌, ◌*◌, ◌≤◌, ◌<◌, Bool, true, List, length, slice_index, Some, Ok}
use Rattle.disk_trait.specs.Disk.{piece}
use Rattle.page_image.specs.Pages.{PageParts}
use Rattle.page_image.specs.Fields.{page_at}
use Rattle.redo_journal.specs.Record.{RecordParts}
use Rattle.redo_journal.specs.Replays.{images_in, last_image, has_image}
use Rattle.redo_journal.specs.declared.sizes.TheConstants.{HOMES_START, PAGE_SIZE}

-- where the home of a page begins in the store file
abbrev pub home_start : ℕ → ℕ
home_start page = HOMES_START + PAGE_SIZE * page

-- the bytes of a store of so many pages
abbrev pub store_size : ℕ → ℕ
store_size pages = HOMES_START + PAGE_SIZE * pages

abbrev pub home_of : ℕ → List ℕ → List ℕ
home_of page file = piece (home_start page) PAGE_SIZE file

-- the byte at this place is one of the page's home
abbrev pub IsInHome : ℕ → ℕ → Type 0
IsInHome page at = (home_start page ≤ at) × (at < home_start page + PAGE_SIZE)

-- they differ in the homes alone of such pages
pub record DiffersInHomes (named : ℕ → Bool) (old new : List ℕ) : Type 0 where
  pub same_length : length new ≡ length old
  pub elsewhere : (at : ℕ) → ((page : ℕ) → named page ≡ true → IsInHome page at → ⊥)
      → slice_index new at ≡ slice_index old at

-- each page among the images has the last of them at home, and all else is as before
pub record AreHome (images : List PageParts) (old new : List ℕ) : Type 0 where
  pub elsewhere : DiffersInHomes (has_image images) old new
  pub homes : (page : ℕ) (p : PageParts) → last_image images page ≡ Some p → page_at (home_of page new) ≡ Ok p

-- each home that a record names holds its last image, and all else is as before
abbrev pub AreSentHome : List RecordParts → List ℕ → List ℕ → Type 0
AreSentHome records old new = AreHome (images_in records) old new
