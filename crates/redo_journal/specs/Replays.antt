-- The pages of counted records, of which the last image of each counts.
use Rattle.std.specs.Prelude.{◌≡◌, ℕ, ◌<◌, ◌==◌, Bool, is_some, List, [], ◌∷◌, Option, Some, None, find, if◌then◌else◌}
use Rattle.std.specs.List.{flat_map, AllByRecursion}
use Rattle.std.specs.List.Sorted.{IsStrictlyIncreasing}
use Rattle.page_image.specs.Pages.{PageParts}
use Rattle.redo_journal.specs.Journals.{JournalParts}
use Rattle.redo_journal.specs.Record.{RecordParts, commits_in, numbers_of}
use Rattle.redo_journal.specs.declared.replay.Replay.{Replay}

-- the images of the records, oldest first
abbrev pub images_in : List RecordParts → List PageParts
images_in records = flat_map (λ r. r.images) records

-- the later one of two
abbrev pub later : Option PageParts → Option PageParts → Option PageParts
later (Some p) old = Some p
later None old = old

-- the last image of a page
abbrev pub last_image : List PageParts → ℕ → Option PageParts
last_image [] page = None
last_image (p ∷ ps) page = later (last_image ps page) (if p.number == page then Some p else None)

-- one of the images is of this page
abbrev pub has_image : List PageParts → ℕ → Bool
has_image images page = is_some (last_image images page)

-- a record names the page
abbrev pub is_named : List RecordParts → ℕ → Bool
is_named records page = has_image (images_in records) page

-- the image of a page among images of which each page has at most one
abbrev pub image_among : List PageParts → ℕ → Option PageParts
image_among images page = find (λ p. p.number == page) images

-- images of pages below a count, at most one of each, ascending
pub record AreLatest (pages : ℕ) (images : List PageParts) : Type 0 where
  pub ascending : IsStrictlyIncreasing (numbers_of images)
  pub below : AllByRecursion (λ p. p.number < pages) images

-- images laid over others: each page has the last of them, or else what it had
abbrev pub IsLaidOver : List PageParts → List PageParts → List PageParts → Type 0
IsLaidOver images old new = (page : ℕ) → image_among new page ≡ later (last_image images page) (image_among old page)

-- The replay of these records: their commits, and the last image of each page that they name, ascending.
pub record IsReplay (records : List RecordParts) (replay : Replay) : Type 0 where
  pub commits : replay.commits ≡ commits_in records
  pub ascending : IsStrictlyIncreasing (numbers_of replay.images.items)
  pub each : (page : ℕ) → image_among replay.images.items page ≡ last_image (images_in records) page

-- a replay for this journal, whatever was read
pub record IsReplayFor (journal : JournalParts) (replay : Replay) : Type 0 where
  pub base : replay.base ≡ journal.base
  pub commits : replay.commits ≡ journal.commits
  pub images : AreLatest journal.pages replay.images.items
