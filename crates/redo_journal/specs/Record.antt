-- A record of the journal, how it is read, and how it is spelled.
use Rattle.std.specs.Prelude.{◌≡◌, ℕ, zero, suc, ◌+◌, ◌*◌, ◌≤◌, ◌<◌, Bool, List, [], ◌∷◌, ◌++◌, map, length, take, drop, slice_index, Result, Ok, Err, if◌then◌else◌, nat_lt, nat_le, ◌==◌, ◌&&◌, sum_by}
use Rattle.std.specs.List.{flat_map, AllByRecursion}
use Rattle.std.specs.List.Sorted.{IsStrictlyIncreasing}
use Rattle.std.specs.Int.{w32, to_be_bytes, from_be_bytes}
use Rattle.page_image.specs.Pages.{PageParts}
use Rattle.page_image.specs.Fields.{page_at}
use Rattle.page_image.specs.Spelling.{page_bytes}
use Rattle.redo_journal.specs.Results.{◌>>=◌, from_place}
use Rattle.redo_journal.specs.Walk.{Grammar}
use Rattle.redo_journal.specs.declared.kind.Kind.{Kind}
use Rattle.redo_journal.specs.declared.kind.Kind.TheVariants.{Commit, Sweep}
use Rattle.redo_journal.specs.declared.sizes.TheConstants.{PAGE_SIZE, IMAGE_SIZE, FRAME_SIZE}
use Rattle.object_graph.specs.declared.limits.TheConstants.{MOST_COUNTED, MOST_WRITTEN}

-- its kind, and the pages that it writes
pub record RecordParts : Type 0 where
  pub kind : Kind
  pub images : List PageParts

-- the length of a record with its gate
abbrev pub size_of : RecordParts → ℕ
size_of r = FRAME_SIZE + IMAGE_SIZE * length r.images

-- the commits that a record counts for
abbrev pub commits_of : Kind → ℕ
commits_of Commit = 1
commits_of Sweep = 0

-- the commits among records
abbrev pub commits_in : List RecordParts → ℕ
commits_in records = sum_by (λ r. commits_of r.kind) records

-- ---- reading

-- one page with its number, which is at least `low` and below `pages`
unfoldable pub image_at : ℕ → ℕ → ℕ → List ℕ → Result PageParts ℕ
image_at pages place low bytes = do
  number ← if nat_le low (from_be_bytes w32 (take 4 bytes)) && nat_lt (from_be_bytes w32 (take 4 bytes)) pages
      then Ok (from_be_bytes w32 (take 4 bytes)) else Err place
  image ← from_place (place + 4) (page_at (take PAGE_SIZE (drop 4 bytes)))
  if image.number == number then Ok image else Err (place + 8)

-- so many pages with their numbers, each number at least `low` and above the one before it
unfoldable pub images_at : ℕ → ℕ → ℕ → ℕ → List ℕ → Result (List PageParts) ℕ
images_at pages place low zero bytes = Ok []
images_at pages place low (suc n) bytes = do
  image ← image_at pages place low bytes
  others ← images_at pages (place + IMAGE_SIZE) (image.number + 1) n (drop IMAGE_SIZE bytes)
  Ok (image ∷ others)

-- the kind: a commit only where the number of commits may rise
unfoldable pub kind_at : ℕ → ℕ → ℕ → Result Kind ℕ
kind_at place done byte =
    if byte == 1 then (if nat_lt done MOST_COUNTED then Ok Commit else Err place)
    else (if byte == 2 then Ok Sweep else Err place)

-- the counts that a kind may have
abbrev pub is_count : Kind → ℕ → Bool
is_count Commit count = nat_le count MOST_WRITTEN
is_count Sweep count = count == 1

-- the count, where its four bytes, so many pages and the next gate are among the `left` bytes from the kind on
abbrev pub count_at : ℕ → Kind → ℕ → ℕ → Result ℕ ℕ
count_at place kind left count = if nat_le 5 left
    && (is_count kind count && nat_le (FRAME_SIZE + IMAGE_SIZE * count) left) then Ok count else Err place

-- a record: kind, count, pages (past the area's end there is no kind)
unfoldable pub record_at : ℕ → ℕ → ℕ → List ℕ → Result RecordParts ℕ
record_at pages place done bytes = do
  kind ← kind_at place done (slice_index bytes 0)
  count ← count_at (place + 1) kind (length bytes) (from_be_bytes w32 (take 4 (drop 1 bytes)))
  images ← images_at pages (place + 5) 0 count (drop 5 bytes)
  Ok (record { kind = kind; images = images })

-- the records of a store of so many pages
unfoldable pub grammar : ℕ → Grammar RecordParts
grammar pages = record {
  at = record_at pages;
  size = λ r. 5 + IMAGE_SIZE * length r.images;
  weight = λ r. commits_of r.kind;
}

-- ---- spelling

abbrev pub kind_byte : Kind → ℕ
kind_byte Commit = 1
kind_byte Sweep = 2

abbrev pub image_bytes : PageParts → List ℕ
image_bytes p = to_be_bytes w32 p.number ++ page_bytes p

-- a record without the gate behind it
abbrev pub record_bytes : RecordParts → List ℕ
record_bytes r = kind_byte r.kind ∷ (to_be_bytes w32 (length r.images) ++ flat_map image_bytes r.images)

-- a record with a closed gate behind it
abbrev pub spelled_with_gate : RecordParts → List ℕ
spelled_with_gate r = record_bytes r ++ 0 ∷ []

-- a page's spelling has 1,024 bytes, which are read as that page
pub record ReadsBack (p : PageParts) : Type 0 where
  pub long : length (page_bytes p) ≡ PAGE_SIZE
  pub again : page_at (page_bytes p) ≡ Ok p

-- a record with one page more
abbrev pub with_image : PageParts → RecordParts → RecordParts
with_image image r = record r { images = r.images ++ image ∷ [] }

-- the numbers of pages
abbrev pub numbers_of : List PageParts → List ℕ
numbers_of images = map (λ p. p.number) images

-- what each staged record keeps: pages of the store, ascending, few enough, and at most one of a sweep
pub record IsRecordOf (pages : ℕ) (r : RecordParts) : Type 0 where
  pub few : length r.images ≤ MOST_WRITTEN
  pub sweep : r.kind ≡ Sweep → length r.images ≤ 1
  pub ascending : IsStrictlyIncreasing (numbers_of r.images)
  pub below : AllByRecursion (λ p. p.number < pages) r.images
