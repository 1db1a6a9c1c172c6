-- What contracts see of a journal, and what it says of a store file.
use Rattle.std.specs.Prelude.{◌≡◌, ℕ, ◌+◌, ◌-◌, ◌*◌, ◌≤◌, ◌<◌, List, [], ◌∷◌, ◌++◌, length, Option, Some, None, IfSome, option_map}
use Rattle.std.specs.List.{All}
use Rattle.disk_trait.specs.Disk.{Torn}
use Rattle.page_image.specs.Pages.{PageParts}
use Rattle.redo_journal.specs.Area.{AreaHolds, HoldsBeforeOrAfter, area_start, first_gate}
use Rattle.redo_journal.specs.Places.{IsPlace, places_of, places_in}
use Rattle.redo_journal.specs.Record.{RecordParts, IsRecordOf, grammar, size_of, commits_of, with_image}
use Rattle.redo_journal.specs.Walk.{bytes_taken, weights}
use Rattle.redo_journal.specs.declared.kind.Kind.{Kind}
use Rattle.redo_journal.specs.declared.places.ImagePlace.{ImagePlace}
use Rattle.redo_journal.specs.declared.sizes.TheConstants.{AREA_SIZE, IMAGE_SIZE, FRAME_SIZE}
use Rattle.object_graph.specs.declared.limits.TheConstants.{MOST_COUNTED}

-- its area, the pages of the store, the base and the counted commits of the area, where the first closed gate
-- stands from the area's beginning, where the counted images stand in the file, and the record that is to be
-- appended next
pub record JournalParts : Type 0 where
  pub area : ℕ
  pub pages : ℕ
  pub base : ℕ
  pub commits : ℕ
  pub end : ℕ
  pub places : List ImagePlace
  pub staged : Option RecordParts

-- a record of these images, if there is a kind
abbrev pub staged_of : Option Kind → List PageParts → Option RecordParts
staged_of None images = None
staged_of (Some kind) images = Some (record { kind = kind; images = images })

-- what each journal keeps
pub record IsJournal (journal : JournalParts) : Type 0 where
  pub area : journal.area < 2
  pub within : journal.end < AREA_SIZE
  pub counted : journal.base + journal.commits ≤ MOST_COUNTED
  pub places : All (IsPlace journal.pages) journal.places
  pub room : IMAGE_SIZE * length journal.places ≤ journal.end
  pub staged : IfSome journal.staged (IsRecordOf journal.pages)

-- the journal's area on the file has its base and these records, whose images stand at the journal's places
pub record HoldsFor (journal : JournalParts) (records : List RecordParts) (file : List ℕ) : Type 0 where
  pub holds : AreaHolds (grammar journal.pages) journal.area journal.base records file
  pub end : journal.end ≡ first_gate + bytes_taken (grammar journal.pages) records
  pub commits : journal.commits ≡ weights (grammar journal.pages) records
  pub places : journal.places ≡ places_in (area_start journal.area + first_gate) records

-- the file is this journal's
abbrev pub IsOn : JournalParts → List ℕ → Type 0
IsOn journal file = (records : List RecordParts) × HoldsFor journal records file

-- the length of the staged record with its gate
abbrev pub need_of : Option RecordParts → ℕ
need_of None = 0
need_of (Some r) = size_of r

-- the bytes behind the first closed gate
abbrev pub left_of : JournalParts → ℕ
left_of journal = AREA_SIZE - (journal.end + 1)

-- the journal with an empty record staged
abbrev pub begun : Kind → JournalParts → JournalParts
begun kind journal = record journal { staged = Some (record { kind = kind; images = [] }) }

-- the journal with one page more staged
abbrev pub with_staged : PageParts → JournalParts → JournalParts
with_staged image journal = record journal { staged = option_map (with_image image) journal.staged }

-- the journal after a record
abbrev pub appended : RecordParts → JournalParts → JournalParts
appended r journal = record journal {
  commits = journal.commits + commits_of r.kind;
  end = journal.end + size_of r;
  places = journal.places ++ places_of (area_start journal.area + journal.end + FRAME_SIZE) r.images;
  staged = None;
}

-- What a crash leaves while a record is appended: all bytes outside the area, and in it the records from
-- before, with the new one or without.
pub record IsAppendedOrNot (journal : JournalParts) (records : List RecordParts) (new : RecordParts)
    (old file : List ℕ) : Type 0 where
  pub elsewhere : Torn (area_start journal.area) AREA_SIZE old file
  pub area : HoldsBeforeOrAfter (grammar journal.pages) journal.area journal.base records new file

-- the file after the append: all bytes outside the area, and in it the records with the new one
pub record IsAppended (journal : JournalParts) (records : List RecordParts) (new : RecordParts)
    (old file : List ℕ) : Type 0 where
  pub elsewhere : Torn (area_start journal.area) AREA_SIZE old file
  pub area : HoldsFor journal (records ++ new ∷ []) file
