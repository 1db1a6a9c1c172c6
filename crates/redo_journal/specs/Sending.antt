-- What a file and its crash images become as images are sent home, and the journal in its other area.
use Rattle.std.specs.Prelude.{◌≡◌, ℕ, ◌-◌, Bool, List, [], ◌∷◌, ◌++◌, Some, IsSomeAnd}
use Rattle.std.specs.Int.{w64, to_be_bytes}
use Rattle.disk_trait.specs.DiskFacts.{LeavesOnly}
use Rattle.disk_trait.specs.declared.disk.Disk.{Ghosts as DiskOf}
use Rattle.redo_journal.specs.Area.{first_gate}
use Rattle.redo_journal.specs.Homes.{DiffersInHomes}
use Rattle.redo_journal.specs.Journals.{JournalParts}

-- ---- what is sent

-- what a step makes of crash images
abbrev pub After : (List ℕ → List ℕ → Type 0) → (List ℕ → Type 0) → List ℕ → Type 0
After step old c = (d : List ℕ) × old d × step d c

-- Calls that change such homes alone, of what a read gives and of what a crash at any moment may leave.
pub record ChangesHomes {D : Type 0} (disks : DiskOf D) (named : ℕ → Bool) (old new : D) : Type 0 where
  pub told : (c : List ℕ) → disks.content old ≡ Some c → IsSomeAnd (disks.content new) (DiffersInHomes named c)
  pub any_moment : LeavesOnly disks old new (After (DiffersInHomes named) (disks.may_leave old))

-- ---- turning over

-- a base and a closed gate
abbrev pub empty_area : ℕ → List ℕ
empty_area base = to_be_bytes w64 base ++ 0 ∷ []

-- the journal of the other area, empty and with this base
abbrev pub turned_over : ℕ → JournalParts → JournalParts
turned_over commits journal = record journal
    { area = 1 - journal.area; base = commits; commits = 0; end = first_gate; places = [] }
