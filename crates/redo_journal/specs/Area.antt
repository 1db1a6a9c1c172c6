-- A journal area.
use Rattle.std.specs.Prelude.{◌≡◌, ◌⊎◌, ℕ, ◌+◌, ◌*◌, ◌≤◌, nat_lt, List, [], ◌∷◌, ◌++◌, length, take, Result, Ok, Err, if◌then◌else◌}
use Rattle.std.specs.Int.{w64, from_be_bytes}
use Rattle.disk_trait.specs.Disk.{piece}
use Rattle.redo_journal.specs.Walk.{Grammar, walk}
use Rattle.redo_journal.specs.declared.sizes.TheConstants.{HEAD_SIZE, AREA_SIZE}
use Rattle.object_graph.specs.declared.limits.TheConstants.{MOST_COUNTED}

-- where an area begins in the store file
abbrev pub area_start : ℕ → ℕ
area_start area = HEAD_SIZE + AREA_SIZE * area

-- where the first gate stands, from the area's beginning
abbrev pub first_gate : ℕ
first_gate = 8

-- what an area holds
pub record Contents (R : Type 0) : Type 0 where
  pub base : ℕ
  pub records : List R

abbrev pub from_base : {R : Type 0} → ℕ → Result (List R) ℕ → Result (Contents R) ℕ
from_base base (Ok records) = Ok (record { base = base; records = records })
from_base base (Err at) = Err at

-- the number of commits before this area, as its bytes say
abbrev pub base_in : List ℕ → ℕ
base_in bytes = from_be_bytes w64 (take 8 bytes)

-- what the bytes of an area hold, or the place of the first wrong field
abbrev pub read_area : {R : Type 0} → Grammar R → ℕ → List ℕ → Result (Contents R) ℕ
read_area g start bytes = if nat_lt MOST_COUNTED (base_in bytes) then Err start
    else from_base (base_in bytes) (walk g start (base_in bytes) first_gate bytes)

-- the bytes of an area in a store file
abbrev pub area_of : ℕ → List ℕ → List ℕ
area_of area file = piece (area_start area) AREA_SIZE file

-- the file's area has this base and these records
pub record AreaHolds {R : Type 0} (g : Grammar R) (area base : ℕ) (records : List R) (file : List ℕ) : Type 0 where
  pub long : area_start area + AREA_SIZE ≤ length file
  pub reads : read_area g (area_start area) (area_of area file) ≡ Ok (record { base = base; records = records })

-- the records before, with the new one or without
abbrev pub HoldsBeforeOrAfter : {R : Type 0} → Grammar R → ℕ → ℕ → List R → R → List ℕ → Type 0
HoldsBeforeOrAfter g area base records new file = AreaHolds g area base records file
    ⊎ AreaHolds g area base (records ++ new ∷ []) file

-- Bytes that are a record with its closed gate, which may stand behind `done` commits.
pub record IsStaged {R : Type 0} (g : Grammar R) (done : ℕ) (new : R) (bytes : List ℕ) : Type 0 where
  pub body : List ℕ
  pub ends : bytes ≡ body ++ 0 ∷ []
  pub size : g.size new ≡ length body
  pub reads : (place : ℕ) (rest : List ℕ) → g.at place done (body ++ 0 ∷ rest) ≡ Ok new
