-- How a core starts.
use Rattle.std.specs.Prelude.{◌≡◌, ℕ, List, Result, Ok, Err}
use Rattle.object_graph.specs.SlotParts.{SlotParts}
use Rattle.store_model.specs.Worlds.{World}
use Rattle.store_model.specs.FromImages.{world_of}
use Rattle.cut_core.specs.Seen.{Seen}

-- a world that a store opens to: no transaction, no cut, no break and no doubt
abbrev pub IsJustOpened : World → Type 0
IsJustOpened w = (commits : ℕ) × (images : List (List SlotParts)) × (w ≡ world_of commits images)

-- the disk that is kept, or handed back
abbrev pub disk_left : {D F : Type 0} → Result (Seen D) (D × F) → D
disk_left (Ok core) = core.disk
disk_left (Err fault) = fault.0
