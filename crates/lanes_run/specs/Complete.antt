-- Scripts of lanes that are run to their end where nothing fails.
use Rattle.std.specs.Prelude.{ℕ, ◌≤◌, List, length}
use Rattle.script_lang.specs.declared.line.LaneLine.{LaneLine}
use Rattle.script_lang.specs.Script.{lines_of}
use Rattle.store_lanes.specs.LaneScripts.{SayInLanes}
use Rattle.store_run.specs.declared.pieces.TheConstants.{SCRIPT_LIMIT}
use Rattle.lanes_run.specs.Asked.{entries_asked}
use Rattle.lanes_run.specs.declared.judging.TheConstants.{MOST_ENTRIES}

-- not too long, each line is in the grammar, and over a store of so many pages they ask for few enough entries
pub record IsLaneScript (pages : ℕ) (script : List ℕ) : Type 0 where
  pub within : length script ≤ SCRIPT_LIMIT
  pub said : List LaneLine
  pub say : SayInLanes (lines_of script) said
  pub few : entries_asked pages said ≤ MOST_ENTRIES
