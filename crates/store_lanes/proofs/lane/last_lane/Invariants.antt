use Rattle.std.proofs.Common.{ℕ, ◌≤◌, length}
use Rattle.script_lang.specs.Script.{lines_of}
use Rattle.store_lanes.specs.LaneScripts.{EndAtLane}
use Rattle.store_lanes.specs.declared.lane.TheConstants.{LANES}
use Rattle.store_lanes.proofs.lane.last_lane.Given as goal

abbrev pub invariant-lines : goal.invariant-lines
invariant-lines l = record {
  within : l.last ≤ LANES;
  owes : (bound : ℕ) → l.last ≤ bound → EndAtLane bound (lines_of l.rest) → EndAtLane bound (lines_of l.fn.script);
}

abbrev pub decreases-lines : goal.decreases-lines
decreases-lines l = length l.rest
