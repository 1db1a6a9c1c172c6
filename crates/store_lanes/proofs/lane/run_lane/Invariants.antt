use Rattle.std.proofs.Common.{length}
use Rattle.script_lang.specs.Script.{lines_of}
use Rattle.store_lanes.specs.Lanes.{LaneGoes}
use Rattle.store_lanes.specs.Owned.{SameSeat}
use Rattle.store_lanes.specs.Posts.{seat_of}
use Rattle.store_lanes.proofs.lane.run_lane.Given as goal

abbrev pub invariant-lines : goal.invariant-lines
invariant-lines g l = record {
  goes : LaneGoes g.D.Disk l.fn.desk.value.start (lines_of l.fn.script) (lines_of l.rest) l.fn.lane (seat_of l.post);
  same : SameSeat l.fn.seat (seat_of l.post);
}

abbrev pub decreases-lines : goal.decreases-lines
decreases-lines g l = length l.rest
