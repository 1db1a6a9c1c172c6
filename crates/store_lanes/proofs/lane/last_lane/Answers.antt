use Rattle.std.proofs.Common.{sym, subst, arith}
use Rattle.script_lang.specs.Script.{lines_of}
use Rattle.store_lanes.specs.LaneScripts.{EndAtLane}
use Rattle.store_lanes.proofs.Last.{end_more}
use Rattle.store_lanes.proofs.lane.last_lane.Goals as goal

pub lines-init : goal.lines-init
lines-init c = record { within = omega arith; owes = λ bound le ends. ends }

pub lines-preserved : goal.lines-preserved
lines-preserved c = record {
  within = c.later_lane-last.ensures.within;
  owes = λ bound le ends. c.lines.invariant.owes bound (let more = c.later_lane-last.ensures.grows in omega (arith, le, more))
      (subst (EndAtLane bound) (sym c.in-Some.ensures.lines)
      (end_more bound c.in-Some.bytes.now (lines_of c.in-Some.after.now) (λ s says. let h = c.later_lane-last.ensures.reaches s says in omega (arith, h, le)) ends));
}
