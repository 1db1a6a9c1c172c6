use Rattle.std.proofs.Common.{◌≡◌, List, ℕ, sym, true, false, subst, rules}
use Rattle.std.specs.Prelude.{Option, is_err}
use Rattle.script_lang.specs.Script.{lines_of}
use Rattle.script_lang.specs.declared.line.Line.{Line}
use Rattle.store_desk.specs.Seats.{AtDesk}
use Rattle.store_lanes.specs.Lanes.{IsFor, LaneGoes, LanesRan}
use Rattle.store_lanes.specs.Posts.{seat_of}
use Rattle.store_lanes.proofs.Going.{going_start, going_passed, going_on, going_failed, same_itself, same_trans}
use Rattle.store_lanes.proofs.lane.run_lane.Goals as goal

pub lines-init : goal.lines-init
lines-init g c = record {
  goes = going_start g.D.Disk c.args.desk.now.value.start (lines_of c.args.script.now) c.args.lane c.args.seat c.requires.fresh;
  same = same_itself c.args.seat;
}

pub lines-preserved-else-is_err : goal.lines-preserved-else-is_err
lines-preserved-else-is_err g c =
    let goes = subst (λ (l : List (List ℕ)). LaneGoes g.D.Disk c.args.desk.now.value.start (lines_of c.args.script.now) l c.args.lane (seat_of c.lines.post)) c.in-Some.ensures.lines c.lines.invariant.goes in
    let ok : is_err c.serve-next.result.1 ≡ false = search rules in record {
      goes = going_on g.D.Disk c.args.desk.now.value.start (lines_of c.args.script.now) (lines_of c.in-Some.after.now) c.in-Some.bytes.now c.args.lane c.in-Some-line_for.line c.serve-next.result.1 (seat_of c.lines.post) (seat_of c.serve-next.result.0) ok goes
          c.in-Some-line_for.ensures c.serve-next.ensures.served;
      same = same_trans c.args.seat (seat_of c.lines.post) (seat_of c.serve-next.result.0) c.lines.invariant.same c.serve-next.ensures.same;
    }

pub lines-preserved : goal.lines-preserved
lines-preserved g c =
    let goes = subst (λ (l : List (List ℕ)). LaneGoes g.D.Disk c.args.desk.now.value.start (lines_of c.args.script.now) l c.args.lane (seat_of c.lines.post)) c.in-Some.ensures.lines c.lines.invariant.goes in record {
      goes = going_passed g.D.Disk c.args.desk.now.value.start (lines_of c.args.script.now) (lines_of c.in-Some.after.now) c.in-Some.bytes.now c.args.lane (seat_of c.lines.post) goes
          (subst (λ (o : Option Line). IsFor c.args.lane c.in-Some.bytes.now o) c.in_default-line_for.is c.line_for.ensures);
      same = c.lines.invariant.same;
    }

pub returns-then-is_err-clause-ran : goal.returns-then-is_err-clause-ran
returns-then-is_err-clause-ran g c =
    let goes = subst (λ (l : List (List ℕ)). LaneGoes g.D.Disk c.args.desk.now.value.start (lines_of c.args.script.now) l c.args.lane (seat_of c.lines.post)) c.in-Some.ensures.lines c.lines.invariant.goes in
    let failed : is_err c.serve-next.result.1 ≡ true = search rules in
    subst (λ (s : AtDesk g.row.D.Denot). LanesRan g.D.Disk c.args.desk.now.value.start (lines_of c.args.script.now) c.args.lane c.args.lane false s) (sym c.seated.ensures)
    (going_failed g.D.Disk c.args.desk.now.value.start (lines_of c.args.script.now) (lines_of c.in-Some.after.now) c.in-Some.bytes.now c.args.lane c.in-Some-line_for.line c.serve-next.result.1 (seat_of c.lines.post) (seat_of c.serve-next.result.0) failed goes
    c.in-Some-line_for.ensures c.serve-next.ensures.served)
