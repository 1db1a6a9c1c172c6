use Rattle.std.proofs.Common.{◌≡◌, ◌+◌, ◌∷◌, length, length-append, ap, ◌∙◌, arith}
use Rattle.store_run.proofs.WholeLines.{splits_there}
use Rattle.lanes_run.proofs.Counted.{front_start, front_more, front_stops, counted_bound}
use Rattle.lanes_run.proofs.judging.judge_lines.Goals as goal

pub lines-init : goal.lines-init
lines-init c = record {
  counted = front_start c.args.pages c.args.bytes.now c.args.before;
  fits = omega arith;
  bound = c.requires.entries;
}

pub returns-in-Err : goal.returns-in-Err
returns-in-Err c =
    front_stops c.args.pages c.args.bytes.now c.lines.rest.now c.in-Some.line.now c.in-Some.after.now c.args.before c.lines.tally c.in-Err.status c.lines.invariant.counted
    (splits_there c.lines.rest.now c.in-Some.line.now c.in-Some.after.now c.in-Some.ensures.parts c.if-line-rest.false) c.in-Err.ensures

pub lines-preserved : goal.lines-preserved
lines-preserved c =
    let splits = splits_there c.lines.rest.now c.in-Some.line.now c.in-Some.after.now c.in-Some.ensures.parts c.if-line-rest.false in
    let whole : length c.lines.rest.now ≡ length c.in-Some.line.now + length (10 ∷ c.in-Some.after.now) =
    ap length splits.whole ∙ length-append c.in-Some.line.now (10 ∷ c.in-Some.after.now) in
    record {
      counted = front_more c.args.pages c.args.bytes.now c.lines.rest.now c.in-Some.line.now c.in-Some.after.now c.args.before c.lines.tally c.in-Ok.now c.lines.invariant.counted splits c.in-Ok.ensures;
      fits = omega (arith, c.lines.invariant.fits, whole, c.in-Ok.ensures.lines_is);
      bound = counted_bound c.args.pages c.in-Some.line.now c.lines.tally c.in-Ok.now (omega arith) c.in-Ok.ensures c.lines.invariant.bound;
    }
