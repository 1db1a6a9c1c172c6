use Rattle.std.proofs.Common.{◌≡◌, refl, ◌+◌, ◌∷◌, length, length-append, ap, ◌∙◌, arith}
use Rattle.store_machine.proofs.Acting.{acts_nothing}
use Rattle.store_run.proofs.WholeLines.{splits_there}
use Rattle.store_run.proofs.Doing.{front_start, front_more, front_stops}
use Rattle.store_run.proofs.running.run_lines.Goals as goal

pub lines-init : goal.lines-init
lines-init g c = record {
  done = front_start g.D.Disk c.args.core.now c.args.bytes.now (g.K.Sink.held c.args.sink.now) c.args.before
      (acts_nothing g.D.Disk c.args.core.now g.met.D.Disk.only_now c.stands.ensures.now);
  calm = refl;
  room = c.requires.room;
  fits = omega arith;
}

pub returns-in-Err-clause-ran : goal.returns-in-Err-clause-ran
returns-in-Err-clause-ran g c =
    front_stops g.D.Disk c.args.core.now c.lines.core c.run_line.new.core
    c.args.bytes.now c.lines.rest.now c.in-Some.line.now c.in-Some.after.now (g.K.Sink.held c.args.sink.now) (g.K.Sink.held c.lines.sink) (g.K.Sink.held c.run_line.new.sink)
    c.args.before c.lines.number c.in-Err.status c.lines.invariant.done
    (splits_there c.lines.rest.now c.in-Some.line.now c.in-Some.after.now c.in-Some.ensures.parts c.if-line-rest.false) c.in-Err.ensures.ran

pub lines-preserved : goal.lines-preserved
lines-preserved g c =
    let splits = splits_there c.lines.rest.now c.in-Some.line.now c.in-Some.after.now c.in-Some.ensures.parts c.if-line-rest.false in
    let whole : length c.lines.rest.now ≡ length c.in-Some.line.now + length (10 ∷ c.in-Some.after.now) =
    ap length splits.whole ∙ length-append c.in-Some.line.now (10 ∷ c.in-Some.after.now) in
    record {
      done = front_more g.D.Disk c.args.core.now c.lines.core c.run_line.new.core
          c.args.bytes.now c.lines.rest.now c.in-Some.line.now c.in-Some.after.now (g.K.Sink.held c.args.sink.now) (g.K.Sink.held c.lines.sink) (g.K.Sink.held c.run_line.new.sink)
          c.args.before c.lines.number c.lines.invariant.done splits c.in-Ok.ensures.ran;
      calm = c.in-Ok.ensures.calm (λ e. cc) ∙ c.lines.invariant.calm;
      room = c.in-Ok.ensures.room;
      fits = omega (arith, c.lines.invariant.fits, whole);
    }
