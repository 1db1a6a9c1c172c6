use Rattle.std.proofs.Common.{refl, ◌∙◌, subst, sym, ℕ, List, arith}
use Rattle.store_run.specs.Lines.{EndRan}
use Rattle.store_machine.proofs.Acting.{acts_nothing}
use Rattle.store_run.proofs.Scripts.{Going, going_start, going_more, fed, read_stops, piece_stops, at_end, end_stops}
use Rattle.store_run.proofs.running.run_script.Goals as goal

pub pieces-init : goal.pieces-init
pieces-init g c = record {
  going = subst (λ (taken : ℕ). Going g.D.Disk c.args.core.now c.args.core.now
      (g.S.Source.left c.args.source.now) (g.S.Source.left c.args.source.now) (g.K.Sink.held c.args.sink.now) (g.K.Sink.held c.args.sink.now) c.args.unread.now.ahead.items taken 0)
      (sym c.requires.nothing_taken)
      (going_start g.D.Disk c.args.core.now (g.S.Source.left c.args.source.now) (g.K.Sink.held c.args.sink.now)
      c.args.unread.now.ahead.items c.requires.nothing_ahead
      (acts_nothing g.D.Disk c.args.core.now g.met.D.Disk.only_now c.stands.ensures.now));
  source_calm = refl;
  sink_calm = refl;
  room = c.requires.room;
  unread_room = c.requires.unread_room;
}

pub returns-in-Err-clause-ran : goal.returns-in-Err-clause-ran
returns-in-Err-clause-ran g c =
    read_stops g.D.Disk c.args.core.now c.pieces.core
    (g.S.Source.left c.args.source.now) (g.S.Source.left c.pieces.source) (g.S.Source.left c.read_piece.new.source) (g.K.Sink.held c.args.sink.now) (g.K.Sink.held c.pieces.sink)
    c.pieces.unread c.read_piece.new.self c.pieces.number c.in-Err.status c.pieces.invariant.going c.in-Err.ensures.read

pub returns-then-count-eq0-clause-ran : goal.returns-then-count-eq0-clause-ran
returns-then-count-eq0-clause-ran g c =
    end_stops g.D.Disk c.args.core.now c.pieces.core c.run_end.new.core
    (g.S.Source.left c.args.source.now) (g.S.Source.left c.read_piece.new.source) (g.K.Sink.held c.args.sink.now) (g.K.Sink.held c.pieces.sink) (g.K.Sink.held c.run_end.new.sink)
    c.read_piece.new.self.ahead.items c.pieces.number c.run_end.result
    (at_end g.D.Disk c.args.core.now c.pieces.core
    (g.S.Source.left c.args.source.now) (g.S.Source.left c.pieces.source) (g.S.Source.left c.read_piece.new.source) (g.K.Sink.held c.args.sink.now) (g.K.Sink.held c.pieces.sink)
    c.pieces.unread c.read_piece.new.self c.pieces.number c.in-Ok.count c.pieces.invariant.going c.in-Ok.ensures.read c.if-count-eq0.true)
    (subst (λ (bytes : List ℕ). EndRan g.D.Disk c.pieces.core bytes c.run_end.new.core
    (g.K.Sink.held c.pieces.sink) (g.K.Sink.held c.run_end.new.sink) c.pieces.number c.run_end.result) c.deref.ensures.value c.run_end.ensures.ran)

pub returns-in-Err-run_piece-clause-ran : goal.returns-in-Err-run_piece-clause-ran
returns-in-Err-run_piece-clause-ran g c =
    piece_stops g.D.Disk c.args.core.now c.pieces.core c.run_piece.new.core
    (g.S.Source.left c.args.source.now) (g.S.Source.left c.read_piece.new.source) (g.K.Sink.held c.args.sink.now) (g.K.Sink.held c.pieces.sink) (g.K.Sink.held c.run_piece.new.sink)
    c.read_piece.new.self.ahead.items c.read_piece.new.self.taken c.pieces.number c.in-Err-run_piece.status
    (fed g.D.Disk c.args.core.now c.pieces.core
    (g.S.Source.left c.args.source.now) (g.S.Source.left c.pieces.source) (g.S.Source.left c.read_piece.new.source) (g.K.Sink.held c.args.sink.now) (g.K.Sink.held c.pieces.sink)
    c.pieces.unread c.read_piece.new.self c.pieces.number c.in-Ok.count c.pieces.invariant.going c.in-Ok.ensures.read)
    c.in-Err-run_piece.ensures.ran

pub pieces-preserved : goal.pieces-preserved
pieces-preserved g c = record {
  going = subst (λ (taken : ℕ). Going g.D.Disk c.args.core.now c.run_piece.new.core
      (g.S.Source.left c.args.source.now) (g.S.Source.left c.read_piece.new.source) (g.K.Sink.held c.args.sink.now) (g.K.Sink.held c.run_piece.new.sink)
      c.run_piece.new.unread.ahead.items taken c.in-Ok-run_piece.after)
      (sym c.in-Ok-run_piece.ensures.taken)
      (going_more g.D.Disk c.args.core.now c.pieces.core c.run_piece.new.core
      (g.S.Source.left c.args.source.now) (g.S.Source.left c.read_piece.new.source) (g.K.Sink.held c.args.sink.now) (g.K.Sink.held c.pieces.sink) (g.K.Sink.held c.run_piece.new.sink)
      c.read_piece.new.self.ahead.items c.run_piece.new.unread.ahead.items c.read_piece.new.self.taken c.pieces.number c.in-Ok-run_piece.after
      (fed g.D.Disk c.args.core.now c.pieces.core
      (g.S.Source.left c.args.source.now) (g.S.Source.left c.pieces.source) (g.S.Source.left c.read_piece.new.source) (g.K.Sink.held c.args.sink.now) (g.K.Sink.held c.pieces.sink)
      c.pieces.unread c.read_piece.new.self c.pieces.number c.in-Ok.count c.pieces.invariant.going c.in-Ok.ensures.read)
      c.in-Ok-run_piece.ensures.ran);
  source_calm = c.in-Ok.ensures.calm (λ e. cc) ∙ c.pieces.invariant.source_calm;
  sink_calm = c.in-Ok-run_piece.ensures.calm (λ e. cc) ∙ c.pieces.invariant.sink_calm;
  room = c.in-Ok-run_piece.ensures.room;
  unread_room = omega (arith, c.in-Ok-run_piece.ensures.unread_room, c.in-Ok.ensures.room);
}
