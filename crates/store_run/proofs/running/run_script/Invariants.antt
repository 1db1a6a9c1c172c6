use Rattle.std.proofs.Common.{◌≡◌, ◌≤◌, ◌-◌}
use Rattle.std.specs.Prelude.{vec_capacity}
use Rattle.store_run.specs.declared.pieces.TheConstants.{SCRIPT_LIMIT, UNREAD_ROOM}
use Rattle.store_run.specs.declared.calls.TheConstants.{REPLY_ROOM}
use Rattle.store_run.proofs.Scripts.{Going}
use Rattle.store_run.proofs.running.run_script.Given as goal

abbrev pub invariant-pieces : goal.invariant-pieces
invariant-pieces g l = record {
  going : Going g.D.Disk l.fn.core l.core
      (g.S.Source.left l.fn.source) (g.S.Source.left l.source) (g.K.Sink.held l.fn.sink) (g.K.Sink.held l.sink) l.unread.ahead.items l.unread.taken l.number;
  source_calm : g.S.Source.faults l.source ≡ g.S.Source.faults l.fn.source;
  sink_calm : g.K.Sink.faults l.sink ≡ g.K.Sink.faults l.fn.sink;
  room : REPLY_ROOM ≤ vec_capacity l.buffer;
  unread_room : UNREAD_ROOM ≤ vec_capacity l.unread.ahead;
}

abbrev pub decreases-pieces : goal.decreases-pieces
decreases-pieces g l = SCRIPT_LIMIT - l.unread.taken
