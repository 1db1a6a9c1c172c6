use Rattle.std.proofs.Common.{◌≡◌, ◌≤◌, ◌+◌, length}
use Rattle.std.specs.Prelude.{vec_capacity}
use Rattle.store_run.specs.declared.calls.TheConstants.{REPLY_ROOM}
use Rattle.store_run.specs.Lines.{FrontDone}
use Rattle.store_run.proofs.running.run_lines.Given as goal

abbrev pub invariant-lines : goal.invariant-lines
invariant-lines g l = record {
  done : FrontDone g.D.Disk l.fn.core l.fn.bytes l.core (g.K.Sink.held l.fn.sink) (g.K.Sink.held l.sink) l.fn.before l.number l.rest;
  calm : g.K.Sink.faults l.sink ≡ g.K.Sink.faults l.fn.sink;
  room : REPLY_ROOM ≤ vec_capacity l.buffer;
  fits : l.number + length l.rest ≤ l.fn.before + length l.fn.bytes;
}

abbrev pub decreases-lines : goal.decreases-lines
decreases-lines g l = length l.rest
