use Rattle.std.proofs.Common.{◌≡◌, ◌+◌, ◌≤◌, length}
use Rattle.std.specs.Prelude.{vec_len, vec_capacity}
use Rattle.lanes_run.proofs.Chronicles.{Writing}
use Rattle.lanes_run.specs.declared.chronicle.TheConstants.{ENTRY_ROOM, LINES_ROOM}
use Rattle.lanes_run.proofs.chronicle.write_chronicle.Given as goal

abbrev pub invariant-entries : goal.invariant-entries
invariant-entries g l = record {
  writing : Writing l.fn.chronicle l.rest (g.K.Sink.held l.fn.sink) (g.K.Sink.held l.sink) l.buffer.items;
  calm : g.K.Sink.faults l.sink ≡ g.K.Sink.faults l.fn.sink;
  left : vec_len l.buffer + ENTRY_ROOM ≤ LINES_ROOM;
  room : LINES_ROOM ≤ vec_capacity l.buffer;
}

abbrev pub decreases-entries : goal.decreases-entries
decreases-entries g l = length l.rest
