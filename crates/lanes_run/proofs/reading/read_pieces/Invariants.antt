use Rattle.std.proofs.Common.{◌≡◌, ◌≤◌, ◌-◌}
use Rattle.std.specs.Prelude.{vec_capacity}
use Rattle.store_run.specs.declared.pieces.TheConstants.{SCRIPT_LIMIT, UNREAD_ROOM}
use Rattle.lanes_run.proofs.Taken.{Reading}
use Rattle.lanes_run.proofs.reading.read_pieces.Given as goal

abbrev pub invariant-pieces : goal.invariant-pieces
invariant-pieces g l = record {
  reading : Reading l.fn.pages (g.S.Source.left l.fn.source) (g.S.Source.left l.source) l.bytes.items l.unread.ahead.items l.unread.taken l.tally;
  calm : g.S.Source.faults l.source ≡ g.S.Source.faults l.fn.source;
  room : UNREAD_ROOM ≤ vec_capacity l.unread.ahead;
}

abbrev pub decreases-pieces : goal.decreases-pieces
decreases-pieces g l = SCRIPT_LIMIT - l.unread.taken
