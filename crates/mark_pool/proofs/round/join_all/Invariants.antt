use Rattle.std.proofs.Common.{◌≡◌, ◌+◌}
use Rattle.std.specs.List.{All}
use Rattle.std.specs.Vec.{vec_len}
use Rattle.mark_pool.specs.Seats.{IsSeatOf}
use Rattle.mark_pool.specs.Jobs.{HasMore, IsBack}
use Rattle.mark_pool.proofs.round.join_all.Given as goal

abbrev pub invariant-backs : goal.invariant-backs
invariant-backs l = record {
  own : IsSeatOf l.table l.seat;
  parts : l.seat.parts + vec_len l.backs ≡ l.fn.seat.parts + vec_len l.fn.backs;
  more : HasMore l.fn.seat l.seat;
  backs : All (IsBack l.table) l.backs.items;
}

abbrev pub decreases-backs : goal.decreases-backs
decreases-backs l = vec_len l.backs
