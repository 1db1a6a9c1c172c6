use Rattle.std.proofs.Common.{◌≡◌, ◌+◌, length}
use Rattle.std.specs.List.{All}
use Rattle.mark_pool.specs.Seats.{IsSeatOf}
use Rattle.mark_pool.specs.Walks.{IsListed}
use Rattle.mark_pool.specs.Jobs.{HasSame, IsReadyJob}
use Rattle.mark_pool.proofs.round.deal.Given as goal

abbrev pub invariant-jobs : goal.invariant-jobs
invariant-jobs l = record {
  own : IsSeatOf l.table l.seat;
  same : HasSame l.fn.seat l.seat;
  parts : l.seat.parts + l.who ≡ l.fn.seat.parts;
  count : length l.jobs.items ≡ l.who;
  ready : All (IsReadyJob l.table l.cut) l.jobs.items;
  rest : All (IsListed l.cut) l.rest;
}
