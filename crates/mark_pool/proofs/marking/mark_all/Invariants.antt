use Rattle.std.proofs.Common.{◌≤◌, length}
use Rattle.mark_pool.specs.Walks.{IsWholeSeat}
use Rattle.mark_pool.specs.Unscanned.{unscanned}
use Rattle.mark_pool.specs.declared.work.TheConstants.{MOST_QUOTA}
use Rattle.mark_pool.proofs.marking.mark_all.Given as goal

abbrev pub invariant-rounds : goal.invariant-rounds
invariant-rounds g l = record {
  whole : IsWholeSeat l.table l.seat;
  quota : l.quota ≤ MOST_QUOTA;
}

abbrev pub decreases-rounds : goal.decreases-rounds
decreases-rounds g l = unscanned (length l.cut.pages) l.seat.scans
