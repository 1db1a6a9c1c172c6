use Rattle.std.proofs.Common.{◌≡◌, None, IfSome}
use Rattle.std.specs.List.{All}
use Rattle.mark_pool.specs.Walks.{IsListed, IsOpen, Looks, AreClosedOn}
use Rattle.mark_pool.proofs.listing.list_all.Given as goal

abbrev pub invariant-pages : goal.invariant-pages
invariant-pages l = record {
  looks : Looks l.fn.seat l.seat;
  listed : All (IsListed l.cut) l.list.items;
  first : IfSome l.first (IsOpen l.cut l.fn.seat.scans);
  closed : l.first ≡ None → AreClosedOn l.cut l.fn.seat.claims l.page;
}
