use Rattle.std.proofs.Common.{◌≤◌, ◌-◌, true, map}
use Rattle.std.specs.Prelude.{Ok}
use Rattle.object_graph.specs.Slots.{below}
use Rattle.store_lanes.specs.Lanes.{PartRan}
use Rattle.store_lanes.specs.Owned.{SameSeat}
use Rattle.store_lanes.specs.Posts.{seat_of}
use Rattle.store_lanes.specs.Served.{call_on}
use Rattle.store_lanes.proofs.collect.on_each_page.Given as goal

abbrev pub invariant-pages : goal.invariant-pages
invariant-pages g l = record {
  ran : PartRan g.D.Disk l.fn.desk.value.start l.fn.lane (map (call_on l.fn.kind) (below l.page)) (seat_of l.fn.post) (seat_of l.post) (Ok true);
  same : SameSeat (seat_of l.fn.post) (seat_of l.post);
  within : l.page ≤ l.pages;
}

abbrev pub decreases-pages : goal.decreases-pages
decreases-pages g l = l.pages - l.page
