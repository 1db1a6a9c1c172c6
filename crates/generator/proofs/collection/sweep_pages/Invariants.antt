use Rattle.std.proofs.Common.{◌≤◌, ◌*◌}
use Rattle.object_graph.specs.declared.limits.TheConstants.{MOST_SLOTS}
use Rattle.generator.specs.Making.{HasSwept}
use Rattle.generator.proofs.collection.sweep_pages.Given as goal

abbrev pub invariant-pages : goal.invariant-pages
invariant-pages g l = record {
  swept : HasSwept g.D.Disk l.fn.machine l.machine l.page l.freed;
  few : l.freed ≤ MOST_SLOTS * l.page;
}
