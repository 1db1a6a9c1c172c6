use Rattle.std.proofs.Common.{◌≡◌, ◌≤◌, length}
use Rattle.std.specs.List.{filter}
use Rattle.object_graph.specs.Slots.{has_slot, below}
use Rattle.generator.proofs.collection.count_of.Given as goal

abbrev pub invariant-slots : goal.invariant-slots
invariant-slots l = record {
  counted : l.count ≡ length (filter (has_slot l.slots) (below l.slot));
  few : l.count ≤ l.slot;
}
