use Rattle.object_graph.specs.declared.limits.TheConstants.{MOST_SLOTS}
use Rattle.object_graph.proofs.Sets.{low_bits}
use Rattle.object_graph.proofs.slots.SlotSet.of_bits.Goals as goal

pub invariant_of-result : goal.invariant_of-result
invariant_of-result c = low_bits c.args.bits MOST_SLOTS c.requires
