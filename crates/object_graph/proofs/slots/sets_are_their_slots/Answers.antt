use Rattle.object_graph.proofs.Sets.{same_slots}
use Rattle.object_graph.proofs.slots.sets_are_their_slots.Goals as goal

pub returns : goal.returns
returns c = same_slots
