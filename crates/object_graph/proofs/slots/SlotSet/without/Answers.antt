use Rattle.object_graph.proofs.Sets.{has_slot-without}
use Rattle.object_graph.proofs.slots.SlotSet.without.Goals as goal

pub returns : goal.returns
returns c = λ s. rw (← c.self.view_is, ← c.other.view_is) (has_slot-without c.self.inside.bits c.other.inside.bits s c.self.invariant c.other.invariant)
