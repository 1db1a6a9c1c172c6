use Rattle.std.proofs.Common.{◌<◌, arith}
use Rattle.object_graph.proofs.Sets.{least_slot}
use Rattle.object_graph.proofs.slots.SlotSet.least.Goals as goal

pub returns-else-self-eq0-clause-bound : goal.returns-else-self-eq0-clause-bound
returns-else-self-eq0-clause-bound c =
    let some : 0 < c.self.inside.bits = omega arith in (least_slot c.self.inside.bits some c.self.invariant).0

pub returns-else-self-eq0-clause-has : goal.returns-else-self-eq0-clause-has
returns-else-self-eq0-clause-has c =
    let some : 0 < c.self.inside.bits = omega arith in rw (← c.self.view_is) (least_slot c.self.inside.bits some c.self.invariant).1

pub returns-else-self-eq0-clause-least : goal.returns-else-self-eq0-clause-least
returns-else-self-eq0-clause-least c =
    let some : 0 < c.self.inside.bits = omega arith in
    λ s h. rw (← c.self.view_is) ((least_slot c.self.inside.bits some c.self.invariant).2 s h)
