use Rattle.std.proofs.lemmas.Bool.{eqb-true, eq-eqb}
use Rattle.object_graph.proofs.Sets.{no_slot, is_empty_set}
use Rattle.object_graph.proofs.slots.SlotSet.is_empty.Goals as goal

pub returns-clause-slots : goal.returns-clause-slots
returns-clause-slots c =
    rw (← c.self.view_is) (
      λ t s lt. no_slot c.self.inside.bits s (eqb-true c.self.inside.bits 0 t),
      λ h. eq-eqb c.self.inside.bits 0 (is_empty_set c.self.inside.bits c.self.invariant h),
    )
