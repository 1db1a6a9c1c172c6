use Rattle.std.proofs.Common.{◌<◌, arith}
use Rattle.std.proofs.lemmas.Nat.{or_lt}
use Rattle.object_graph.specs.declared.limits.TheConstants.{MOST_SLOTS}
use Rattle.object_graph.proofs.Sets.{bit-lt, has_slot-with}
use Rattle.object_graph.proofs.slots.SlotSet.with.Goals as goal

pub invariant_of-result : goal.invariant_of-result
invariant_of-result c = or_lt MOST_SLOTS c.self.inside.bits _ c.self.invariant (bit-lt c.args.slot c.requires)

pub returns : goal.returns
returns c = λ s. let within : c.args.slot < 64 = omega arith in rw (← c.self.view_is) (has_slot-with c.self.inside.bits c.args.slot s within)
