use Rattle.std.proofs.Common.{inl, inr, ◌∙◌, ap}
use Rattle.object_graph.specs.declared.calls.Call.TheVariants.{Reopen}
use Rattle.object_graph.specs.declared.calls.Reply.TheVariants.{Refused}
use Rattle.store_model.specs.Steps.{next}
use Rattle.cut_core.specs.Calls.{event_of}
use Rattle.cut_core.proofs.Again.{stay_stands}
use Rattle.cut_core.proofs.store.Store.stay.Goals.{in-DiskFault, in_default}
use Rattle.cut_core.proofs.store.Store.stay.Goals as goal

pub returns-clause-stands : goal.returns-clause-stands
returns-clause-stands g c =
    stay_stands g.D.Disk c.args.self.now c.match-fault.self c.args.fault c.faults-faults.result c.args.told.now.value c.by-next.result.value
    (elim c.match-fault.branch [ in-DiskFault w ↦ inl (w.in-DiskFault.is, w.self-is) | in_default w ↦ inr (w.in_default.not-DiskFault, w.self-is) ])
    (c.by-next.ensures ∙ ap (λ why. next c.args.told.now.value (event_of Reopen (Refused why) c.faults-faults.result)) c.refusal_of_fault.ensures) c.requires
