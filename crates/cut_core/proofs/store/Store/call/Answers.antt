use Rattle.std.proofs.Common.{refl}
use Rattle.cut_core.specs.Calls.{event_of}
use Rattle.store_model.specs.Steps.{next}
use Rattle.cut_core.proofs.Standing.{no_device_call, transact_steps, of_transaction, no_fault}
use Rattle.cut_core.proofs.Holding.{transact_holds}
use Rattle.cut_core.proofs.Staging.{none_of}
use Rattle.cut_core.proofs.store.Store.call.Goals as goal

pub returns-in_default-call-clause-steps : goal.returns-in_default-call-clause-steps
returns-in_default-call-clause-steps g c = λ w h holds.
    transact_steps g.D.Disk c.args.self.now c.transact.new.transactions c.args.call.now c.transact.result (g.D.Disk.fault_count c.args.self.now.disk) w
    (of_transaction c.args.call.now c.requires.built c.in_default-call.not-Commit c.in_default-call.not-Sweep) (none_of c.args.self.now.broken c.in_default.not-Some) c.transact.ensures.steps h

pub returns-in_default-call-clause-any_moment : goal.returns-in_default-call-clause-any_moment
returns-in_default-call-clause-any_moment g c = λ w h holds.
    no_device_call g.D.Disk g.met.D.Disk.only_now c.args.self.now c.args.self.now.disk w
    (next w (event_of c.args.call.now c.transact.result (g.D.Disk.fault_count c.args.self.now.disk))) refl h

pub returns-in_default-call-clause-fault : goal.returns-in_default-call-clause-fault
returns-in_default-call-clause-fault g c = λ is.
    absurd (no_fault g.D.Disk c.args.self.now c.transact.new.transactions c.args.call.now c.transact.result c.requires.stands.0
    (of_transaction c.args.call.now c.requires.built c.in_default-call.not-Commit c.in_default-call.not-Sweep) (none_of c.args.self.now.broken c.in_default.not-Some) c.transact.ensures.steps c.requires.stands.1 is)

pub returns-in_default-call-clause-held : goal.returns-in_default-call-clause-held
returns-in_default-call-clause-held g c = λ w h holds.
    let of = of_transaction c.args.call.now c.requires.built c.in_default-call.not-Commit c.in_default-call.not-Sweep in
    let steps = transact_steps g.D.Disk c.args.self.now c.transact.new.transactions c.args.call.now c.transact.result (g.D.Disk.fault_count c.args.self.now.disk) w
    of (none_of c.args.self.now.broken c.in_default.not-Some) c.transact.ensures.steps h in
    transact_holds c.args.held.now w (event_of c.args.call.now c.transact.result (g.D.Disk.fault_count c.args.self.now.disk)) of steps.allowed holds
