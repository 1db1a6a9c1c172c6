use Rattle.std.proofs.Common.{◌≡◌, ◌∙◌, ap, sym, subst, Err, ℕ}
use Rattle.std.specs.Prelude.{IfSome}
use Rattle.object_graph.specs.declared.calls.Call.TheVariants.{Reopen}
use Rattle.object_graph.specs.declared.calls.Reply.{Reply}
use Rattle.object_graph.specs.declared.calls.Reply.TheVariants.{Refused}
use Rattle.cut_core.specs.Reopening.{Happens, refusal_of}
use Rattle.recovery.specs.declared.faults.OpenFault.TheVariants as faulty
use Rattle.cut_core.specs.Holding.{Holds}
use Rattle.cut_core.proofs.Again.{reopened_holds, stay_holds, reopened_happens, refused_happens}
use Rattle.cut_core.proofs.Touching.{all_changed}
use Rattle.cut_core.proofs.store.Store.reopen.Goals as goal

pub returns-in-Ok-clause-happens : goal.returns-in-Ok-clause-happens
returns-in-Ok-clause-happens g c =
    reopened_happens (g.D.Disk.content c.args.self.now.disk) c.args.told.now.value c.in-Ok.next.value c.open_again.new.self.commits (g.D.Disk.fault_count c.open_again.new.self.disk) c.in-Ok.ensures.reopened

pub returns-in-Err-clause-happens : goal.returns-in-Err-clause-happens
returns-in-Err-clause-happens g c =
    subst (λ (r : Reply). IfSome (g.D.Disk.content c.args.self.now.disk) (λ file. Happens c.args.told.now.value Reopen r (g.D.Disk.fault_count c.stay.new.self.disk) c.stay.result.1.value)) (sym c.stay.ensures.reply)
    (subst (λ (n : ℕ). IfSome (g.D.Disk.content c.args.self.now.disk) (λ file. Happens c.args.told.now.value Reopen (Refused (refusal_of c.in-Err.fault)) n c.stay.result.1.value)) (sym (ap (λ s. g.D.Disk.fault_count s) c.stay.ensures.disk))
    (refused_happens (g.D.Disk.content c.args.self.now.disk) c.in-Err.fault c.args.told.now.value c.stay.result.1.value (g.D.Disk.fault_count c.open_again.new.self.disk)
    (λ is. c.in-Err.ensures.none (ap Err is)) (λ at is. c.in-Err.ensures.bad at (ap Err is)) c.stay.ensures.world))

pub returns-in-Err-clause-calm : goal.returns-in-Err-clause-calm
returns-in-Err-clause-calm g c = λ other.
    ap (λ d. g.D.Disk.fault_count d) c.stay.ensures.disk
    ∙ c.in-Err.ensures.calm (λ is. other (c.stay.ensures.reply ∙ ap (λ f. Refused (refusal_of f)) (let e : c.in-Err.fault ≡ faulty.DiskFault = cc in e)))

pub returns-in-Ok-clause-holds : goal.returns-in-Ok-clause-holds
returns-in-Ok-clause-holds g c =
    reopened_holds c.args.held.now c.args.told.now.value c.in-Ok.next.value c.in-Ok.ensures.cut c.in-Ok.ensures.taken.lawful c.requires.holds

pub returns-in-Err-clause-holds : goal.returns-in-Err-clause-holds
returns-in-Err-clause-holds g c =
    subst (Holds c.args.held.now) (sym c.stay.ensures.world)
    (stay_holds c.args.held.now c.args.told.now.value c.in-Err.fault (g.D.Disk.fault_count c.open_again.new.self.disk) c.requires.holds)

pub returns-in-Ok-clause-frames : goal.returns-in-Ok-clause-frames
returns-in-Ok-clause-frames g c =
    all_changed c.args.self.now.transactions.frames c.open_again.new.self.transactions.frames
    (c.in-Ok.ensures.taken.transactions.frames.count ∙ (c.in-Ok.ensures.cut.pages ∙ sym c.requires.stands.transactions.frames.count))
