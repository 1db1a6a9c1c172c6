use Rattle.std.proofs.Common.{refl, sym, subst, None}
use Rattle.object_graph.specs.declared.calls.Call.TheVariants.{Mark}
use Rattle.object_graph.specs.declared.calls.Refusal.{Refusal}
use Rattle.object_graph.specs.declared.calls.Reply.TheVariants.{Refused}
use Rattle.store_model.specs.Replies.{Allows}
use Rattle.store_model.specs.Worlds.{marks}
use Rattle.cut_core.specs.Given.{mark_event}
use Rattle.store_desk.proofs.Happens.{happened_marks}
use Rattle.store_machine.proofs.Marked.{mark_never_fails, refused_same, refused_other}
use Rattle.store_desk.proofs.happening.refuse_marks.Goals.{in-Ok, in-Err}
use Rattle.store_desk.proofs.happening.refuse_marks.Goals as goal

pub returns-clause-happened : goal.returns-clause-happened
returns-clause-happened g c =
    let w = c.args.core.now.world in
    let why : Refusal = c.match-may_mark.why in
    let allowed : Allows w (mark_event c.args.workers None (Refused why)) = elim c.match-may_mark.branch [
      | in-Ok x ↦ subst (λ r. Allows w (mark_event c.args.workers None (Refused r))) (sym x.why-is) (x.in-Ok.ensures.memory c.args.workers)
      | in-Err x ↦ subst (λ r. Allows w (mark_event c.args.workers None (Refused r))) (sym x.why-is) (x.in-Err.ensures.refused x.in-Err.why refl c.args.workers None)
    ] in
    let other = mark_never_fails w c.args.workers None why allowed in
    happened_marks g.D.Disk c.args.core.now c.args.core.now c.args.lane c.args.workers None (Refused why) c.of.result g.met.D.Disk.only_now c.of.ensures allowed
    (refused_same w (Mark c.args.workers) (marks None) why other) (refused_other why other) refl c.stands.ensures.now (λ number pages h. h)
