use Rattle.std.proofs.Common.{refl, None}
use Rattle.object_graph.specs.declared.calls.Call.TheVariants.{Mark}
use Rattle.object_graph.specs.declared.calls.Reply.TheVariants.{Refused}
use Rattle.store_model.specs.Worlds.{marks}
use Rattle.store_machine.proofs.Acting.{acts_still}
use Rattle.store_machine.proofs.Marked.{mark_never_fails, refused_same, refused_other}
use Rattle.store_machine.proofs.machine.Machine.mark.Goals as goal

pub returns-in-Err : goal.returns-in-Err
returns-in-Err g c =
    let core = c.self.inside.core in
    let allowed = c.may_mark.ensures.refused c.in-Err.why c.in-Err.is c.args.workers None in
    let other = mark_never_fails core.world c.args.workers None c.in-Err.why allowed in
    rw (← c.self.view_is) (record {
      note = marks None;
      acts = acts_still g.D.Disk core core (Mark c.args.workers) (Refused c.in-Err.why) (marks None) g.met.D.Disk.only_now
          allowed (refused_same core.world (Mark c.args.workers) (marks None) c.in-Err.why other) refl c.stands.ensures.now tt refl (refused_other c.in-Err.why other);
    })
