use Rattle.std.proofs.Common.{refl}
use Rattle.object_graph.specs.declared.calls.Call.TheVariants.{Close}
use Rattle.object_graph.specs.declared.calls.Reply.TheVariants.{Done, Refused}
use Rattle.store_model.specs.Worlds.{nothing, images}
use Rattle.store_machine.proofs.Acting.{acts_still}
use Rattle.store_machine.proofs.Closings.{close_never_fails}
use Rattle.store_machine.proofs.machine.Machine.close.Goals as goal

pub returns-in-Ok : goal.returns-in-Ok
returns-in-Ok g c = rw (← c.self.view_is) (record {
  note = images;
  acts = acts_still g.D.Disk c.self.inside.core c.close_cut-answer.new.self Close Done images g.met.D.Disk.only_now
      c.in-Ok.ensures.allowed c.in-Ok.ensures.world c.in-Ok.ensures.disk c.stands.ensures.now tt refl (λ e. cc);
})

pub returns-in-Err : goal.returns-in-Err
returns-in-Err g c = rw (← c.self.view_is) (record {
  note = nothing;
  acts = acts_still g.D.Disk c.self.inside.core c.close_cut-answer.new.self Close (Refused c.in-Err.why) nothing g.met.D.Disk.only_now
      c.in-Err.ensures.allowed c.in-Err.ensures.world c.in-Err.ensures.disk c.stands.ensures.now tt refl (close_never_fails c.self.inside.core.world c.in-Err.why c.in-Err.ensures.allowed);
})
