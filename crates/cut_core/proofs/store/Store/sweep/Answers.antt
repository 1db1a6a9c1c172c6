use Rattle.std.proofs.Common.{refl, sym, subst, ◌∙◌}
use Rattle.store_model.specs.Steps.{next}
use Rattle.object_graph.specs.declared.calls.Call.TheVariants.{Sweep}
use Rattle.object_graph.specs.declared.calls.Reply.TheVariants.{Freed, Refused}
use Rattle.cut_model.specs.Doomed.{AreDoomedOn}
use Rattle.cut_core.specs.Calls.{event_of}
use Rattle.cut_core.specs.Holding.{beside_of}
use Rattle.cut_core.proofs.Standing.{no_device_call}
use Rattle.cut_core.proofs.Sweeping.{doomed_may_go, idle_steps, refused_sweep}
use Rattle.cut_core.proofs.store.Store.sweep.Goals as goal

pub returns-in-Err-clause-steps : goal.returns-in-Err-clause-steps
returns-in-Err-clause-steps g c = λ w h holds.
    refused_sweep g.D.Disk c.args.self.now c.args.page c.in-Err.why (g.D.Disk.fault_count c.args.self.now.disk) w h
    (c.in-Err.ensures.refused c.in-Err.why refl w holds (sym h.broken ∙ c.requires.sound)) (c.in-Err.ensures.other c.in-Err.why refl)

pub returns-then-is_empty-clause-steps : goal.returns-then-is_empty-clause-steps
returns-then-is_empty-clause-steps g c = λ w h holds.
    idle_steps g.D.Disk c.args.self.now c.args.page c.in-Ok.slots (g.D.Disk.fault_count c.args.self.now.disk) w h c.requires.sound (c.is_empty.ensures.number.0 c.if-is_empty.true)
    (doomed_may_go c.args.held.now w c.args.page c.in-Ok.slots holds (c.in-Ok.ensures.may w holds (sym h.broken ∙ c.requires.sound)) c.in-Ok.ensures.exact)

pub returns-then-is_empty-clause-held : goal.returns-then-is_empty-clause-held
returns-then-is_empty-clause-held g c = λ w h holds.
    c.note_swept.ensures.well w c.in-Ok.slots holds
    (doomed_may_go c.args.held.now w c.args.page c.in-Ok.slots holds (c.in-Ok.ensures.may w holds (sym h.broken ∙ c.requires.sound)) c.in-Ok.ensures.exact)

pub note_swept-requires : goal.note_swept-requires
note_swept-requires g c =
    let w = c.requires.stands.0 in
    let holds = c.requires.stands.2 in (
      w,
      c.in-Ok.slots,
      holds,
      doomed_may_go c.args.held.now w c.args.page c.in-Ok.slots holds (c.in-Ok.ensures.may w holds (sym c.requires.stands.1.broken ∙ c.requires.sound)) c.in-Ok.ensures.exact,
    )

pub returns-then-is_empty-clause-any_moment : goal.returns-then-is_empty-clause-any_moment
returns-then-is_empty-clause-any_moment g c = λ w h holds.
    no_device_call g.D.Disk g.met.D.Disk.only_now c.args.self.now c.args.self.now.disk w (next w (event_of (Sweep c.args.page) (Freed c.in-Ok.slots) (g.D.Disk.fault_count c.args.self.now.disk))) refl h

pub returns-clause-freed : goal.returns-clause-freed
returns-clause-freed g c = λ slots is.
    subst (AreDoomedOn (beside_of c.args.held.now.cut).starts (beside_of c.args.held.now.cut).pages c.args.page) (sym (c.free.ensures.freed slots is)) c.in-Ok.ensures.exact

pub returns-in-Err-clause-any_moment : goal.returns-in-Err-clause-any_moment
returns-in-Err-clause-any_moment g c = λ w h holds.
    no_device_call g.D.Disk g.met.D.Disk.only_now c.args.self.now c.args.self.now.disk w (next w (event_of (Sweep c.args.page) (Refused c.in-Err.why) (g.D.Disk.fault_count c.args.self.now.disk))) refl h
