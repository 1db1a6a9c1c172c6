use Rattle.std.proofs.Common.{ℕ, List, sym, subst, ap, ◌∙◌}
use Rattle.store_model.specs.Steps.{next}
use Rattle.cut_model.specs.Doomed.{AreDoomedOn}
use Rattle.cut_core.specs.Calls.{event_of}
use Rattle.cut_core.specs.Given.{HasGiven}
use Rattle.cut_core.specs.Holding.{Holds, AddsFrame, beside_of}
use Rattle.cut_core.specs.Seen.{Seen}
use Rattle.cut_core.proofs.Closings.{keeps_seen}
use Rattle.image_model.specs.Stands.{StandsForWorld}
use Rattle.redo_journal.proofs.Moments.{if_some_map}
use Rattle.cut_core.specs.Standing.{KeepsWorld, Stands}
use Rattle.cut_core.specs.Touched.{AreTouched}
use Rattle.cut_core.proofs.Touching.{are_touched}
use Rattle.cut_core.proofs.machine.Core.call.Goals as goal

pub returns-clause-given : goal.returns-clause-given
returns-clause-given g c = λ number pages was.
    let w = c.self.inside.told.value in
    let h = c.self.invariant in
    keeps_seen c.self.inside.held c.answer-reply.new.held w c.by.result.value number pages c.answer-reply.ensures.given h.holds
    (subst (Holds c.answer-reply.new.held) (sym (c.by.ensures ∙ ap (λ (n : ℕ). next w (event_of c.args.call c.answer-reply.result n)) c.faults-faults.ensures)) (c.answer-reply.ensures.held w h.stands h.holds))
    (subst (λ (s : Seen g.row.D.Denot). HasGiven s.world s.beside number pages) (sym c.self.view_is) was)

pub returns-clause-freed : goal.returns-clause-freed
returns-clause-freed g c = λ page slots is was.
    subst (λ (s : Seen g.row.D.Denot). AreDoomedOn s.beside.starts s.beside.pages page slots) c.self.view_is (c.answer-reply.ensures.freed page slots is was)

pub returns-clause-copied : goal.returns-clause-copied
returns-clause-copied g c = λ page is done.
    subst (λ (s : Seen g.row.D.Denot). AddsFrame s.world page s.beside (beside_of c.answer-reply.new.held.cut)) c.self.view_is
    (c.answer-reply.ensures.copied c.self.inside.told.value page c.self.invariant.stands c.self.invariant.holds is done)

pub returns-clause-touched : goal.returns-clause-touched
returns-clause-touched g c =
    let old = c.self.inside.store.transactions in
    let new = c.answer-reply.new.store.transactions in
    let reply = c.answer-reply.result in
    subst (λ (s : Seen g.row.D.Denot). AreTouched s.world c.args.call reply s.frames new.frames c.note_reply.new.self) c.self.view_is
    (subst (AreTouched c.self.inside.told.value c.args.call reply old.frames new.frames) (sym c.note_reply.ensures)
    (are_touched old new c.self.inside.told.value c.args.call reply c.pages.result c.note_call.new.self c.self.invariant.stands.transactions c.answer-reply.ensures.frames c.pages.ensures c.note_call.ensures.pages c.note_call.ensures.ascending))

pub returns-clause-now : goal.returns-clause-now
returns-clause-now g c =
    let w = c.self.inside.told.value in
    let h = c.self.invariant in
    let is = c.by.ensures ∙ ap (λ (n : ℕ). next w (event_of c.args.call c.answer-reply.result n)) c.faults-faults.ensures in
    let stands = subst (Stands g.D.Disk c.answer-reply.new.store) (sym is) (c.answer-reply.ensures.steps w h.stands h.holds).stands in
    if_some_map (g.D.Disk.content c.answer-reply.new.store.disk) (KeepsWorld c.answer-reply.new.store.journal (g.D.Disk.may_leave c.answer-reply.new.store.disk) c.by.result.value)
    (λ file. (image : List ℕ) → g.D.Disk.may_leave c.answer-reply.new.store.disk image → StandsForWorld image c.by.result.value) (λ file told k. k.stands) stands.disk
