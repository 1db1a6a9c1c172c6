use Rattle.std.proofs.Common.{[], refl, sym, subst}
use Rattle.object_graph.specs.declared.calls.Call.TheVariants.{Reopen}
use Rattle.cut_core.specs.Given.{HasGiven}
use Rattle.cut_core.specs.Seen.{Seen}
use Rattle.cut_core.proofs.Closings.{keeps_seen}
use Rattle.cut_core.specs.Touched.{AreTouched}
use Rattle.cut_core.proofs.Touching.{are_touched, none_ascends}
use Rattle.cut_core.proofs.machine.Core.reopen.Goals as goal

pub returns-clause-given : goal.returns-clause-given
returns-clause-given g c = λ number pages was.
    keeps_seen c.self.inside.held c.reopen-reply.new.held c.self.inside.told.value c.reopen-reply.result.1.value number pages c.reopen-reply.ensures.given c.self.invariant.holds c.reopen-reply.ensures.holds
    (subst (λ (s : Seen g.row.D.Denot). HasGiven s.world s.beside number pages) (sym c.self.view_is) was)

pub returns-clause-touched : goal.returns-clause-touched
returns-clause-touched g c =
    let old = c.self.inside.store.transactions in
    let new = c.reopen-reply.new.self.transactions in
    let reply = c.reopen-reply.result.0 in
    subst (λ (s : Seen g.row.D.Denot). AreTouched s.world Reopen reply s.frames new.frames c.note_reply.new.self) c.self.view_is
    (subst (AreTouched c.self.inside.told.value Reopen reply old.frames new.frames) (sym c.note_reply.ensures)
    (are_touched old new c.self.inside.told.value Reopen reply c.pages.result [] c.self.invariant.stands.transactions c.reopen-reply.ensures.frames c.pages.ensures refl none_ascends))
