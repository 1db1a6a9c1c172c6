use Rattle.std.proofs.Common.{sym, subst, ◌∙◌, rules}
use Rattle.object_graph.specs.declared.calls.Call.TheVariants.{Close}
use Rattle.store_model.specs.Steps.{next}
use Rattle.cut_core.specs.Given.{HasGiven, close_event, closed_note, closed_reply}
use Rattle.cut_core.specs.Holding.{beside_of}
use Rattle.cut_core.specs.Seen.{Seen}
use Rattle.cut_core.specs.Whole.{StandsWithCut}
use Rattle.cut_core.proofs.Closings.{closed_rest, keeps_beside, keeps_seen}
use Rattle.cut_core.proofs.machine.Core.close_cut.Goals as goal

pub invariant_of-self-2 : goal.invariant_of-self-2
invariant_of-self-2 g c =
    let w = c.self.inside.told.value in
    let h = c.self.invariant in
    subst (StandsWithCut g.D.Disk c.self.inside.store c.close-answer.new.self) (sym c.by.ensures)
    (keeps_beside g.D.Disk c.self.inside.store c.close-answer.new.self w Close (closed_note c.close-answer.result) (closed_reply c.close-answer.result) c.in_default.is h.stands
    (closed_rest w c.close-answer.result c.close-answer.ensures.other) (c.close-answer.ensures.well w h.holds (sym h.stands.broken ∙ c.in_default.is)))

pub returns-clause-given : goal.returns-clause-given
returns-clause-given g c = λ number pages was.
    let w = c.self.inside.told.value in
    let h = c.self.invariant in
    subst (λ v. HasGiven v (beside_of c.close-answer.new.self.cut) number pages) (sym c.by.ensures)
    (keeps_seen c.self.inside.held c.close-answer.new.self w (next w (close_event c.close-answer.result)) number pages c.close-answer.ensures.given h.holds
    (c.close-answer.ensures.well w h.holds (sym h.stands.broken ∙ c.in_default.is)).holds
    (subst (λ (s : Seen g.row.D.Denot). HasGiven s.world s.beside number pages) (sym c.self.view_is) was))

pub returns-clause-sound : goal.returns-clause-sound
returns-clause-sound g c = search rules
