use Rattle.std.proofs.Common.{sym, subst, ap, ◌∙◌, ℕ, Some}
use Rattle.object_graph.specs.declared.calls.Call.TheVariants.{Mark}
use Rattle.store_model.specs.Steps.{next}
use Rattle.store_model.specs.Worlds.{marks}
use Rattle.cut_core.specs.Given.{HasGiven, mark_event, marked_reply}
use Rattle.cut_core.specs.Holding.{beside_of}
use Rattle.cut_core.specs.Seen.{Seen}
use Rattle.cut_core.specs.Whole.{StandsWithCut}
use Rattle.cut_core.proofs.Closings.{marked_rest, keeps_beside, keeps_seen}
use Rattle.cut_core.proofs.machine.Core.give_marks.Goals as goal

pub invariant_of-self-2 : goal.invariant_of-self-2
invariant_of-self-2 g c =
    let w = c.self.inside.told.value in
    let h = c.self.invariant in
    let answer = c.take_marks-answer.result in
    subst (StandsWithCut g.D.Disk c.self.inside.store c.take_marks-answer.new.self) (sym (c.by.ensures ∙ ap (λ (n : ℕ). next w (mark_event 1 (Some n) (marked_reply answer))) c.number-number.ensures))
    (keeps_beside g.D.Disk c.self.inside.store c.take_marks-answer.new.self w (Mark 1) (marks (Some c.args.marked.cut.number)) (marked_reply answer) c.in_default.is h.stands
    (marked_rest w 1 (Some c.args.marked.cut.number) answer c.take_marks-answer.ensures.other) (c.take_marks-answer.ensures.well w h.holds (sym h.stands.broken ∙ c.in_default.is) 1))

pub returns-clause-given : goal.returns-clause-given
returns-clause-given g c = λ number pages was.
    let w = c.self.inside.told.value in
    let h = c.self.invariant in
    let answer = c.take_marks-answer.result in
    subst (λ v. HasGiven v (beside_of c.take_marks-answer.new.self.cut) number pages) (sym (c.by.ensures ∙ ap (λ (n : ℕ). next w (mark_event 1 (Some n) (marked_reply answer))) c.number-number.ensures))
    (keeps_seen c.self.inside.held c.take_marks-answer.new.self w (next w (mark_event 1 (Some c.args.marked.cut.number) (marked_reply answer))) number pages c.take_marks-answer.ensures.given h.holds
    (c.take_marks-answer.ensures.well w h.holds (sym h.stands.broken ∙ c.in_default.is) 1).holds
    (subst (λ (s : Seen g.row.D.Denot). HasGiven s.world s.beside number pages) (sym c.self.view_is) was))
