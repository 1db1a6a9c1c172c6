use Rattle.std.proofs.Common.{sym, subst, ap, refl, ◌∙◌}
use Rattle.object_graph.specs.declared.calls.Call.TheVariants.{Close}
use Rattle.object_graph.specs.declared.calls.Refusal.TheVariants.{Uncopied}
use Rattle.object_graph.specs.declared.calls.Reply.TheVariants.{Refused}
use Rattle.store_model.specs.Worlds.{nothing}
use Rattle.cut_model.specs.Standing.{CutBeside}
use Rattle.cut_builder.specs.CutParts.{ClosedParts, cut_starts}
use Rattle.cut_core.specs.Given.{CutAnswers}
use Rattle.cut_core.specs.declared.held.Stage.TheVariants.{Closed}
use Rattle.cut_core.proofs.Closings.{closed_holds, closed_sound, uncopied_stays, back_again}
use Rattle.cut_core.proofs.held.Held.close.Goals as goal

pub returns-in-Ok-clause-well : goal.returns-in-Ok-clause-well
returns-in-Ok-clause-well c = λ w h calm.
    closed_holds c.args.self.now c.in-Some.held c.in-Copying.cut w (sym c.take.ensures.value ∙ c.in-Some.is) c.in-Copying.is h calm c.in-Ok.closed (Closed c.of.result) c.in-Ok.ensures.closed refl
    (ap (λ (x : ClosedParts). let b : CutBeside = record { pages = x.pages; starts = cut_starts x } in b) c.of.ensures)
    (λ n e. ap (λ (x : ClosedParts). x.number) c.of.ensures ∙ e) c.in-Ok.ensures.copied

pub returns-in-Ok-clause-sound : goal.returns-in-Ok-clause-sound
returns-in-Ok-clause-sound c = λ w h.
    closed_sound c.args.self.now c.in-Some.held c.in-Copying.cut c.in-Ok.closed w (sym c.take.ensures.value ∙ c.in-Some.is) c.in-Copying.is c.in-Ok.ensures.closed h

pub returns-in-Err-clause-well : goal.returns-in-Err-clause-well
returns-in-Err-clause-well c = λ w h calm.
    subst (λ s. CutAnswers s w Close nothing (Refused (Uncopied c.in-Err.back.1.page)))
    (sym (back_again c.args.self.now c.in-Some.held c.in-Copying.cut c.in-Err.back.0 (sym c.take.ensures.value ∙ c.in-Some.is) c.in-Copying.is c.in-Err.ensures.back))
    (uncopied_stays c.args.self.now c.in-Some.held c.in-Copying.cut w (sym c.take.ensures.value ∙ c.in-Some.is) c.in-Copying.is h calm c.in-Err.back.1.page c.in-Err.ensures.uncopied)
