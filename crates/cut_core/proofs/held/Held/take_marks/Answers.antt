use Rattle.std.proofs.Common.{◌≡◌, subst, sym, ◌∙◌}
use Rattle.std.specs.Prelude.{IfSome}
use Rattle.cut_core.specs.Holding.{beside_stage}
use Rattle.cut_core.specs.declared.held.HeldCut.{HeldCut}
use Rattle.cut_core.proofs.Closings.{marks_hold}
use Rattle.cut_core.proofs.held.Held.take_marks.Goals as goal

pub returns-clause-well : goal.returns-clause-well
returns-clause-well c = λ w h calm workers.
    let cut = c.args.marked.cut in
    let number : c.in-Some.held.number ≡ cut.number = c.if-held-number.false ∙ c.number.ensures in
    let same = subst (λ o. IfSome o (λ (x : HeldCut). x.number ≡ cut.number → cut.pages ≡ (beside_stage x.stage).pages)) c.in-Some.is c.requires.same in
    marks_hold c.args.self.now c.in-Some.held w c.in-Some.is (sym c.is_closed.ensures ∙ c.if-not-is_closed.false) h c.args.marked workers calm number (same number)
