use Rattle.std.proofs.Common.{sym, subst, ◌∙◌}
use Rattle.object_graph.specs.declared.calls.Call.TheVariants.{EndCut}
use Rattle.cut_core.specs.Holding.{CutSteps}
use Rattle.cut_core.proofs.Holding.{few_swept, unswept_steps, ended_steps}
use Rattle.cut_core.proofs.held.Held.end.Goals as goal

pub first_unswept-requires : goal.first_unswept-requires
first_unswept-requires c = few_swept c.args.self.now c.in-Some.held c.requires.0 c.deref.result.now c.in-Some.is c.requires.1 c.deref.ensures.value

pub returns-in-Some-first_unswept-clause-well : goal.returns-in-Some-first_unswept-clause-well
returns-in-Some-first_unswept-clause-well c = λ w h calm.
    subst (CutSteps c.args.self.now w EndCut) (sym c.refused-in-Some-first_unswept.ensures)
    (unswept_steps c.args.self.now c.in-Some.held w c.deref.result.now c.in-Some.is h calm (sym c.is_sweeping.ensures ∙ c.if-not-is_sweeping.false) c.deref.ensures.value
    c.in-Some-first_unswept.page c.in-Some-first_unswept.ensures.some c.in-Some-first_unswept.ensures.least)

pub returns-clause-well : goal.returns-clause-well
returns-clause-well c = λ w h calm.
    ended_steps c.args.self.now c.in-Some.held w c.deref.result.now c.in-Some.is h calm (sym c.is_sweeping.ensures ∙ c.if-not-is_sweeping.false) c.deref.ensures.value c.in_default-first_unswept.ensures.none
