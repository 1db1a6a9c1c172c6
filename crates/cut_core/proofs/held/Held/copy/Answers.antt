use Rattle.std.proofs.Common.{Some, sym, subst, ap, ◌∙◌, OnOk}
use Rattle.object_graph.specs.declared.calls.Call.TheVariants.{Copy}
use Rattle.object_graph.specs.Replies.{done_reply}
use Rattle.cut_core.specs.Holding.{CutSteps, AddsFrame, beside_of, beside_stage}
use Rattle.cut_core.proofs.Closings.{given_as}
use Rattle.cut_core.proofs.Holding.{same_cut}
use Rattle.cut_core.proofs.held.Held.copy.Goals as goal

pub returns-in-Ok-clause-well : goal.returns-in-Ok-clause-well
returns-in-Ok-clause-well g c = λ w h ready commits.
    subst (λ r. CutSteps (record { cut = Some c.copy_in.new.held; last_cut = c.args.self.now.last_cut }) w (Copy c.args.page) (done_reply r)) c.in-Ok.is
    (c.copy_in.ensures.well w c.args.self.now.last_cut (same_cut c.args.self.now c.in-Some.held w c.in-Some.is h) ready commits)

pub returns-in-Err-clause-well : goal.returns-in-Err-clause-well
returns-in-Err-clause-well g c = λ w h ready commits.
    subst (λ r. CutSteps (record { cut = Some c.copy_in.new.held; last_cut = c.args.self.now.last_cut }) w (Copy c.args.page) r) (ap done_reply c.in-Err.is ∙ sym c.refused-in-Err.ensures)
    (c.copy_in.ensures.well w c.args.self.now.last_cut (same_cut c.args.self.now c.in-Some.held w c.in-Some.is h) ready commits)

pub returns-in-Ok-clause-given : goal.returns-in-Ok-clause-given
returns-in-Ok-clause-given g c = λ number pages was. c.copy_in.ensures.given c.args.self.now.last_cut number pages (given_as c.args.self.now c.in-Some.held number pages c.in-Some.is was)

pub returns-in-Err-clause-given : goal.returns-in-Err-clause-given
returns-in-Err-clause-given g c = λ number pages was. c.copy_in.ensures.given c.args.self.now.last_cut number pages (given_as c.args.self.now c.in-Some.held number pages c.in-Some.is was)

pub returns-in-Ok-clause-copied : goal.returns-in-Ok-clause-copied
returns-in-Ok-clause-copied g c = λ w h ready commits done.
    subst (λ o. AddsFrame w c.args.page (beside_of o) (beside_stage c.copy_in.new.held.stage)) (sym c.in-Some.is)
    (subst (λ r. OnOk r (AddsFrame w c.args.page (beside_stage c.in-Some.held.stage) (beside_stage c.copy_in.new.held.stage))) c.in-Ok.is
    (c.copy_in.ensures.copied w c.args.self.now.last_cut (same_cut c.args.self.now c.in-Some.held w c.in-Some.is h) ready commits))
