use Rattle.std.proofs.Common.{◌≡◌, sym, ap, ◌∙◌}
use Rattle.std.specs.Prelude.{Result, Ok}
use Rattle.object_graph.specs.declared.calls.Call.TheVariants.{Close}
use Rattle.object_graph.specs.declared.calls.Refusal.{Refusal}
use Rattle.cut_builder.specs.CutParts.{ClosedParts}
use Rattle.cut_core.specs.Given.{closed_note, closed_reply}
use Rattle.store_desk.specs.declared.event.Note.TheVariants.{Images, Nothing}
use Rattle.store_desk.proofs.Happens.{event, closing_done}
use Rattle.store_desk.proofs.happening.close.Goals.{in-Ok, in-Err}
use Rattle.store_desk.proofs.happening.close.Goals as goal

pub returns-clause-happened : goal.returns-clause-happened
returns-clause-happened g c =
    let lane = c.args.lane in
    let closed = c.close_cut-answer.ensures in
    let answer : Result ClosedParts Refusal = c.close_cut-answer.result in
    let done = closing_done g.D.Disk c.args.core.now c.close_cut-answer.new.self lane answer in
    elim c.match-answer.branch [
      | in-Ok w ↦ done (Images w.of.result) c.of-2.result g.met.D.Disk.only_now
          (c.of-2.ensures ∙ (ap (λ p. event lane Close p.0 p.1) w.reply-is ∙ ap (λ r. event lane Close (closed_reply r) (Images w.of.result)) (sym w.in-Ok.is)))
          (ap closed_note (sym w.in-Ok.is)) (λ cut k. w.in-Ok.is ∙ ap (λ (x : ClosedParts). let r : Result ClosedParts Refusal = Ok x in r) (sym w.of.ensures ∙ k))
          closed.allowed closed.world closed.disk c.stands.ensures.now closed.given closed.sound closed.gives
      | in-Err w ↦ done Nothing c.of-2.result g.met.D.Disk.only_now
          (c.of-2.ensures ∙ (ap (λ p. event lane Close p.0 p.1) w.reply-is ∙ ap (λ r. event lane Close (closed_reply r) Nothing) (sym w.in-Err.is)))
          (ap closed_note (sym w.in-Err.is)) (λ cut k. absurd k)
          closed.allowed closed.world closed.disk c.stands.ensures.now closed.given closed.sound closed.gives
    ]
