use Rattle.std.proofs.Common.{◌≡◌, sym, ap, ◌∙◌, Some}
use Rattle.object_graph.specs.declared.calls.Call.TheVariants.{Mark}
use Rattle.cut_core.specs.Given.{marked_reply}
use Rattle.store_desk.specs.declared.event.Note.TheVariants.{Marks}
use Rattle.store_desk.proofs.Happens.{event, marks_done}
use Rattle.store_desk.proofs.happening.give_marks.Goals.{in-Ok, in-Err}
use Rattle.store_desk.proofs.happening.give_marks.Goals as goal

pub returns-clause-happened : goal.returns-clause-happened
returns-clause-happened g c =
    let answered : c.match-give_marks.reply ≡ marked_reply c.give_marks.result = elim c.match-give_marks.branch [
      | in-Ok x ↦ x.reply-is ∙ sym (ap marked_reply x.in-Ok.is)
      | in-Err x ↦ x.reply-is ∙ sym (ap marked_reply x.in-Err.is)
    ] in
    marks_done g.D.Disk c.args.core.now c.give_marks.new.self c.args.lane c.args.workers c.in-Some.marked.cut.number c.match-give_marks.reply c.give_marks.result c.of.result g.met.D.Disk.only_now answered
    (c.of.ensures ∙ ap (λ n. event c.args.lane (Mark c.args.workers) c.match-give_marks.reply (Marks (Some n))) c.number.ensures)
    (c.give_marks.ensures.allowed c.args.workers) (c.give_marks.ensures.world c.args.workers) c.give_marks.ensures.disk c.stands.ensures.now c.give_marks.ensures.given
