use Rattle.std.proofs.Common.{◌∙◌, ap, subst}
use Rattle.store_model.specs.Replies.{Allows}
use Rattle.store_model.specs.Steps.{next}
use Rattle.cut_core.specs.Calls.{event_of}
use Rattle.store_desk.specs.Events.{plain_note}
use Rattle.store_desk.proofs.Happens.{event, happened_call}
use Rattle.store_desk.proofs.happening.answer.Goals as goal

pub returns-clause-happened : goal.returns-clause-happened
returns-clause-happened g c =
    let n = g.D.Disk.fault_count c.call-reply.new.self.disk in
    happened_call g.D.Disk c.args.core.now c.call-reply.new.self c.args.lane c.args.call c.call-reply.result c.of.result
    (c.of.ensures ∙ ap (event c.args.lane c.args.call c.call-reply.result) (c.plain_note-note.ensures ∙ ap (plain_note c.call-reply.result) c.broken.ensures))
    (subst (λ call. Allows c.args.core.now.world (event_of call c.call-reply.result n)) c.copy_of.ensures c.call-reply.ensures.allowed)
    (c.call-reply.ensures.world ∙ ap (λ call. next c.args.core.now.world (event_of call c.call-reply.result n)) c.copy_of.ensures)
    c.call-reply.ensures.any_moment c.call-reply.ensures.now c.call-reply.ensures.fault c.call-reply.ensures.calm c.call-reply.ensures.keeps c.call-reply.ensures.given
