use Rattle.std.proofs.Common.{sym, ◌∙◌}
use Rattle.store_machine.proofs.Acting.{answered_once}
use Rattle.store_machine.proofs.Calling.{call_keeps}
use Rattle.store_machine.proofs.machine.Machine.call.Goals.{in-Some-1, in-None-1}
use Rattle.store_machine.proofs.machine.Machine.call.Goals as goal

pub invariant_of-self-else-takes_cut : goal.invariant_of-self-else-takes_cut
invariant_of-self-else-takes_cut g c =
    call_keeps c.self.inside.core c.call-reply.new.self c.args.call c.call-reply.result (g.D.Disk.fault_count c.call-reply.new.self.disk) c.self.inside.closed c.requires
    c.call-reply.ensures.allowed c.call-reply.ensures.world c.call-reply.ensures.given (sym c.takes_cut.ensures ∙ c.if-takes_cut.false) c.self.invariant

pub returns-then-takes_cut : goal.returns-then-takes_cut
returns-then-takes_cut g c =
    let answered =
    answered_once g.D.Disk c.self.inside.core c.call-reply.new.self c.args.call c.call-reply.result
    c.call-reply.ensures.allowed c.call-reply.ensures.world c.call-reply.ensures.any_moment c.call-reply.ensures.now c.call-reply.ensures.fault c.call-reply.ensures.calm c.call-reply.ensures.keeps in
    elim c.match-self.branch [ in-Some-1 w ↦ rw (← c.self.view_is, w.self-is) answered | in-None-1 w ↦ rw (← c.self.view_is, w.self-is) answered ]

pub returns-else-takes_cut : goal.returns-else-takes_cut
returns-else-takes_cut g c = rw (← c.self.view_is)
    (answered_once g.D.Disk c.self.inside.core c.call-reply.new.self c.args.call c.call-reply.result
    c.call-reply.ensures.allowed c.call-reply.ensures.world c.call-reply.ensures.any_moment c.call-reply.ensures.now c.call-reply.ensures.fault c.call-reply.ensures.calm c.call-reply.ensures.keeps)
