use Rattle.std.proofs.Common.{sym, ◌∙◌}
use Rattle.store_machine.proofs.Acting.{answered_reopen}
use Rattle.store_machine.proofs.Keeping.{reopened_cut, none_closed}
use Rattle.store_machine.proofs.machine.Machine.reopen.Goals.{in-Some-1, in-None-1}
use Rattle.store_machine.proofs.machine.Machine.reopen.Goals as goal

pub invariant_of-self : goal.invariant_of-self
invariant_of-self g c =
    let e = c.reopen-reply.ensures in
    let answered = answered_reopen g.D.Disk c.self.inside.core c.reopen-reply.new.self c.reopen-reply.result e.answer e.happens e.anew e.kept e.broken e.any_moment e.now e.fault e.calm e.keeps in
    none_closed c.reopen-reply.new.self
    (reopened_cut g.D.Disk c.self.inside.core c.reopen-reply.new.self c.reopen-reply.result answered (sym c.is_refused.ensures ∙ c.if-not-is_refused.true))

pub invariant_of-self-then-not-is_refused-2 : goal.invariant_of-self-then-not-is_refused-2
invariant_of-self-then-not-is_refused-2 g c =
    let e = c.reopen-reply.ensures in
    let answered = answered_reopen g.D.Disk c.self.inside.core c.reopen-reply.new.self c.reopen-reply.result e.answer e.happens e.anew e.kept e.broken e.any_moment e.now e.fault e.calm e.keeps in
    none_closed c.reopen-reply.new.self
    (reopened_cut g.D.Disk c.self.inside.core c.reopen-reply.new.self c.reopen-reply.result answered (sym c.is_refused.ensures ∙ c.if-not-is_refused.true))

pub returns-then-not-is_refused : goal.returns-then-not-is_refused
returns-then-not-is_refused g c =
    let e = c.reopen-reply.ensures in
    let answered = answered_reopen g.D.Disk c.self.inside.core c.reopen-reply.new.self c.reopen-reply.result e.answer e.happens e.anew e.kept e.broken e.any_moment e.now e.fault e.calm e.keeps in
    elim c.match-self.branch [ in-Some-1 w ↦ rw (← c.self.view_is, w.self-is) answered | in-None-1 w ↦ rw (← c.self.view_is, w.self-is) answered ]

pub returns-else-not-is_refused : goal.returns-else-not-is_refused
returns-else-not-is_refused g c =
    let e = c.reopen-reply.ensures in
    rw (← c.self.view_is)
    (answered_reopen g.D.Disk c.self.inside.core c.reopen-reply.new.self c.reopen-reply.result e.answer e.happens e.anew e.kept e.broken e.any_moment e.now e.fault e.calm e.keeps)
