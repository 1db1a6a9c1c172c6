use Rattle.std.proofs.Common.{rules, sym, subst}
use Rattle.std.specs.Prelude.{IfSome}
use Rattle.store_desk.specs.Appended.{DidMark}
use Rattle.store_desk.specs.Events.{HasClosing}
use Rattle.store_desk.proofs.Turns.{closing_found, marked_from}
use Rattle.store_desk.proofs.desk.Desk.give_marks.Goals as goal

pub with-requires-clause-may : goal.with-requires-clause-may
with-requires-clause-may g c = λ x found p is.
    subst (λ s. IfSome c.args.marked (λ m. HasClosing s.chronicle m.cut)) (sym is) (closing_found x.chronicle x.start c.args.seat.now c.args.marked found c.requires.closed)

pub returns-clause-marked : goal.returns-clause-marked
returns-clause-marked g c = let h = c.with.ensures.called in
    let did : DidMark g.D.Disk h.0 h.1 c.args.lane c.args.workers c.args.marked c.with.result.0 = search rules in
    marked_from g.D.Disk c.args.seat.now c.with.new.seat h.0 h.1 h.2 h.5 c.args.lane c.args.workers c.args.marked c.with.result.0 did
