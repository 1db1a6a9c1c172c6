use Rattle.std.proofs.Common.{sym, subst}
use Rattle.store_desk.specs.Happenings.{Happened}
use Rattle.store_desk.specs.States.{IsKept}
use Rattle.store_desk.proofs.Kept.{kept_after}
use Rattle.store_desk.proofs.state.DeskState.give_marks.Goals as goal

pub invariant_of-self : goal.invariant_of-self
invariant_of-self g c =
    let happened : Happened g.D.Disk c.self.inside.core.value c.give_marks-event.new.core c.give_marks-event.result =
    subst (λ core. Happened g.D.Disk core c.give_marks-event.new.core c.give_marks-event.result) c.deref_mut.ensures.value c.give_marks-event.ensures.happened in
    subst (IsKept g.D.Disk c.self.inside.start.value c.give_marks-event.new.core) (sym c.push_reserved.ensures.items)
    (kept_after g.D.Disk c.self.inside.start.value c.self.inside.core.value c.give_marks-event.new.core c.self.inside.chronicle.items c.give_marks-event.result c.self.invariant happened)

pub returns-clause-kept : goal.returns-clause-kept
returns-clause-kept g c = invariant_of-self g c
