use Rattle.std.proofs.Common.{ap, subst, ◌∙◌}
use Rattle.turn_lock.specs.Seats.{HasAtHand, grown}
use Rattle.turn_lock.proofs.Holding.{holds_now, value_kept, turn_grown}
use Rattle.turn_lock.proofs.guard.TurnGuard.with_beside.Goals as goal

pub invariant_of-self : goal.invariant_of-self
invariant_of-self g c = let x = c.self.inside.value in let y = c.called_beside.new.value in let list = g.T.Kept.list in let start = g.T.Kept.start in
    let holds = subst (HasAtHand (list x) (start x)) c.self.view_is (holds_now c.self.inside.place.table_id c.self.inside.place.me c.self.inside.before (list x) (list y) (start x) (start y) c.self.invariant) in
    let more = c.requires.appends x y c.called_beside.result c.called_beside.new.beside holds c.called_beside.ensures in
    value_kept c.self.inside.place.table_id c.self.inside.place.me c.self.inside.before (list x) (list y) (start x) (start y) c.self.invariant more

pub returns : goal.returns
returns g c = let x = c.self.inside.value in let y = c.called_beside.new.value in let list = g.T.Kept.list in let start = g.T.Kept.start in
    let holds = subst (HasAtHand (list x) (start x)) c.self.view_is (holds_now c.self.inside.place.table_id c.self.inside.place.me c.self.inside.before (list x) (list y) (start x) (start y) c.self.invariant) in
    let more = c.requires.appends x y c.called_beside.result c.called_beside.new.beside holds c.called_beside.ensures in record {
      called = (x, y, holds, c.called_beside.ensures, turn_grown c.self.inside.place.table_id c.self.inside.place.me c.self.inside.before (list x) (list y) (start x) (start y) c.self.invariant more ∙ ap (λ s. grown s (list x) (list y)) c.self.view_is);
    }
