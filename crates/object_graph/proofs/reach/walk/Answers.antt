use Rattle.std.proofs.Common.{◌≡◌, ◌-◌, ℕ, List, [], ◌∷◌, ◌++◌, take, Option, sym, subst, ap, ◌∙◌, append-nil}
use Rattle.std.specs.List.{list_any}
use Rattle.object_graph.specs.NameParts.{NameParts}
use Rattle.object_graph.specs.Graphs.{has_name, is_to, HasEachNameOnce}
use Rattle.object_graph.specs.Walks.{AreTakenOver}
use Rattle.object_graph.specs.ObjectParts.{ObjectParts}
use Rattle.object_graph.proofs.Walks.{IsWalk, walk_begun, walk_step, walk_done, fewer}
use Rattle.object_graph.proofs.reach.walk.Goals as goal

begun_at : (graph : List ObjectParts) (starts : List NameParts) (done none all todo left : List ObjectParts) → HasEachNameOnce graph
    → done ≡ [] → none ≡ [] → all ≡ graph → AreTakenOver (has_name starts) none all todo left → IsWalk graph starts done todo left
begun_at graph starts done none all todo left once d n a p =
    subst (λ xs. IsWalk graph starts xs todo left) (sym d)
    (walk_begun graph starts todo left once
    (subst (λ xs. AreTakenOver (has_name starts) [] xs todo left) a (subst (λ xs. AreTakenOver (has_name starts) xs all todo left) n p)))

pub walk-init : goal.walk-init
walk-init c =
    begun_at c.args.objects.now c.args.starts.now c.new-done.result.items c.new-todo.result.items c.in_ok-left.left.items
    c.take_starts.new.todo.items c.take_starts.new.left.items c.requires
    c.new-done.ensures.items c.new-todo.ensures.items c.in_ok-left.ensures.items c.in_ok-take_starts.ensures

pub walk-smaller : goal.walk-smaller
walk-smaller c =
    fewer c.pop.new.self.items c.walk.left.items c.take_refs.new.todo.items c.take_refs.new.left.items c.walk.todo.items c.in-Some.object
    c.in-Some.ensures.items c.in_ok-take_refs.ensures.same

step_at : (graph : List ObjectParts) (starts : List NameParts) (done : List ObjectParts) (o : ObjectParts) (refs : List (Option NameParts)) (whole todo left done' todo' left' : List ObjectParts) → HasEachNameOnce graph
    → refs ≡ o.refs → whole ≡ todo ++ o ∷ [] → done' ≡ done ++ o ∷ [] → IsWalk graph starts done whole left → AreTakenOver (λ n. list_any (is_to n) refs) todo left todo' left'
    → IsWalk graph starts done' todo' left'
step_at graph starts done o refs whole todo left done' todo' left' once same popped pushed w t =
    subst (λ xs. IsWalk graph starts xs todo' left') (sym pushed)
    (walk_step graph starts done o todo left todo' left' once (subst (λ xs. IsWalk graph starts done xs left) popped w)
    (subst (λ rs. AreTakenOver (λ n. list_any (is_to n) rs) todo left todo' left') same t))

pub walk-preserved : goal.walk-preserved
walk-preserved c =
    step_at c.args.objects.now c.args.starts.now c.walk.done.items c.in-Some.object c.object.inside.refs c.walk.todo.items c.pop.new.self.items c.walk.left.items
    c.push.new.self.items c.take_refs.new.todo.items c.take_refs.new.left.items c.requires (ap (λ (o : ObjectParts). o.refs) c.object.view_is)
    c.in-Some.ensures.items c.in_ok-push.ensures.items c.walk.invariant c.in_ok-take_refs.ensures

nothing_left : (n : ℕ) (whole rest : List ObjectParts) → whole ≡ rest ++ [] → n ≡ 0 → rest ≡ take (n - 1) whole → whole ≡ []
nothing_left n whole rest e zero is = e ∙ (append-nil rest ∙ (is ∙ ap (λ k. take (k - 1) whole) zero))

pub returns : goal.returns
returns c =
    let none = nothing_left _ c.walk.todo.items c.pop.new.self.items c.in_default.ensures.items c.in_default.ensures.cases.0 c.in_default.ensures.rest in
    walk_done c.args.objects.now c.args.starts.now c.walk.done.items c.walk.left.items c.requires
    (subst (λ xs. IsWalk c.args.objects.now c.args.starts.now c.walk.done.items xs c.walk.left.items) none c.walk.invariant)
