use Rattle.std.proofs.Common.{rules, ◌≡◌, [], ◌∷◌, subst, sym}
use Rattle.std.specs.List.{IsDistinct}
use Rattle.object_graph.specs.Graphs.{HasEachNameOnce, fresh_graph}
use Rattle.object_graph.specs.ObjectParts.{ObjectParts}
use Rattle.object_graph.proofs.graph.Graph.new.Goals as goal

one_alone : (o : ObjectParts) → HasEachNameOnce (o ∷ [])
unfolding IsDistinct
one_alone o = (tt, tt)

pub invariant_of-result : goal.invariant_of-result
invariant_of-result c =
    let e : c.push.new.self.items ≡ fresh_graph = search rules in
    subst HasEachNameOnce (sym e) (one_alone _)
