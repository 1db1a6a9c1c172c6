use Rattle.std.proofs.Common.{rules, ◌≡◌, [], ◌∷◌, ◌++◌, false, subst, sym}
use Rattle.object_graph.specs.Graphs.{HasEachNameOnce, has_object, numbered_object, object_fields}
use Rattle.object_graph.proofs.Distinct.{once_added}
use Rattle.object_graph.proofs.graph.Graph.add.Goals as goal
use Rattle.object_graph.proofs.graph.Graph.add.Goals.{in-Ok, in-Err}

pub invariant_of-self : goal.invariant_of-self
invariant_of-self c =
    let items = c.self.inside.objects.items in
    let object = numbered_object object_fields c.args.name c.args.number in
    let new : has_object items c.args.name ≡ false = search rules in
    elim c.match-push.branch [
      | in-Ok w ↦
          let e : c.push.new.self.items ≡ items ++ object ∷ [] = search rules in
          subst HasEachNameOnce (sym e) (once_added object items c.self.invariant new)
      | in-Err w ↦ let e : c.push.new.self.items ≡ items = search rules in subst HasEachNameOnce (sym e) c.self.invariant
    ]
