use Rattle.std.proofs.Common.{◌≡◌, ◌++◌, map, take, drop, length, subst, arith}
use Rattle.std.proofs.lemmas.Grind.{common_steps}
use Rattle.object_graph.specs.Graphs.{HasEachNameOnce, with_number}
use Rattle.object_graph.proofs.Distinct.{once_put}
use Rattle.object_graph.proofs.graph.Graph.put.Goals as goal

pub invariant_of-self : goal.invariant_of-self
invariant_of-self c =
    let items = c.self.inside.objects.items in
    let e : map (with_number c.args.name c.args.number) items ≡ take c.self.inside.objects.len (c.put_number.new.objects ++ drop (length c.put_number.new.objects) items) = grind (arith, common_steps) in
    subst HasEachNameOnce e (once_put c.args.name c.args.number items c.self.invariant)
