use Rattle.std.proofs.Common.{◌≡◌, ◌++◌, map, take, drop, length, subst, arith}
use Rattle.std.proofs.lemmas.Grind.{common_steps}
use Rattle.object_graph.specs.Graphs.{HasEachNameOnce, with_ref}
use Rattle.object_graph.proofs.Distinct.{once_linked}
use Rattle.object_graph.proofs.graph.Graph.set_ref.Goals as goal

pub invariant_of-self : goal.invariant_of-self
invariant_of-self c =
    let items = c.self.inside.objects.items in
    let e : map (with_ref c.args.name c.args.field c.args.target) items ≡ take c.self.inside.objects.len (c.put_ref.new.objects ++ drop (length c.put_ref.new.objects) items) = grind (arith, common_steps) in
    subst HasEachNameOnce e (once_linked c.args.name c.args.field c.args.target items c.self.invariant)
