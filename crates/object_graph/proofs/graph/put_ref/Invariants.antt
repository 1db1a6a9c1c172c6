use Rattle.std.proofs.Common.{◌≡◌, ◌++◌, take, drop, map}
use Rattle.object_graph.specs.Graphs.{with_ref}
use Rattle.object_graph.proofs.graph.put_ref.Given as goal

abbrev pub invariant-loop-object : goal.invariant-loop-object
invariant-loop-object l = l.objects ≡ map (with_ref l.name l.field l.target) (take l.object-index l.fn.objects) ++ drop l.object-index l.fn.objects
