use Rattle.std.proofs.Common.{◌≡◌, ◌++◌, take, drop, map}
use Rattle.object_graph.specs.Graphs.{with_number}
use Rattle.object_graph.proofs.graph.put_number.Given as goal

abbrev pub invariant-loop-object : goal.invariant-loop-object
invariant-loop-object l = l.objects ≡ map (with_number l.name l.number) (take l.object-index l.fn.objects) ++ drop l.object-index l.fn.objects
