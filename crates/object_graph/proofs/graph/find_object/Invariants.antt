use Rattle.std.proofs.Common.{◌≡◌, drop}
use Rattle.object_graph.specs.Graphs.{object_named}
use Rattle.object_graph.proofs.graph.find_object.Given as goal

abbrev pub invariant-loop-object : goal.invariant-loop-object
invariant-loop-object l = object_named (drop l.object-index l.objects) l.name ≡ object_named l.objects l.name
