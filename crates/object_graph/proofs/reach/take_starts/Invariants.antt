use Rattle.std.proofs.Common.{take}
use Rattle.object_graph.specs.Graphs.{has_name}
use Rattle.object_graph.specs.Walks.{AreTakenOver}
use Rattle.object_graph.proofs.reach.take_starts.Given as goal

abbrev pub invariant-starts : goal.invariant-starts
invariant-starts l = AreTakenOver (has_name (take l.start-index l.starts)) l.fn.todo.items l.fn.left.items l.todo.items l.left.items
