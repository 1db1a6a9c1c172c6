use Rattle.std.proofs.Common.{take}
use Rattle.std.specs.List.{list_any}
use Rattle.object_graph.specs.Graphs.{is_to}
use Rattle.object_graph.specs.Walks.{AreTakenOver}
use Rattle.object_graph.proofs.reach.take_refs.Given as goal

abbrev pub invariant-refs : goal.invariant-refs
invariant-refs l = AreTakenOver (λ n. list_any (is_to n) (take l.target-index l.refs)) l.fn.todo.items l.fn.left.items l.todo.items l.left.items
