use Rattle.std.proofs.Common.{◌+◌, length}
use Rattle.object_graph.proofs.Walks.{IsWalk}
use Rattle.object_graph.proofs.reach.walk.Given as goal

abbrev pub invariant-walk : goal.invariant-walk
invariant-walk l = IsWalk l.objects l.starts l.done.items l.todo.items l.left.items

abbrev pub decreases-walk : goal.decreases-walk
decreases-walk l = length l.todo.items + length l.left.items
