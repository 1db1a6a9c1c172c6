use Rattle.std.proofs.Common.{◌<◌, length, arith}
use Rattle.object_graph.specs.NameParts.{NameParts}
use Rattle.object_graph.specs.Names.{name_eq}
use Rattle.object_graph.proofs.Walks.{taken_more}
use Rattle.object_graph.proofs.reach.take_starts.Goals as goal

pub starts-preserved : goal.starts-preserved
starts-preserved c =
    let lt : c.starts.start-index < length c.args.starts.now = omega arith in
    taken_more (λ (start : NameParts) (n : NameParts). name_eq start n) c.args.starts.now c.starts.start-index c.start-item.result
    c.args.todo.now.items c.args.left.now.items c.starts.todo.items c.starts.left.items c.take.new.todo.items c.take.new.left.items
    lt c.start-item.is c.starts.invariant c.in_ok-take.ensures
