use Rattle.std.proofs.Common.{◌<◌, length, arith, Option}
use Rattle.object_graph.specs.NameParts.{NameParts}
use Rattle.object_graph.specs.Graphs.{is_to}
use Rattle.object_graph.proofs.Walks.{taken_more}
use Rattle.object_graph.proofs.reach.take_refs.Goals as goal

pub refs-preserved : goal.refs-preserved
refs-preserved c =
    let lt : c.refs.target-index < length c.args.refs.now = omega arith in
    taken_more (λ (target : Option NameParts) (n : NameParts). is_to n target) c.args.refs.now c.refs.target-index c.target-item.result
    c.args.todo.now.items c.args.left.now.items c.refs.todo.items c.refs.left.items c.take_target.new.todo.items c.take_target.new.left.items
    lt c.target-item.is c.refs.invariant c.in_ok-take_target.ensures
