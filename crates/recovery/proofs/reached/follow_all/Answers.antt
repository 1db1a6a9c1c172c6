use Rattle.std.proofs.Common.{◌<◌, length, arith, Option}
use Rattle.object_graph.specs.NameParts.{NameParts}
use Rattle.object_graph.specs.Graphs.{is_to}
use Rattle.image_model.specs.Opening.{page_slots}
use Rattle.recovery.proofs.Marking.{marked_more, noted_more}
use Rattle.recovery.proofs.reached.follow_all.Goals as goal

pub refs-preserved : goal.refs-preserved
refs-preserved c =
    let lt : c.refs.field < length c.args.refs.now = omega arith in
    record {
      marked = marked_more (page_slots c.args.pages.now) (λ (target : Option NameParts) (n : NameParts). is_to n target) c.args.refs.now c.refs.field c.index-refs-field.result
          c.args.todo.now.items c.args.marks.now c.refs.todo.items c.refs.marks c.follow.new.todo.items c.follow.new.marks
          lt c.index-refs-field.is c.refs.invariant.marked c.in_ok-follow.ensures.marked;
      noted = noted_more (page_slots c.args.pages.now) c.args.from.now c.args.refs.now c.refs.field c.index-refs-field.result c.place_of.result
          c.args.least.now c.refs.least c.follow.new.least lt c.index-refs-field.is c.place_of.ensures c.refs.invariant.noted c.in_ok-follow.ensures.noted;
    }
