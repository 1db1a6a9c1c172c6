use Rattle.std.proofs.Common.{take}
use Rattle.std.specs.List.{list_any}
use Rattle.object_graph.specs.Graphs.{is_to}
use Rattle.image_model.specs.Opening.{page_slots}
use Rattle.recovery.specs.Marks.{IsMarkedMore, AreNoted}
use Rattle.recovery.proofs.reached.follow_all.Given as goal

abbrev pub invariant-refs : goal.invariant-refs
invariant-refs l = record {
  marked : IsMarkedMore (page_slots l.pages) (λ n. list_any (is_to n) (take l.field l.refs)) l.fn.todo.items l.fn.marks l.todo.items l.marks;
  noted : AreNoted (page_slots l.pages) l.from l.refs l.field l.fn.least l.least;
}
