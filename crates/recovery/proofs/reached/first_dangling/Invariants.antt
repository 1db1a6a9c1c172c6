use Rattle.image_model.specs.Opening.{page_slots}
use Rattle.recovery.specs.Marks.{work_left}
use Rattle.recovery.proofs.Marking.{IsMarkWalk}
use Rattle.recovery.proofs.reached.first_dangling.Given as goal

abbrev pub invariant-walk : goal.invariant-walk
invariant-walk l = IsMarkWalk (page_slots l.pages) l.todo.items l.marks.items l.least

abbrev pub decreases-walk : goal.decreases-walk
decreases-walk l = work_left l.todo.items l.marks.items
