use Rattle.std.proofs.Common.{not, ap}
use Rattle.store_lanes.proofs.Making.{marks_no_room, marks_given, same_number}
use Rattle.store_lanes.proofs.collect.mark_and_give.Goals as goal

pub returns-in-Ok-clause-ran : goal.returns-in-Ok-clause-ran
returns-in-Ok-clause-ran g c =
    marks_given g.D.Disk c.args.desk.now.value.start c.args.lane c.args.seat.now c.give_marks.new.seat c.args.workers c.args.cut.number c.in-Ok.field-0-1 c.marks_of-marked.result c.in-Ok.reply (not c.is_refused.result)
    c.in-Ok.ensures.marked (same_number c.marks_of-marked.result c.args.cut c.marks_of-marked.ensures) (ap not c.is_refused.ensures)

pub returns-in-Err-clause-ran : goal.returns-in-Err-clause-ran
returns-in-Err-clause-ran g c = marks_no_room g.D.Disk c.args.desk.now.value.start c.args.lane c.args.seat.now c.give_marks.new.seat c.args.workers c.args.cut.number c.in-Err.memory c.in-Err.ensures.marked
