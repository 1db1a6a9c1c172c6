use Rattle.std.proofs.Common.{refl}
use Rattle.lanes_run.proofs.Counted.{unread_bad}
use Rattle.lanes_run.proofs.judging.judge_line.Goals as goal

pub returns-in-Err : goal.returns-in-Err
returns-in-Err c = (unread_bad c.args.line.now c.read_lane_line.result c.in-Err.bad c.in-Err.is c.read_lane_line.ensures.only c.in-Err.ensures.column, refl)
