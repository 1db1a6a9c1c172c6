use Rattle.std.proofs.Common.{◌∙◌}
use Rattle.script_lang.specs.Script.{lines_of}
use Rattle.store_lanes.specs.declared.lane.TheConstants.{LANES}
use Rattle.store_lanes.proofs.Going.{lanes_stopped}
use Rattle.lanes_run.proofs.running.start_lanes.Goals as goal

pub returns-in-Err-clause-ran : goal.returns-in-Err-clause-ran
returns-in-Err-clause-ran g c =
    lanes_stopped g.D.Disk c.args.desk.now.value.start (lines_of c.args.script.now.bytes.items) LANES c.reserve.new.seat (c.reserve.ensures.own ∙ c.requires.fresh)
