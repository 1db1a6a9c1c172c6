use Rattle.script_lang.specs.Script.{lines_of}
use Rattle.store_lanes.specs.declared.lane.TheConstants.{LANES}
use Rattle.store_lanes.proofs.Last.{lanes_all}
use Rattle.store_lanes.proofs.lane.run_lanes.Goals as goal

pub returns-clause-ran : goal.returns-clause-ran
returns-clause-ran g c =
    lanes_all g.D.Disk c.args.desk.now.value.start (lines_of c.args.script.now) c.last_lane.result LANES c.run_lanes_to.result.1 c.run_lanes_to.result.0
    c.last_lane.ensures.within c.last_lane.ensures.last c.run_lanes_to.ensures.ran
