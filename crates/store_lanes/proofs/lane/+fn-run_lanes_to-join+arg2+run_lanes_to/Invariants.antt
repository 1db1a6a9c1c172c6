use Rattle.std.proofs.Common.{◌+◌, ◌*◌}
use Rattle.store_lanes.proofs.lane.+fn-run_lanes_to-join+arg2+run_lanes_to.Given as goal

abbrev pub decreases-join+arg2 : goal.decreases-join+arg2
decreases-join+arg2 g l = 2 * l.fewer + 1

abbrev pub decreases-run_lanes_to : goal.decreases-run_lanes_to
decreases-run_lanes_to g l = 2 * l.last
