use Rattle.store_model.proofs.FaultCounts.{ascend_within}
use Rattle.store_model.proofs.faults.faults_ascend_within.Goals as goal

pub returns : goal.returns
returns c = ascend_within
