use Rattle.store_model.proofs.FaultCounts.{ascend_over_parts}
use Rattle.store_model.proofs.faults.faults_ascend_over_parts.Goals as goal

pub returns : goal.returns
returns c = ascend_over_parts
