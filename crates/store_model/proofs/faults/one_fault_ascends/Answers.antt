use Rattle.store_model.proofs.FaultCounts.{none_ascends, one_ascends}
use Rattle.store_model.proofs.faults.one_fault_ascends.Goals as goal

pub returns-clause-none : goal.returns-clause-none
returns-clause-none c = none_ascends

pub returns-clause-one : goal.returns-clause-one
returns-clause-one c = one_ascends
