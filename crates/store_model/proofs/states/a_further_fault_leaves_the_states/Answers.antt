use Rattle.store_model.proofs.FoundStates.{states_still}
use Rattle.store_model.proofs.states.a_further_fault_leaves_the_states.Goals as goal

pub returns : goal.returns
returns c = states_still
