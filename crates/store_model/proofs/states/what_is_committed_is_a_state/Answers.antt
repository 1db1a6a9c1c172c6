use Rattle.store_model.proofs.FoundStates.{always_a_state, only_state}
use Rattle.store_model.proofs.states.what_is_committed_is_a_state.Goals as goal

pub returns-clause-always : goal.returns-clause-always
returns-clause-always c = always_a_state

pub returns-clause-alone : goal.returns-clause-alone
returns-clause-alone c = only_state
