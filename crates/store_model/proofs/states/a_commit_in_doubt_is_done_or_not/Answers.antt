use Rattle.store_model.proofs.FoundStates.{done_by_commit, states_by_commit}
use Rattle.store_model.proofs.states.a_commit_in_doubt_is_done_or_not.Goals as goal

pub returns-clause-done : goal.returns-clause-done
returns-clause-done c = done_by_commit

pub returns-clause-only : goal.returns-clause-only
returns-clause-only c = states_by_commit
