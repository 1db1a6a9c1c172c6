use Rattle.store_machine.proofs.Promising.{collected}
use Rattle.store_machine.proofs.promises.whole_cuts_free_all_that_was_out_of_reach.Goals as goal

pub returns : goal.returns
returns c = λ w history lawful legal. collected w history lawful legal
