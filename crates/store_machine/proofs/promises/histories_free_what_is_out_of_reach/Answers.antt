use Rattle.store_machine.proofs.Promising.{safe}
use Rattle.store_machine.proofs.promises.histories_free_what_is_out_of_reach.Goals as goal

pub returns : goal.returns
returns c = λ w history lawful legal. safe w history lawful legal
