use Rattle.cut_model.proofs.Safety.{lost_is_unmarked}
use Rattle.cut_model.proofs.collection.what_was_lost_is_unmarked.Goals as goal

pub returns : goal.returns
returns c = lost_is_unmarked
