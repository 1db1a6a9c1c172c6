use Rattle.cut_model.proofs.Safety.{reached_is_marked}
use Rattle.cut_model.proofs.collection.what_is_reached_is_marked.Goals as goal

pub returns : goal.returns
returns c = reached_is_marked
