use Rattle.cut_model.proofs.Fresh.{fresh_stands}
use Rattle.cut_model.proofs.standing.a_fresh_store_stands.Goals as goal

pub returns : goal.returns
returns c = fresh_stands
