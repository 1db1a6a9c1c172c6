use Rattle.cut_model.proofs.Places.{one_name}
use Rattle.cut_model.proofs.collection.one_name_stands_at_each_place.Goals as goal

pub returns : goal.returns
returns c = one_name
