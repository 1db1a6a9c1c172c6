use Rattle.store_model.proofs.ProperNames.{each_name_once}
use Rattle.store_model.proofs.lawful.each_name_is_there_once.Goals as goal

pub returns : goal.returns
returns c = each_name_once
