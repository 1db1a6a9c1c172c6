use Rattle.cut_model.proofs.Fresh.{history_stands}
use Rattle.cut_model.proofs.standing.histories_leave_what_stands.Goals as goal

pub returns : goal.returns
returns c = history_stands
