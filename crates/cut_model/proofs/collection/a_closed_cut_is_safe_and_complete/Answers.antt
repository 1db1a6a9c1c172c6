use Rattle.cut_model.proofs.Safety.{closing_keeps_doomed}
use Rattle.cut_model.proofs.collection.a_closed_cut_is_safe_and_complete.Goals as goal

pub returns : goal.returns
returns c = closing_keeps_doomed
