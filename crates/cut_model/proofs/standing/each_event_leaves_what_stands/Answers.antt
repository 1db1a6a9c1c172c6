use Rattle.cut_model.proofs.Turning.{stands_after}
use Rattle.cut_model.proofs.standing.each_event_leaves_what_stands.Goals as goal

pub returns : goal.returns
returns c = stands_after
