use Rattle.cut_model.proofs.Sweeps.{sweep_keeps_doomed}
use Rattle.cut_model.proofs.collection.a_sweep_leaves_the_rest_doomed.Goals as goal

pub returns : goal.returns
returns c = sweep_keeps_doomed
