use Rattle.store_model.proofs.Lawfulness.{broken_refuses}
use Rattle.store_model.proofs.steps.broken_comes_first.Goals as goal

pub returns : goal.returns
returns c = broken_refuses
