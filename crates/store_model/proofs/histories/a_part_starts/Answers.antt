use Rattle.store_model.proofs.Parts.{starts_goes_on, made_starts}
use Rattle.store_model.proofs.histories.a_part_starts.Goals as goal

pub returns : goal.returns
returns c = λ calls events. (λ h. starts_goes_on calls events h, λ h. made_starts calls events h.0 h.1)
