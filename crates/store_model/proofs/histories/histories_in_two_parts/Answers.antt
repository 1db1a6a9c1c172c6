use Rattle.store_model.proofs.Parts.{after-append, IsLegal-append, IsLegal-parts}
use Rattle.store_model.proofs.histories.histories_in_two_parts.Goals as goal

pub returns-clause-after : goal.returns-clause-after
returns-clause-after c = after-append

pub returns-clause-legal : goal.returns-clause-legal
returns-clause-legal c = λ w events more. (λ h. IsLegal-parts w events more h, λ h. IsLegal-append w events more h.0 h.1)
