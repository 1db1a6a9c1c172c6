use Rattle.store_model.proofs.Parts.{IsRun-append, IsRun-parts}
use Rattle.store_model.proofs.histories.a_run_in_two_parts.Goals as goal

pub returns : goal.returns
returns c = λ w events more. (λ h. IsRun-parts w events more h, λ h. IsRun-append w events more h.0 h.1)
