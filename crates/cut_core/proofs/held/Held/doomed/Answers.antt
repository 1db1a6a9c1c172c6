use Rattle.std.proofs.Common.{◌∙◌}
use Rattle.std.proofs.lemmas.Result.{on_ok_weaker}
use Rattle.cut_core.proofs.Sweeping.{sweep_first}
use Rattle.cut_core.proofs.held.Held.doomed.Goals as goal

pub returns-in-Some-clause-may : goal.returns-in-Some-clause-may
returns-in-Some-clause-may c = on_ok_weaker c.doomed.result (λ none w h calm. sweep_first c.args.self.now c.in-Some.held w c.args.page c.in-Some.is h calm ∙ none) c.doomed.ensures.may
