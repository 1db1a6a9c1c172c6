use Rattle.cut_core.proofs.Holding.{opened_at}
use Rattle.cut_core.proofs.Staging.{none_of}
use Rattle.cut_core.proofs.held.Held.open.Goals as goal

pub returns-in-Ok-clause-well : goal.returns-in-Ok-clause-well
returns-in-Ok-clause-well c = λ w h calm pages commits.
    opened_at c.args.self.now w c.in-Ok.cut c.args.pages c.args.commits h calm pages commits (none_of c.args.self.now.cut c.in_default.not-Some) c.if-self-ge-MOST_COUNTED.false
    c.in-Ok.ensures.number c.in-Ok.ensures.stage c.in-Ok.ensures.swept
