use Rattle.std.proofs.Common.{sym, subst}
use Rattle.cut_builder.specs.Young.{IsYoungCut}
use Rattle.cut_builder.proofs.Young.{started_young}
use Rattle.cut_builder.proofs.tests.young.start.Goals as goal

pub returns : goal.returns
returns c = subst (λ cut. IsYoungCut cut c.args.pages c.args.commits) (sym c.in_ok-cut.ensures) (started_young c.args.pages 1 c.args.commits)
