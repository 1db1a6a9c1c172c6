use Rattle.std.proofs.Common.{sym, subst}
use Rattle.cut_builder.specs.Young.{IsYoungCut}
use Rattle.cut_builder.proofs.Young.{started_young}
use Rattle.mark_pool.proofs.tests.young.start.Goals as goal

pub returns : goal.returns
returns c = subst (λ cut. IsYoungCut cut c.args.pages 0) (sym c.in_ok-cut.ensures) (started_young c.args.pages 1 0)
