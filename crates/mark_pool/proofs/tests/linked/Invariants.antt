use Rattle.cut_builder.specs.Young.{IsYoungCut}
use Rattle.mark_pool.proofs.tests.linked.Given as goal

abbrev pub invariant-pages : goal.invariant-pages
invariant-pages l = IsYoungCut l.cut 16 0
