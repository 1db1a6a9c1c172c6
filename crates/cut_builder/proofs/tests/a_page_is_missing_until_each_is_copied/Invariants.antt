use Rattle.cut_builder.specs.Young.{IsYoungCut}
use Rattle.cut_builder.proofs.tests.a_page_is_missing_until_each_is_copied.Given as goal

abbrev pub invariant-loop-page : goal.invariant-loop-page
invariant-loop-page g l = IsYoungCut l.cut 4 0
