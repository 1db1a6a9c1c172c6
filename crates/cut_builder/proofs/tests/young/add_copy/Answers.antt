use Rattle.std.proofs.Common.{sym, subst, arith}
use Rattle.cut_builder.specs.Young.{IsYoungCut}
use Rattle.cut_builder.proofs.Young.{copied_young, young_names}
use Rattle.cut_builder.proofs.tests.young.add_copy.Goals as goal

pub add_copy-requires-clause-names : goal.add_copy-requires-clause-names
add_copy-requires-clause-names c =
    let young = c.is_young_copy.ensures c.if-is_young_copy.true in
    let count = c.requires.count in
    young_names _ (copied_young c.args.cut.now c.args.pages c.args.commits c.args.copy.now (omega (arith, count)) c.requires young).young

pub returns-then-is_young_copy : goal.returns-then-is_young_copy
returns-then-is_young_copy c =
    let young = c.is_young_copy.ensures c.if-is_young_copy.true in
    let count = c.requires.count in
    subst (λ cut. IsYoungCut cut c.args.pages c.args.commits) (sym c.add_copy.ensures) (copied_young c.args.cut.now c.args.pages c.args.commits c.args.copy.now (omega (arith, count)) c.requires young)
