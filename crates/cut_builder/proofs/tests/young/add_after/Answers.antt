use Rattle.std.proofs.Common.{◌+◌, sym, subst, arith}
use Rattle.cut_builder.specs.Young.{IsYoungCut}
use Rattle.cut_builder.proofs.Young.{changed_young, young_names}
use Rattle.cut_builder.proofs.tests.young.add_after.Goals as goal

pub add_after-requires-clause-names : goal.add_after-requires-clause-names
add_after-requires-clause-names c =
    let young = c.is_young.ensures c.if-is_young.true in
    let count = c.requires.young.count in
    let is = c.number.ensures.value in
    young_names _ (changed_young c.args.cut.now c.args.pages c.args.commits c.args.image.now (omega (arith, count, is)) c.requires.young young).young

pub returns-then-is_young : goal.returns-then-is_young
returns-then-is_young c t =
    let young = c.is_young.ensures c.if-is_young.true in
    let count = c.requires.young.count in
    let is = c.number.ensures.value in
    subst (λ cut. IsYoungCut cut c.args.pages (c.args.commits + 1)) (sym c.add_after.ensures) (changed_young c.args.cut.now c.args.pages c.args.commits c.args.image.now (omega (arith, count, is)) c.requires.young young)
