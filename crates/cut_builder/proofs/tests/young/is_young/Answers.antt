use Rattle.std.proofs.Common.{arith}
use Rattle.cut_builder.proofs.Young.{used_within}
use Rattle.cut_builder.proofs.tests.young.is_young.Goals as goal

pub returns : goal.returns
returns c t slot used =
    let low = used_within c.args.page.now.slots slot used in
    let count = c.is_page.ensures.count in
    c.slots.invariant slot (omega (arith, low, count)) used
