use Rattle.std.proofs.Common.{length, ap, arith}
use Rattle.cut_builder.proofs.Keeps.{kept_in, length-cut}
use Rattle.cut_builder.proofs.kept.KeptPages.count.Goals as goal

pub overflow_cast-result : goal.overflow_cast-result
overflow_cast-result c =
    let long = length-cut (kept_in c.self.inside) in
    let few = c.requires in
    let is = c.len.ensures in omega (arith, long, few, is, ap length c.self.view_is)

pub returns : goal.returns
returns c =
    let long = length-cut (kept_in c.self.inside) in
    let is = c.len.ensures in omega (arith, long, is, ap length c.self.view_is)
