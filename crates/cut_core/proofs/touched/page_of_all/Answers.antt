use Rattle.std.proofs.Common.{◌∙◌}
use Rattle.cut_core.proofs.Touching.{page_of_all}
use Rattle.cut_core.proofs.touched.page_of_all.Goals as goal

pub returns : goal.returns
returns c = c.then_some.ensures ∙ page_of_all c.args.count c.args.at
