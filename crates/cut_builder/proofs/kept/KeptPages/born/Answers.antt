use Rattle.std.proofs.Common.{◌∙◌, sym, ap, arith}
use Rattle.cut_model.specs.CutPages.{CutPage}
use Rattle.std.proofs.lemmas.List.{get_or_read}
use Rattle.cut_builder.proofs.Keeps.{low, kept_in, read_cut}
use Rattle.cut_builder.proofs.kept.KeptPages.born.Goals as goal

pub index-requires : goal.index-requires
index-requires c =
    let within = low (kept_in c.self.inside) c.args.self.now c.args.page c.self.view_is c.requires in
    omega (arith, within)

pub returns : goal.returns
returns c =
    let k = kept_in c.self.inside in
    let page = c.args.page in
    let within = low k c.args.self.now page c.self.view_is c.requires in
    get_or_read k.born page c.index.result.now within c.index.ensures 0 ∙ sym (ap (λ (p : CutPage). p.born) (read_cut k c.args.self.now page c.self.view_is c.requires))
