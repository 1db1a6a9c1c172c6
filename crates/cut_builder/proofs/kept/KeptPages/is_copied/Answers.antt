use Rattle.std.proofs.Common.{◌∙◌, sym, ap, arith}
use Rattle.std.specs.Option.{is_some}
use Rattle.cut_model.specs.CutPages.{CutPage}
use Rattle.cut_builder.specs.Kept.{kept_at}
use Rattle.cut_builder.proofs.Keeps.{low, kept_in, read_cut, has_copy, some_copied}
use Rattle.cut_builder.proofs.kept.KeptPages.is_copied.Goals as goal

pub get-requires : goal.get-requires
get-requires c =
    let within = low (kept_in c.self.inside) c.args.self.now c.args.page c.self.view_is c.requires in
    let count = c.self.invariant.current.count in omega (arith, within, count)

pub returns : goal.returns
returns c =
    let k = kept_in c.self.inside in
    let page = c.args.page in
    c.is_some.ensures
    ∙ (some_copied c.get.result
    ∙ (ap (λ x. is_some x) c.get.ensures
    ∙ sym (ap (λ (p : CutPage). is_some p.copy) (read_cut k c.args.self.now page c.self.view_is c.requires) ∙ has_copy (kept_at k.before page) (kept_at k.current page))))
