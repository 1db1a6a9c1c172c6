use Rattle.std.proofs.Common.{◌≡◌, ◌∙◌, true, sym, subst, ap, arith}
use Rattle.std.specs.Option.{is_some}
use Rattle.cut_model.specs.CutPages.{CutPage, settled_image}
use Rattle.cut_builder.specs.Kept.{kept_at}
use Rattle.cut_builder.proofs.Keeps.{low, kept_in, read_cut, has_copy, not_none, settled_after, settled_before, settled_current}
use Rattle.cut_builder.proofs.kept.KeptPages.settled.Goals as goal

pub get-requires : goal.get-requires
get-requires c =
    let within = low (kept_in c.self.inside) c.args.self.now c.args.page c.self.view_is c.requires.page in
    let count = c.self.invariant.after.count in omega (arith, within, count)

pub returns-in-Some-clause-image : goal.returns-in-Some-clause-image
returns-in-Some-clause-image c =
    let k = kept_in c.self.inside in
    let page = c.args.page in
    ap settled_image (read_cut k c.args.self.now page c.self.view_is c.requires.page) ∙ settled_after k page c.in-Some.after.now c.in-Some.ensures

pub get-requires-2 : goal.get-requires-2
get-requires-2 c =
    let within = low (kept_in c.self.inside) c.args.self.now c.args.page c.self.view_is c.requires.page in
    let count = c.self.invariant.before.count in omega (arith, within, count)

pub returns-in-Some-get-clause-image : goal.returns-in-Some-get-clause-image
returns-in-Some-get-clause-image c =
    let k = kept_in c.self.inside in
    let page = c.args.page in
    let is = read_cut k c.args.self.now page c.self.view_is c.requires.page in
    ap settled_image is
    ∙ settled_before k page c.in-Some-get.before.now c.in_default.ensures c.in-Some-get.ensures (subst (λ (p : CutPage). is_some p.copy ≡ true) is c.requires.copied)

pub get-requires-3 : goal.get-requires-3
get-requires-3 c =
    let within = low (kept_in c.self.inside) c.args.self.now c.args.page c.self.view_is c.requires.page in
    let count = c.self.invariant.current.count in omega (arith, within, count)

pub unreachable-requires : goal.unreachable-requires
unreachable-requires c =
    let k = kept_in c.self.inside in
    let page = c.args.page in
    let is = read_cut k c.args.self.now page c.self.view_is c.requires.page in
    let copied : is_some (kept_at k.current page) ≡ true = sym (has_copy (kept_at k.before page) (kept_at k.current page)) ∙ subst (λ (p : CutPage). is_some p.copy ≡ true) is c.requires.copied in
    not_none (kept_at k.current page) copied c.in-None.ensures

pub returns-clause-image : goal.returns-clause-image
returns-clause-image c =
    let k = kept_in c.self.inside in
    let page = c.args.page in
    ap settled_image (read_cut k c.args.self.now page c.self.view_is c.requires.page)
    ∙ settled_current k page c.in-Some-get-2.current.now c.in_default.ensures c.in_default-get.ensures c.in-Some-get-2.ensures
