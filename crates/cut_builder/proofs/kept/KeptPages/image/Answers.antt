use Rattle.std.proofs.Common.{◌∙◌, ℕ, sym, ap, arith}
use Rattle.std.specs.Prelude.{option_map}
use Rattle.cut_model.specs.CutPages.{CutPage}
use Rattle.cut_builder.specs.CutParts.{page_in_cut, image_of, as_page}
use Rattle.cut_builder.specs.Kept.{kept_at}
use Rattle.cut_builder.proofs.Keeps.{low, kept_in, read_cut, current_image, before_image, after_image}
use Rattle.cut_builder.proofs.kept.KeptPages.image.Goals as goal

pub image_in-requires : goal.image_in-requires
image_in-requires c =
    let within = low (kept_in c.self.inside) c.args.self.now c.args.page c.self.view_is c.requires in
    let count = c.self.invariant.current.count in omega (arith, within, count)

pub image_in-requires-in-1 : goal.image_in-requires-in-1
image_in-requires-in-1 c =
    let within = low (kept_in c.self.inside) c.args.self.now c.args.page c.self.view_is c.requires in
    let count = c.self.invariant.before.count in omega (arith, within, count)

pub image_in-requires-in-2 : goal.image_in-requires-in-2
image_in-requires-in-2 c =
    let within = low (kept_in c.self.inside) c.args.self.now c.args.page c.self.view_is c.requires in
    let count = c.self.invariant.after.count in omega (arith, within, count)

pub returns-in-0 : goal.returns-in-0
returns-in-0 c =
    let k = kept_in c.self.inside in
    let page = c.args.page in
    let is = read_cut k c.args.self.now page c.self.view_is c.requires in
    c.image_in.ensures
    ∙ (current_image (kept_at k.current page) (kept_at k.before page) page (c.self.invariant.current.each page)
    ∙ sym (ap (λ (w : ℕ). option_map (as_page page) (image_of (page_in_cut c.args.self.now page) w)) c.in-0.is ∙ ap (λ (p : CutPage). option_map (as_page page) (image_of p 0)) is))

pub returns-in-1 : goal.returns-in-1
returns-in-1 c =
    let k = kept_in c.self.inside in
    let page = c.args.page in
    let is = read_cut k c.args.self.now page c.self.view_is c.requires in
    c.image_in-in-1.ensures
    ∙ (before_image (kept_at k.current page) (kept_at k.before page) page (c.self.invariant.beside page) (c.self.invariant.before.each page)
    ∙ sym (ap (λ (w : ℕ). option_map (as_page page) (image_of (page_in_cut c.args.self.now page) w)) c.in-1.is ∙ ap (λ (p : CutPage). option_map (as_page page) (image_of p 1)) is))

pub returns-in-2 : goal.returns-in-2
returns-in-2 c =
    let k = kept_in c.self.inside in
    let page = c.args.page in
    let is = read_cut k c.args.self.now page c.self.view_is c.requires in
    c.image_in-in-2.ensures
    ∙ (after_image (kept_at k.after page) page (c.self.invariant.after.each page)
    ∙ sym (ap (λ (w : ℕ). option_map (as_page page) (image_of (page_in_cut c.args.self.now page) w)) c.in-2.is ∙ ap (λ (p : CutPage). option_map (as_page page) (image_of p 2)) is))
