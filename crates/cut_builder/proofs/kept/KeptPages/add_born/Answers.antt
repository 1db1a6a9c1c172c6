use Rattle.std.proofs.Common.{◌≡◌, ◌∙◌, ◌||◌, ℕ, List, set, sym, subst, ap, arith}
use Rattle.std.proofs.lemmas.List.{get_or_read}
use Rattle.object_graph.specs.Slots.{has_slot}
use Rattle.cut_model.specs.CutPages.{CutPage, with_born}
use Rattle.cut_builder.specs.CutParts.{page_in_cut}
use Rattle.cut_builder.specs.Kept.{cut_pages_of}
use Rattle.cut_builder.proofs.Keeps.{low, kept_in, read_cut, kept_born, born_pages, born_images, born_is}
use Rattle.cut_builder.proofs.kept.KeptPages.add_born.Goals as goal

pub index-born-requires : goal.index-born-requires
index-born-requires c =
    let within = low (kept_in c.self.inside) c.args.self.now c.args.page c.self.view_is c.requires in
    omega (arith, within)

pub index_mut-requires : goal.index_mut-requires
index_mut-requires c =
    let within = low (kept_in c.self.inside) c.args.self.now c.args.page c.self.view_is c.requires in
    omega (arith, within)

pub invariant_of-self : goal.invariant_of-self
invariant_of-self c = born_images (kept_in c.self.inside) c.args.page c.union.result c.self.invariant

pub returns-clause-kept : goal.returns-clause-kept
returns-clause-kept c =
    let k = kept_in c.self.inside in
    let page = c.args.page in
    let now = c.args.self.now in
    let within = low k now page c.self.view_is c.requires in
    subst (λ (ps : List CutPage). cut_pages_of (kept_born k page c.union.result) ≡ set ps page (with_born c.union.result (page_in_cut ps page))) c.self.view_is
    (born_pages k page c.union.result within)
    ∙ ap (λ (b : ℕ). set now page (with_born b (page_in_cut now page))) (sym (born_is k page c.union.result within))

pub returns-clause-born : goal.returns-clause-born
returns-clause-born c s =
    let k = kept_in c.self.inside in
    let page = c.args.page in
    let within = low k c.args.self.now page c.self.view_is c.requires in
    let old : c.index-born.result.now ≡ (page_in_cut c.args.self.now page).born =
    get_or_read k.born page c.index-born.result.now within c.index-born.ensures 0 ∙ sym (ap (λ (p : CutPage). p.born) (read_cut k c.args.self.now page c.self.view_is c.requires)) in
    ap (λ (b : ℕ). has_slot b s) (born_is k page c.union.result within) ∙ (c.union.ensures s ∙ ap (λ (b : ℕ). has_slot b s || has_slot c.args.slots s) old)
