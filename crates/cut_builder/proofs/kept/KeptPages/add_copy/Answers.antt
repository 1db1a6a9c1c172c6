use Rattle.std.proofs.Common.{◌≡◌, ◌∙◌, List, set, sym, subst, arith}
use Rattle.cut_model.specs.CutPages.{CutPage, with_copy}
use Rattle.cut_builder.specs.CutParts.{page_in_cut, copied_of}
use Rattle.cut_builder.specs.Kept.{Kept, cut_pages_of, AreKeptImages}
use Rattle.cut_builder.proofs.Keeps.{low, kept_in, kept_copy, copied_pages, copied_images}
use Rattle.cut_builder.proofs.kept.KeptPages.add_copy.Goals as goal

pub set-requires : goal.set-requires
set-requires c =
    let within = low (kept_in c.self.inside) c.args.self.now c.args.copy.now.page c.self.view_is c.requires.page in
    let count = c.self.invariant.current.count in omega (arith, within, count)

pub put_before-requires : goal.put_before-requires
put_before-requires c =
    let within = low (kept_in c.self.inside) c.args.self.now c.args.copy.now.page c.self.view_is c.requires.page in
    let count = c.self.invariant.before.count in omega (arith, within, count)

pub keep_later-requires : goal.keep_later-requires
keep_later-requires c =
    let within = low (kept_in c.self.inside) c.args.self.now c.args.copy.now.page c.self.view_is c.requires.page in
    let count = c.self.invariant.after.count in omega (arith, within, count)

pub invariant_of-self : goal.invariant_of-self
invariant_of-self c =
    let copy = c.args.copy.now in
    let k = kept_in c.self.inside in
    let within = low k c.args.self.now copy.page c.self.view_is c.requires.page in
    let new : Kept = record { current = c.set.new.self; before = c.put_before.new.before; after = c.keep_later.new.after; born = k.born } in
    let same : new ≡ kept_copy k copy = λ i. record { current = c.set.ensures i; before = c.put_before.ensures i; after = c.keep_later.ensures i; born = k.born } in
    subst AreKeptImages (sym same) (copied_images k copy c.self.invariant within c.requires.images)

pub returns : goal.returns
returns c =
    let copy = c.args.copy.now in
    let k = kept_in c.self.inside in
    let within = low k c.args.self.now copy.page c.self.view_is c.requires.page in
    (λ i. cut_pages_of (record { current = c.set.ensures i; before = c.put_before.ensures i; after = c.keep_later.ensures i; born = k.born }))
    ∙ subst (λ (ps : List CutPage). cut_pages_of (kept_copy k copy) ≡ set ps copy.page (with_copy (copied_of copy) (page_in_cut ps copy.page))) c.self.view_is
    (copied_pages k copy c.self.invariant within)
