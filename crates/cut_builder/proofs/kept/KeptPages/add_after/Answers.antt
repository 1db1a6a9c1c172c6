use Rattle.std.proofs.Common.{◌≡◌, ◌∙◌, ℕ, Option, Some, List, set, sym, subst, ap, arith}
use Rattle.cut_model.specs.CutPages.{CutPage, with_commit}
use Rattle.cut_builder.specs.CutParts.{page_in_cut}
use Rattle.cut_builder.specs.Kept.{cut_pages_of, AreKeptImages}
use Rattle.cut_builder.proofs.Keeps.{low, kept_in, kept_after, changed_pages, changed_images}
use Rattle.cut_builder.proofs.kept.KeptPages.add_after.Goals as goal

pub set-requires : goal.set-requires
set-requires c =
    let within = low (kept_in c.self.inside) c.args.self.now c.args.image.now.number c.self.view_is c.requires in
    let count = c.self.invariant.after.count in
    let is = c.number.ensures.value in omega (arith, within, count, is)

pub invariant_of-self : goal.invariant_of-self
invariant_of-self c =
    let k = kept_in c.self.inside in
    let image = c.args.image.now in
    let within = low k c.args.self.now image.number c.self.view_is c.requires in
    let kept : Option _ = Some (record { image = image; moment = c.args.moment }) in
    subst (λ xs. AreKeptImages (record k { after = xs })) (sym (c.set.ensures ∙ ap (λ (n : ℕ). set k.after n kept) c.number.ensures.value))
    (changed_images k image c.args.moment c.self.invariant within)

pub returns : goal.returns
returns c =
    let k = kept_in c.self.inside in
    let image = c.args.image.now in
    let within = low k c.args.self.now image.number c.self.view_is c.requires in
    let kept : Option _ = Some (record { image = image; moment = c.args.moment }) in
    ap (λ xs. cut_pages_of (record k { after = xs })) (c.set.ensures ∙ ap (λ (n : ℕ). set k.after n kept) c.number.ensures.value)
    ∙ subst (λ (ps : List CutPage). cut_pages_of (kept_after k image c.args.moment)
    ≡ set ps image.number (with_commit image.slots c.args.moment (page_in_cut ps image.number).born (page_in_cut ps image.number))) c.self.view_is
    (changed_pages k image c.args.moment c.self.invariant within)
