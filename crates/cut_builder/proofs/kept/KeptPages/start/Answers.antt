use Rattle.std.proofs.Common.{◌≡◌, ◌∙◌, ℕ, replicate, sym, subst, ap}
use Rattle.cut_builder.specs.Kept.{cut_pages_of, AreKeptImages}
use Rattle.cut_builder.proofs.Keeps.{no_pages, no_images}
use Rattle.cut_builder.proofs.kept.KeptPages.start.Goals as goal

pub invariant_of-result : goal.invariant_of-result
invariant_of-result c =
    let born = c.in_ok-from_elem.ensures.items_if_clones_equal (λ y e. e) ∙ ap (λ (x : ℕ). replicate c.args.count x) c.empty.ensures.value in
    let same : _ ≡ _ = λ i. record { current = c.in_ok-start.ensures i; before = c.in_ok-start-2.ensures i; after = c.in_ok-start-3.ensures i; born = born i } in
    subst AreKeptImages (sym same) (no_images c.args.count)

pub returns : goal.returns
returns c =
    let born = c.in_ok-from_elem.ensures.items_if_clones_equal (λ y e. e) ∙ ap (λ (x : ℕ). replicate c.args.count x) c.empty.ensures.value in
    (λ i. cut_pages_of (record { current = c.in_ok-start.ensures i; before = c.in_ok-start-2.ensures i; after = c.in_ok-start-3.ensures i; born = born i })) ∙ no_pages c.args.count
