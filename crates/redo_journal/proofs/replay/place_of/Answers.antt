use Rattle.std.proofs.Common.{◌≡◌, inl, inr, ℕ, ◌<◌, get_or, arith, subst, sym, ◌∙◌, ap}
use Rattle.std.proofs.lemmas.Bool.{cases_eq}
use Rattle.std.proofs.lemmas.List.{get_or-map}
use Rattle.page_image.specs.Pages.{PageParts}
use Rattle.redo_journal.specs.Record.{numbers_of}
use Rattle.redo_journal.proofs.replay.place_of.Goals as goal

pub loop-at-preserved : goal.loop-at-preserved
loop-at-preserved c i lt =
    let xs = c.args.images.now in
    let here : get_or (numbers_of xs) c.loop-at.at 0 ≡ c.index-images-at.result.number =
    get_or-map (λ (p : PageParts). p.number) xs c.loop-at.at c.index-images-at.result 0 c.loop-at-test.true ∙ ap (λ (p : PageParts). p.number) (sym c.index-images-at.is) in
    elim (cases_eq i c.loop-at.at) [
      | inl same ↦ subst (λ (j : ℕ). get_or (numbers_of xs) j 0 < c.args.number) (sym same) (omega (arith, here, c.number.ensures.value, c.if-number.false))
      | inr apart ↦ c.loop-at.invariant i (omega (arith, lt, apart))
    ]
