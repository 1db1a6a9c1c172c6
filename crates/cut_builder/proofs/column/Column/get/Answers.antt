use Rattle.std.proofs.Common.{◌≡◌, ◌<◌, ◌∙◌, Some, None, length, get_or, ap, sym, arith}
use Rattle.std.proofs.lemmas.Option.{slice_get-get_or}
use Rattle.cut_builder.specs.declared.column.KeptImage.{KeptImage}
use Rattle.cut_builder.specs.declared.column.Cell.TheVariants.{Holds}
use Rattle.cut_builder.specs.Cells.{place_of, cell_at}
use Rattle.cut_builder.proofs.Placing.{cell_of, at_page, length-at}
use Rattle.cut_builder.proofs.column.Column.get.Goals as goal

pub index-requires-in-Holds : goal.index-requires-in-Holds
index-requires-in-Holds c =
    let cells = c.self.inside.cells.items in
    let images = c.self.inside.images.items in
    let page = c.args.page in
    let long = length-at images cells in
    let within : page < length cells = let p = c.requires in omega (arith, p, long, ap length c.self.view_is) in
    let is : cell_at cells page ≡ Holds c.in-Holds.place = cell_of cells page c.index.result.now within c.index.ensures ∙ c.in-Holds.is in
    let low = c.self.invariant.within page c.in-Holds.place (ap (λ s. place_of s) is) in omega (arith, low)

pub returns-in-Holds : goal.returns-in-Holds
returns-in-Holds c =
    let cells = c.self.inside.cells.items in
    let images = c.self.inside.images.items in
    let page = c.args.page in
    let long = length-at images cells in
    let within : page < length cells = let p = c.requires in omega (arith, p, long, ap length c.self.view_is) in
    let place = c.in-Holds.place in
    let x = c.index-in-Holds.result.now in
    let is : cell_at cells page ≡ Holds place = cell_of cells page c.index.result.now within c.index.ensures ∙ c.in-Holds.is in
    let low = c.self.invariant.within page place (ap (λ s. place_of s) is) in
    ap (λ (i : KeptImage). Some i) c.index-in-Holds.ensures
    ∙ (sym (at_page images cells page (Holds place) is ∙ slice_get-get_or images place x low) ∙ ap (λ xs. get_or xs page None) c.self.view_is)
