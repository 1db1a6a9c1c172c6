use Rattle.std.proofs.Common.{◌≡◌, ◌<◌, ◌∙◌, List, Option, Some, None, refl, length, set, ap, sym, subst, arith}
use Rattle.std.specs.Prelude.{vec_capacity}
use Rattle.cut_builder.specs.declared.column.KeptImage.{KeptImage}
use Rattle.cut_builder.specs.declared.column.Cell.TheVariants.{Empty}
use Rattle.cut_builder.specs.Cells.{place_of, cell_at}
use Rattle.cut_builder.proofs.Placing.{cell_of, length-at, emptied, keeps_place, without_image}
use Rattle.cut_builder.proofs.column.Column.clear.Goals as goal

pub invariant_of-self : goal.invariant_of-self
invariant_of-self c =
    let cells = c.self.inside.cells.items in
    let images = c.self.inside.images.items in
    let page = c.args.page in
    let long = length-at images cells in
    let within : page < length cells = let p = c.requires in omega (arith, p, long, ap length c.self.view_is) in
    let is : place_of (cell_at cells page) ≡ Some c.in-Some.place = ap (λ s. place_of s) (cell_of cells page c.index.result.now within c.index.ensures) ∙ (sym c.place.ensures ∙ c.in-Some.is) in
    keeps_place (length images) (vec_capacity c.self.inside.images) cells page c.in-Some.place (Empty c.in-Some.place) c.self.invariant within is refl

pub returns-in-Some : goal.returns-in-Some
returns-in-Some c =
    let cells = c.self.inside.cells.items in
    let images = c.self.inside.images.items in
    let page = c.args.page in
    let long = length-at images cells in
    let within : page < length cells = let p = c.requires in omega (arith, p, long, ap length c.self.view_is) in
    emptied images cells page c.in-Some.place within ∙ ap (λ (xs : List (Option KeptImage)). set xs page None) c.self.view_is

pub returns-in_default : goal.returns-in_default
returns-in_default c =
    let cells = c.self.inside.cells.items in
    let images = c.self.inside.images.items in
    let page = c.args.page in
    let long = length-at images cells in
    let within : page < length cells = let p = c.requires in omega (arith, p, long, ap length c.self.view_is) in
    let is : place_of (cell_at cells page) ≡ None = ap (λ s. place_of s) (cell_of cells page c.index.result.now within c.index.ensures) ∙ (sym c.place.ensures ∙ c.in_default.is) in
    subst (λ (xs : List (Option KeptImage)). xs ≡ set xs page None) c.self.view_is (without_image images cells page is)
