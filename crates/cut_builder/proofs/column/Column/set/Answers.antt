use Rattle.std.proofs.Common.{◌≡◌, ◌<◌, ◌+◌, ◌∙◌, ◌++◌, ◌∷◌, [], ℕ, List, Option, Some, None, refl, length, set, ap, sym, subst, arith, length-set, length-append}
use Rattle.std.specs.Prelude.{vec_capacity}
use Rattle.cut_builder.specs.declared.column.KeptImage.{KeptImage}
use Rattle.cut_builder.specs.declared.column.Cell.TheVariants.{Holds}
use Rattle.cut_builder.specs.Cells.{place_of, at_cells, cell_at, AreCells}
use Rattle.cut_builder.proofs.Placing.{cell_of, length-at, replaced, placed_last, has_place, keeps_place, takes_place}
use Rattle.cut_builder.proofs.column.Column.set.Goals as goal

pub index_mut-requires : goal.index_mut-requires
index_mut-requires c =
    let cells = c.self.inside.cells.items in
    let images = c.self.inside.images.items in
    let page = c.args.page in
    let long = length-at images cells in
    let within : page < length cells = let p = c.requires in omega (arith, p, long, ap length c.self.view_is) in
    let is : place_of (cell_at cells page) ≡ Some c.in-Some.place = ap (λ s. place_of s) (cell_of cells page c.index.result.now within c.index.ensures) ∙ (sym c.place.ensures ∙ c.in-Some.is) in
    let low = c.self.invariant.within page c.in-Some.place is in omega (arith, low)

pub invariant_of-self : goal.invariant_of-self
invariant_of-self c =
    let cells = c.self.inside.cells.items in
    let images = c.self.inside.images.items in
    let page = c.args.page in
    let long = length-at images cells in
    let within : page < length cells = let p = c.requires in omega (arith, p, long, ap length c.self.view_is) in
    let is : place_of (cell_at cells page) ≡ Some c.in-Some.place = ap (λ s. place_of s) (cell_of cells page c.index.result.now within c.index.ensures) ∙ (sym c.place.ensures ∙ c.in-Some.is) in
    let place = c.in-Some.place in
    let kept : KeptImage = record { image = c.args.image.now; moment = c.args.moment } in
    let capacity = vec_capacity c.self.inside.images in
    subst (λ n. AreCells n capacity (set cells page (Holds place))) (sym (length-set images place kept))
    (keeps_place (length images) capacity cells page place (Holds place) c.self.invariant within is refl)

pub overflow_cast-place-in-None : goal.overflow_cast-place-in-None
overflow_cast-place-in-None c =
    let cells = c.self.inside.cells.items in
    let images = c.self.inside.images.items in
    let page = c.args.page in
    let long = length-at images cells in
    let within : page < length cells = let p = c.requires in omega (arith, p, long, ap length c.self.view_is) in
    let is : place_of (cell_at cells page) ≡ None = ap (λ s. place_of s) (cell_of cells page c.index.result.now within c.index.ensures) ∙ (sym c.place.ensures ∙ c.in-None.is) in
    let low = has_place (length images) (vec_capacity c.self.inside.images) cells page c.self.invariant within is in
    let few = c.self.invariant.few in
    let last = c.len-place.ensures in omega (arith, low, few, last)

pub push_reserved-requires : goal.push_reserved-requires
push_reserved-requires c =
    let cells = c.self.inside.cells.items in
    let images = c.self.inside.images.items in
    let page = c.args.page in
    let long = length-at images cells in
    let within : page < length cells = let p = c.requires in omega (arith, p, long, ap length c.self.view_is) in
    let is : place_of (cell_at cells page) ≡ None = ap (λ s. place_of s) (cell_of cells page c.index.result.now within c.index.ensures) ∙ (sym c.place.ensures ∙ c.in-None.is) in
    let low = has_place (length images) (vec_capacity c.self.inside.images) cells page c.self.invariant within is in
    let room = c.self.invariant.room in omega (arith, low, room)

pub invariant_of-self-in-None : goal.invariant_of-self-in-None
invariant_of-self-in-None c =
    let cells = c.self.inside.cells.items in
    let images = c.self.inside.images.items in
    let page = c.args.page in
    let long = length-at images cells in
    let within : page < length cells = let p = c.requires in omega (arith, p, long, ap length c.self.view_is) in
    let is : place_of (cell_at cells page) ≡ None = ap (λ s. place_of s) (cell_of cells page c.index.result.now within c.index.ensures) ∙ (sym c.place.ensures ∙ c.in-None.is) in
    let kept : KeptImage = record { image = c.args.image.now; moment = c.args.moment } in
    let capacity = vec_capacity c.self.inside.images in
    let last : c.len-place.result ≡ length images = let e = c.len-place.ensures in omega (arith, e) in
    let more : length c.push_reserved.new.self.items ≡ length images + 1 = ap length c.push_reserved.ensures.items ∙ length-append images (kept ∷ []) in
    subst (λ n. AreCells n (vec_capacity c.push_reserved.new.self) (set cells page (Holds c.len-place.result))) (sym more)
    (subst (λ n. AreCells (length images + 1) n (set cells page (Holds c.len-place.result))) (sym c.push_reserved.ensures.capacity)
    (subst (λ n. AreCells (length images + 1) capacity (set cells page (Holds n))) (sym last) (takes_place (length images) capacity cells page c.self.invariant within is)))

pub returns-in-Some : goal.returns-in-Some
returns-in-Some c =
    let cells = c.self.inside.cells.items in
    let images = c.self.inside.images.items in
    let page = c.args.page in
    let long = length-at images cells in
    let within : page < length cells = let p = c.requires in omega (arith, p, long, ap length c.self.view_is) in
    let is : place_of (cell_at cells page) ≡ Some c.in-Some.place = ap (λ s. place_of s) (cell_of cells page c.index.result.now within c.index.ensures) ∙ (sym c.place.ensures ∙ c.in-Some.is) in
    let kept : KeptImage = record { image = c.args.image.now; moment = c.args.moment } in
    replaced images (vec_capacity c.self.inside.images) cells page c.in-Some.place kept c.self.invariant within is
    ∙ ap (λ (xs : List (Option KeptImage)). set xs page (Some kept)) c.self.view_is

pub returns-in-None : goal.returns-in-None
returns-in-None c =
    let cells = c.self.inside.cells.items in
    let images = c.self.inside.images.items in
    let page = c.args.page in
    let long = length-at images cells in
    let within : page < length cells = let p = c.requires in omega (arith, p, long, ap length c.self.view_is) in
    let kept : KeptImage = record { image = c.args.image.now; moment = c.args.moment } in
    let last : c.len-place.result ≡ length images = let e = c.len-place.ensures in omega (arith, e) in
    ap (λ (xs : List KeptImage). at_cells xs (set cells page (Holds c.len-place.result))) c.push_reserved.ensures.items
    ∙ (ap (λ (n : ℕ). at_cells (images ++ kept ∷ []) (set cells page (Holds n))) last
    ∙ (placed_last images (vec_capacity c.self.inside.images) cells page kept c.self.invariant within
    ∙ ap (λ (xs : List (Option KeptImage)). set xs page (Some kept)) c.self.view_is))
