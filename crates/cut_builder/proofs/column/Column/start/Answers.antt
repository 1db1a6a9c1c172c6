use Rattle.std.proofs.Common.{rules, List, length, replicate, sym, subst, ap, ◌∙◌, arith}
use Rattle.std.specs.Prelude.{vec_capacity}
use Rattle.cut_builder.specs.declared.column.Cell.{Cell}
use Rattle.cut_builder.specs.declared.column.Cell.TheVariants.{Never}
use Rattle.cut_builder.specs.Cells.{at_cells, AreCells}
use Rattle.cut_builder.proofs.Placing.{no_cells, nothing_placed}
use Rattle.cut_builder.proofs.column.Column.start.Goals as goal

pub invariant_of-result : goal.invariant_of-result
invariant_of-result c =
    let capacity = vec_capacity c.in_ok-images.images in
    let room = c.in_ok-images.ensures.capacity in
    subst (λ cells. AreCells (length c.in_ok-images.images.items) capacity cells) (sym (c.in_ok-cells.ensures.items_if_clones_equal (search rules)))
    (subst (λ images. AreCells (length images) capacity (replicate c.args.count Never)) (sym c.in_ok-images.ensures.items) (no_cells capacity c.args.count (omega (arith, room)) c.requires))

pub returns : goal.returns
returns c = ap (λ (cells : List Cell). at_cells c.in_ok-images.images.items cells) (c.in_ok-cells.ensures.items_if_clones_equal (search rules)) ∙ nothing_placed c.in_ok-images.images.items c.args.count
