use Rattle.std.proofs.lemmas.List.Edits.{map_over_more}
use Rattle.std.proofs.Common.{◌<◌, length, arith, ◌∙◌, sym, ap, set}
use Rattle.object_graph.specs.Graphs.{with_number}
use Rattle.object_graph.proofs.graph.put_number.Goals as goal

pub loop-object-preserved : goal.loop-object-preserved
loop-object-preserved c =
    let lt : c.loop-object.object-index < length c.args.objects.now = omega arith in
    let f = with_number c.args.name c.args.number in
    ap (set c.loop-object.objects c.loop-object.object-index) (c.numbered.ensures ∙ ap f (sym c.object-item.is))
    ∙ map_over_more f c.args.objects.now c.loop-object.objects c.loop-object.object-index c.object-item.result lt c.loop-object.invariant c.object-item.is
