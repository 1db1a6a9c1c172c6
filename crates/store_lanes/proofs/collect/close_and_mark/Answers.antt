use Rattle.std.proofs.Common.{[], ◌∷◌, subst}
use Rattle.std.specs.Prelude.{Option, Ok, Err}
use Rattle.object_graph.specs.declared.calls.Call.TheVariants.{Close, Mark}
use Rattle.cut_builder.specs.CutParts.{ClosedParts}
use Rattle.store_lanes.specs.Lanes.{ClosingRan}
use Rattle.store_lanes.proofs.Making.{closed_and_marked, part_stopped}
use Rattle.store_lanes.proofs.collect.close_and_mark.Goals as goal

pub returns-in-Ok-Some-clause-ran : goal.returns-in-Ok-Some-clause-ran
returns-in-Ok-Some-clause-ran g c =
    closed_and_marked g.D.Disk c.args.desk.now.value.start c.args.lane c.args.seat.now c.close.new.seat c.mark_and_give.new.seat c.args.workers c.in-Ok-Some.cut c.mark_and_give.result
    (subst (λ (o : Option ClosedParts). ClosingRan g.D.Disk c.args.desk.now.value.start c.args.lane c.args.seat.now c.close.new.seat (Ok o)) c.in-Ok-Some.field-0-is c.in-Ok-Some.ensures.ran) c.mark_and_give.ensures.ran

pub returns-in-Err-clause-ran : goal.returns-in-Err-clause-ran
returns-in-Err-clause-ran g c =
    part_stopped g.D.Disk c.args.desk.now.value.start c.args.lane c.args.seat.now c.close.new.seat (Close ∷ []) (Mark c.args.workers ∷ []) (Err c.in-Err.memory) tt c.in-Err.ensures.ran
