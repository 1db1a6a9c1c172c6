use Rattle.std.proofs.Common.{[], ◌∷◌, subst}
use Rattle.object_graph.specs.declared.calls.Call.TheVariants.{Close}
use Rattle.store_desk.specs.Appended.{IsClosingOf}
use Rattle.store_desk.specs.Seats.{Entered}
use Rattle.store_lanes.proofs.Making.{no_room, closing_out, closing_refused}
use Rattle.store_lanes.proofs.collect.close.Goals as goal

pub returns-in-Ok-Ok-default-clause-ran : goal.returns-in-Ok-Ok-default-clause-ran
returns-in-Ok-Ok-default-clause-ran g c =
    closing_out g.D.Disk c.args.desk.now.value.start c.args.lane c.args.seat.now c.close_cut.new.seat c.in-Ok-Ok-default.cut c.in-Ok-Ok-default.field-0-1 c.requires.start
    (subst (λ answer. Entered g.D.Disk c.args.seat.now c.close_cut.new.seat (IsClosingOf c.args.lane answer) c.in-Ok-Ok-default.field-0-1) c.in-Ok-Ok-default.field-0-0-is c.in-Ok-Ok-default.ensures)

pub returns-in-Ok-Err-default-clause-ran : goal.returns-in-Ok-Err-default-clause-ran
returns-in-Ok-Err-default-clause-ran g c =
    closing_refused g.D.Disk c.args.desk.now.value.start c.args.lane c.args.seat.now c.close_cut.new.seat c.in-Ok-Err-default.field-0-0-0 c.in-Ok-Err-default.field-0-1
    (subst (λ answer. Entered g.D.Disk c.args.seat.now c.close_cut.new.seat (IsClosingOf c.args.lane answer) c.in-Ok-Err-default.field-0-1) c.in-Ok-Err-default.field-0-0-is c.in-Ok-Err-default.ensures)

pub returns-in-Err-clause-ran : goal.returns-in-Err-clause-ran
returns-in-Err-clause-ran g c = no_room g.D.Disk c.args.desk.now.value.start c.args.lane c.args.seat.now c.close_cut.new.seat (Close ∷ []) c.in-Err.memory c.in-Err.ensures
