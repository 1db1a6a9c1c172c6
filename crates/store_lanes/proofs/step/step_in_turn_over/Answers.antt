use Rattle.std.proofs.Common.{[], ◌∷◌, not, ap}
use Rattle.store_lanes.proofs.Making.{no_room, part_done}
use Rattle.store_lanes.proofs.step.step_in_turn_over.Goals as goal

pub returns-in-Ok-clause-ran : goal.returns-in-Ok-clause-ran
returns-in-Ok-clause-ran g c =
    part_done g.D.Disk c.args.desk.now.value.start c.args.lane c.args.guard.now c.call_in_turn.new.guard c.args.call c.in-Ok.reply c.in-Ok.field-0-1 (not c.is_refused.result) c.requires.plain c.in-Ok.ensures (ap not c.is_refused.ensures)

pub returns-clause-ran : goal.returns-clause-ran
returns-clause-ran g c = no_room g.D.Disk c.args.desk.now.value.start c.args.lane c.args.guard.now c.call_in_turn.new.guard (c.args.call ∷ []) c.in-Err.memory c.in-Err.ensures
