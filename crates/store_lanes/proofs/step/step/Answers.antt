use Rattle.std.proofs.Common.{[], ◌∷◌, sym, subst}
use Rattle.store_desk.specs.Seats.{AtDesk}
use Rattle.store_lanes.specs.Lanes.{PartRan}
use Rattle.store_lanes.specs.Posts.{seat_of}
use Rattle.store_lanes.proofs.Making.{part_then, part_waited}
use Rattle.store_lanes.proofs.step.step.Goals as goal

pub returns-clause-ran : goal.returns-clause-ran
returns-clause-ran g c =
    let first = c.args.desk.now.value.start in let old : AtDesk g.row.D.Denot = seat_of c.args.post in let mid : AtDesk g.row.D.Denot = c.in_turn-guard.result.0 in let new : AtDesk g.row.D.Denot = c.step_in_turn-done.new.guard in
    subst (λ (s : AtDesk g.row.D.Denot). PartRan g.D.Disk first c.args.lane (c.args.call ∷ []) old s c.step_in_turn-done.result) (sym c.after_call.ensures)
    (part_then g.D.Disk first c.args.lane old mid new [] (c.args.call ∷ []) c.step_in_turn-done.result (part_waited g.D.Disk first c.args.lane old mid c.in_turn-guard.ensures) c.step_in_turn-done.ensures.ran)
