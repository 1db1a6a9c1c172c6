use Rattle.std.proofs.Common.{[], ◌∷◌, map, true, false, subst, Bool}
use Rattle.std.specs.Prelude.{Result, Ok, Err}
use Rattle.object_graph.specs.Slots.{below}
use Rattle.object_graph.specs.declared.calls.Call.TheVariants.{EndCut}
use Rattle.object_graph.specs.declared.memory.Memory.{Memory}
use Rattle.store_desk.specs.Seats.{AtDesk}
use Rattle.store_lanes.specs.declared.collect.OnPage.TheVariants.{Sweep}
use Rattle.store_lanes.specs.Lanes.{PartRan}
use Rattle.store_lanes.specs.Posts.{seat_of}
use Rattle.store_lanes.specs.Served.{call_on}
use Rattle.store_lanes.proofs.Making.{part_answered, part_then, part_stopped}
use Rattle.store_lanes.proofs.collect.sweep_and_end.Goals as goal

pub returns-in-Ok-true-clause-ran : goal.returns-in-Ok-true-clause-ran
returns-in-Ok-true-clause-ran g c =
    let first = c.args.desk.now.value.start in let old : AtDesk g.row.D.Denot = seat_of c.args.post in let mid : AtDesk g.row.D.Denot = seat_of c.on_each_page-post.result.0 in let new : AtDesk g.row.D.Denot = seat_of c.step.result.0 in
    part_then g.D.Disk first c.args.lane old mid new (map (call_on Sweep) (below first.world.pages)) (EndCut ∷ []) c.step.result.1
    (part_answered g.D.Disk first c.args.lane old mid (map (call_on Sweep) (below first.world.pages)) c.on_each_page-post.result.1 c.in-Ok-true.field-0 true c.in-Ok-true.is c.in-Ok-true.field-0-test c.on_each_page-post.ensures.ran) c.step.ensures.ran

pub returns-in-Ok-false-clause-ran : goal.returns-in-Ok-false-clause-ran
returns-in-Ok-false-clause-ran g c =
    let first = c.args.desk.now.value.start in let old : AtDesk g.row.D.Denot = seat_of c.args.post in let mid : AtDesk g.row.D.Denot = seat_of c.on_each_page-post.result.0 in
    part_stopped g.D.Disk first c.args.lane old mid (map (call_on Sweep) (below first.world.pages)) (EndCut ∷ []) (Ok false) tt
    (part_answered g.D.Disk first c.args.lane old mid (map (call_on Sweep) (below first.world.pages)) c.on_each_page-post.result.1 c.in-Ok-false.field-0 false c.in-Ok-false.is c.in-Ok-false.field-0-test c.on_each_page-post.ensures.ran)

pub returns-in-Err-clause-ran : goal.returns-in-Err-clause-ran
returns-in-Err-clause-ran g c =
    let first = c.args.desk.now.value.start in let old : AtDesk g.row.D.Denot = seat_of c.args.post in let mid : AtDesk g.row.D.Denot = seat_of c.on_each_page-post.result.0 in
    part_stopped g.D.Disk first c.args.lane old mid (map (call_on Sweep) (below first.world.pages)) (EndCut ∷ []) (Err c.in-Err.memory) tt
    (subst (λ (r : Result Bool Memory). PartRan g.D.Disk first c.args.lane (map (call_on Sweep) (below first.world.pages)) old mid r) c.in-Err.is c.on_each_page-post.ensures.ran)
