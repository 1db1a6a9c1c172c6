use Rattle.std.proofs.Common.{[], ◌∷◌, ap, sym, subst, Bool}
use Rattle.std.specs.Prelude.{Result}
use Rattle.object_graph.specs.declared.memory.Memory.{Memory}
use Rattle.store_model.specs.Histories.{collection}
use Rattle.store_desk.specs.Seats.{AtDesk}
use Rattle.store_lanes.specs.LaneScripts.{wishes_of}
use Rattle.store_lanes.specs.Lanes.{LineServed, PartRan}
use Rattle.store_lanes.specs.Posts.{seat_of}
use Rattle.store_lanes.specs.Served.{without_bool}
use Rattle.store_lanes.specs.declared.post.Post.{Post}
use Rattle.store_lanes.proofs.Making.{line_served}
use Rattle.store_lanes.proofs.lane.serve.Goals.{in-One, in-Collect}
use Rattle.store_lanes.proofs.lane.serve.Goals as goal

pub returns-clause-served : goal.returns-clause-served
returns-clause-served g c =
    let first = c.args.desk.now.value.start in
    let old : AtDesk g.row.D.Denot = seat_of c.args.post in
    let all : LineServed g.D.Disk first c.args.lane c.args.line old (seat_of c.match-line.ran.0) (without_bool c.match-line.ran.1) = elim c.match-line.branch [
      | in-One w ↦ line_served g.D.Disk first c.args.lane old (seat_of c.match-line.ran.0) c.args.line (w.in-One.call ∷ []) c.match-line.ran.1 (ap (wishes_of first.world.pages) w.in-One.is)
          (subst (λ (r : Post g.row.D.Denot × Result Bool Memory). PartRan g.D.Disk first c.args.lane (w.in-One.call ∷ []) old (seat_of r.0) r.1) (sym w.ran-is) w.step-ran.ensures.ran)
      | in-Collect w ↦ line_served g.D.Disk first c.args.lane old (seat_of c.match-line.ran.0) c.args.line (collection first.world.pages w.in-Collect.workers) c.match-line.ran.1 (ap (wishes_of first.world.pages) w.in-Collect.is)
          (subst (λ (r : Post g.row.D.Denot × Result Bool Memory). PartRan g.D.Disk first c.args.lane (collection first.world.pages w.in-Collect.workers) old (seat_of r.0) r.1) (sym w.ran-is) w.collect-ran.ensures.ran)
    ] in
    subst (λ (p : Post g.row.D.Denot). LineServed g.D.Disk first c.args.lane c.args.line old (seat_of p) c.without_value.result.1) (sym c.without_value.ensures.post)
    (subst (λ (r : Result (Unit {0}) Memory). LineServed g.D.Disk first c.args.lane c.args.line old (seat_of c.match-line.ran.0) r) (sym c.without_value.ensures.result) all)
