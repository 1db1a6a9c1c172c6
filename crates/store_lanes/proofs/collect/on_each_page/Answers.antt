use Rattle.std.proofs.Common.{subst, [], ◌∷◌, map, true, false, Bool, List, arith}
use Rattle.std.specs.Prelude.{Result, Ok, Err}
use Rattle.object_graph.specs.Slots.{below}
use Rattle.object_graph.specs.declared.calls.Call.{Call}
use Rattle.object_graph.specs.declared.memory.Memory.{Memory}
use Rattle.store_desk.specs.Seats.{AtDesk}
use Rattle.store_lanes.specs.Lanes.{PartRan}
use Rattle.store_lanes.specs.Posts.{seat_of}
use Rattle.store_lanes.specs.Served.{call_on}
use Rattle.store_lanes.proofs.Going.{same_itself, same_trans}
use Rattle.store_lanes.proofs.Making.{part_answered, part_none, part_then, pages_next, pages_stopped}
use Rattle.store_lanes.proofs.collect.on_each_page.Goals as goal

pub pages-init : goal.pages-init
pages-init g c = record {
  ran = part_none g.D.Disk c.args.desk.now.value.start c.args.lane (seat_of c.args.post) (seat_of c.args.post) (λ i. seat_of c.args.post);
  same = same_itself (seat_of c.args.post);
  within = omega arith;
}

pub returns-in-Ok-false-clause-ran : goal.returns-in-Ok-false-clause-ran
returns-in-Ok-false-clause-ran g c =
    let first = c.args.desk.now.value.start in let f = call_on c.args.kind in let page = c.pages.page in
    let old : AtDesk g.row.D.Denot = seat_of c.args.post in let mid : AtDesk g.row.D.Denot = seat_of c.pages.post in let new : AtDesk g.row.D.Denot = seat_of c.step-next.result.0 in
    let one : PartRan g.D.Disk first c.args.lane (f page ∷ []) mid new c.step-next.result.1 =
    subst (λ (call : Call). PartRan g.D.Disk first c.args.lane (call ∷ []) mid new c.step-next.result.1) c.call_on.ensures.is c.step-next.ensures.ran in
    pages_stopped g.D.Disk first c.args.lane old new f page first.world.pages (Ok false) (omega (arith, c.pages-test.true, c.pages-pages.ensures)) tt
    (part_then g.D.Disk first c.args.lane old mid new (map f (below page)) (f page ∷ []) (Ok false) c.pages.invariant.ran
    (part_answered g.D.Disk first c.args.lane mid new (f page ∷ []) c.step-next.result.1 c.in-Ok-false.field-0 false c.in-Ok-false.is c.in-Ok-false.field-0-test one))

pub returns-in-Err-clause-ran : goal.returns-in-Err-clause-ran
returns-in-Err-clause-ran g c =
    let first = c.args.desk.now.value.start in let f = call_on c.args.kind in let page = c.pages.page in
    let old : AtDesk g.row.D.Denot = seat_of c.args.post in let mid : AtDesk g.row.D.Denot = seat_of c.pages.post in let new : AtDesk g.row.D.Denot = seat_of c.step-next.result.0 in
    let one : PartRan g.D.Disk first c.args.lane (f page ∷ []) mid new c.step-next.result.1 =
    subst (λ (call : Call). PartRan g.D.Disk first c.args.lane (call ∷ []) mid new c.step-next.result.1) c.call_on.ensures.is c.step-next.ensures.ran in
    pages_stopped g.D.Disk first c.args.lane old new f page first.world.pages (Err c.in-Err.memory) (omega (arith, c.pages-test.true, c.pages-pages.ensures)) tt
    (part_then g.D.Disk first c.args.lane old mid new (map f (below page)) (f page ∷ []) (Err c.in-Err.memory) c.pages.invariant.ran
    (subst (λ (r : Result Bool Memory). PartRan g.D.Disk first c.args.lane (f page ∷ []) mid new r) c.in-Err.is one))

pub pages-preserved : goal.pages-preserved
pages-preserved g c =
    let first = c.args.desk.now.value.start in let f = call_on c.args.kind in let page = c.pages.page in
    let old : AtDesk g.row.D.Denot = seat_of c.args.post in let mid : AtDesk g.row.D.Denot = seat_of c.pages.post in let new : AtDesk g.row.D.Denot = seat_of c.step-next.result.0 in
    let one : PartRan g.D.Disk first c.args.lane (f page ∷ []) mid new c.step-next.result.1 =
    subst (λ (call : Call). PartRan g.D.Disk first c.args.lane (call ∷ []) mid new c.step-next.result.1) c.call_on.ensures.is c.step-next.ensures.ran in
    let done : PartRan g.D.Disk first c.args.lane (f page ∷ []) mid new (Ok true) =
    part_answered g.D.Disk first c.args.lane mid new (f page ∷ []) c.step-next.result.1 c.in-Ok-true.field-0 true c.in-Ok-true.is c.in-Ok-true.field-0-test one in record {
      ran = subst (λ (calls : List Call). PartRan g.D.Disk first c.args.lane calls old new (Ok true)) (pages_next f page)
          (part_then g.D.Disk first c.args.lane old mid new (map f (below page)) (f page ∷ []) (Ok true) c.pages.invariant.ran done);
      same = same_trans old mid new c.pages.invariant.same c.step-next.ensures.same;
      within = omega (arith, c.pages-test.true);
    }
