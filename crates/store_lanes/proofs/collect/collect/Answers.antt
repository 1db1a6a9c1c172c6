use Rattle.std.proofs.Common.{◌++◌, true, false, Bool, List, subst}
use Rattle.std.specs.Prelude.{Result, Ok, Err}
use Rattle.object_graph.specs.declared.calls.Call.{Call}
use Rattle.object_graph.specs.declared.memory.Memory.{Memory}
use Rattle.store_desk.specs.Seats.{AtDesk}
use Rattle.store_lanes.specs.Lanes.{PartRan}
use Rattle.store_lanes.specs.Posts.{seat_of}
use Rattle.store_lanes.proofs.Making.{part_answered, part_then, part_stopped, opening, closing, sweeping, collection_parts}
use Rattle.store_lanes.proofs.collect.collect.Goals as goal

pub returns-in-Ok-false-clause-ran : goal.returns-in-Ok-false-clause-ran
returns-in-Ok-false-clause-ran g c =
    let first = c.args.desk.now.value.start in let pages = first.world.pages in let old : AtDesk g.row.D.Denot = seat_of c.args.post in let copied : AtDesk g.row.D.Denot = seat_of c.open_and_copy-post.result.0 in
    subst (λ (calls : List Call). PartRan g.D.Disk first c.args.lane calls old copied (Ok false)) (collection_parts pages c.args.workers)
    (part_stopped g.D.Disk first c.args.lane old copied (opening pages) (closing c.args.workers ++ sweeping pages) (Ok false) tt
    (part_answered g.D.Disk first c.args.lane old copied (opening pages) c.open_and_copy-post.result.1 c.in-Ok-false.field-0 false c.in-Ok-false.is c.in-Ok-false.field-0-test c.open_and_copy-post.ensures.ran))

pub returns-in-Err-clause-ran : goal.returns-in-Err-clause-ran
returns-in-Err-clause-ran g c =
    let first = c.args.desk.now.value.start in let pages = first.world.pages in let old : AtDesk g.row.D.Denot = seat_of c.args.post in let copied : AtDesk g.row.D.Denot = seat_of c.open_and_copy-post.result.0 in
    subst (λ (calls : List Call). PartRan g.D.Disk first c.args.lane calls old copied (Err c.in-Err.memory)) (collection_parts pages c.args.workers)
    (part_stopped g.D.Disk first c.args.lane old copied (opening pages) (closing c.args.workers ++ sweeping pages) (Err c.in-Err.memory) tt
    (subst (λ (r : Result Bool Memory). PartRan g.D.Disk first c.args.lane (opening pages) old copied r) c.in-Err.is c.open_and_copy-post.ensures.ran))

pub returns-in-Ok-false-marked-clause-ran : goal.returns-in-Ok-false-marked-clause-ran
returns-in-Ok-false-marked-clause-ran g c =
    let first = c.args.desk.now.value.start in let pages = first.world.pages in let old : AtDesk g.row.D.Denot = seat_of c.args.post in let copied : AtDesk g.row.D.Denot = seat_of c.open_and_copy-post.result.0 in let marked : AtDesk g.row.D.Denot = c.close_and_mark-marked.new.seat in
    subst (λ (calls : List Call). PartRan g.D.Disk first c.args.lane calls old marked (Ok false)) (collection_parts pages c.args.workers)
    (part_then g.D.Disk first c.args.lane old copied marked (opening pages) (closing c.args.workers ++ sweeping pages) (Ok false)
    (part_answered g.D.Disk first c.args.lane old copied (opening pages) c.open_and_copy-post.result.1 c.in-Ok-true.field-0 true c.in-Ok-true.is c.in-Ok-true.field-0-test c.open_and_copy-post.ensures.ran)
    (part_stopped g.D.Disk first c.args.lane copied marked (closing c.args.workers) (sweeping pages) (Ok false) tt
    (part_answered g.D.Disk first c.args.lane copied marked (closing c.args.workers) c.close_and_mark-marked.result c.in-Ok-false-marked.field-0 false c.in-Ok-false-marked.is c.in-Ok-false-marked.field-0-test
    (subst (λ (s : AtDesk g.row.D.Denot). PartRan g.D.Disk first c.args.lane (closing c.args.workers) s marked c.close_and_mark-marked.result) c.seated-seat.ensures c.close_and_mark-marked.ensures.ran))))

pub returns-in-Err-marked-clause-ran : goal.returns-in-Err-marked-clause-ran
returns-in-Err-marked-clause-ran g c =
    let first = c.args.desk.now.value.start in let pages = first.world.pages in let old : AtDesk g.row.D.Denot = seat_of c.args.post in let copied : AtDesk g.row.D.Denot = seat_of c.open_and_copy-post.result.0 in let marked : AtDesk g.row.D.Denot = c.close_and_mark-marked.new.seat in
    subst (λ (calls : List Call). PartRan g.D.Disk first c.args.lane calls old marked (Err c.in-Err-marked.memory)) (collection_parts pages c.args.workers)
    (part_then g.D.Disk first c.args.lane old copied marked (opening pages) (closing c.args.workers ++ sweeping pages) (Err c.in-Err-marked.memory)
    (part_answered g.D.Disk first c.args.lane old copied (opening pages) c.open_and_copy-post.result.1 c.in-Ok-true.field-0 true c.in-Ok-true.is c.in-Ok-true.field-0-test c.open_and_copy-post.ensures.ran)
    (part_stopped g.D.Disk first c.args.lane copied marked (closing c.args.workers) (sweeping pages) (Err c.in-Err-marked.memory) tt
    (subst (λ (r : Result Bool Memory). PartRan g.D.Disk first c.args.lane (closing c.args.workers) copied marked r) c.in-Err-marked.is
    (subst (λ (s : AtDesk g.row.D.Denot). PartRan g.D.Disk first c.args.lane (closing c.args.workers) s marked c.close_and_mark-marked.result) c.seated-seat.ensures c.close_and_mark-marked.ensures.ran))))

pub returns-in-Ok-true-marked-clause-ran : goal.returns-in-Ok-true-marked-clause-ran
returns-in-Ok-true-marked-clause-ran g c =
    let first = c.args.desk.now.value.start in let pages = first.world.pages in let old : AtDesk g.row.D.Denot = seat_of c.args.post in let copied : AtDesk g.row.D.Denot = seat_of c.open_and_copy-post.result.0 in let marked : AtDesk g.row.D.Denot = c.close_and_mark-marked.new.seat in let swept : AtDesk g.row.D.Denot = seat_of c.sweep_and_end.result.0 in
    subst (λ (calls : List Call). PartRan g.D.Disk first c.args.lane calls old swept c.sweep_and_end.result.1) (collection_parts pages c.args.workers)
    (part_then g.D.Disk first c.args.lane old copied swept (opening pages) (closing c.args.workers ++ sweeping pages) c.sweep_and_end.result.1
    (part_answered g.D.Disk first c.args.lane old copied (opening pages) c.open_and_copy-post.result.1 c.in-Ok-true.field-0 true c.in-Ok-true.is c.in-Ok-true.field-0-test c.open_and_copy-post.ensures.ran)
    (part_then g.D.Disk first c.args.lane copied marked swept (closing c.args.workers) (sweeping pages) c.sweep_and_end.result.1
    (part_answered g.D.Disk first c.args.lane copied marked (closing c.args.workers) c.close_and_mark-marked.result c.in-Ok-true-marked.field-0 true c.in-Ok-true-marked.is c.in-Ok-true-marked.field-0-test
    (subst (λ (s : AtDesk g.row.D.Denot). PartRan g.D.Disk first c.args.lane (closing c.args.workers) s marked c.close_and_mark-marked.result) c.seated-seat.ensures c.close_and_mark-marked.ensures.ran))
    c.sweep_and_end.ensures.ran))
