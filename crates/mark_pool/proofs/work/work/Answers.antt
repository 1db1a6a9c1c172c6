use Rattle.std.proofs.Common.{subst, sym, ◌-◌}
use Rattle.std.specs.List.{All}
use Rattle.std.specs.Vec.{vec_len}
use Rattle.std.proofs.lemmas.List.Elements.{All-take}
use Rattle.mark_pool.specs.Walks.{IsListed}
use Rattle.mark_pool.proofs.Seats.{works_then}
use Rattle.mark_pool.proofs.work.work.Goals as goal

pub visit-requires-clause-listed : goal.visit-requires-clause-listed
visit-requires-clause-listed g c =
    let P = IsListed c.args.cut.now in
    subst (All P) (sym c.pop.ensures.rest) (All-take P (vec_len c.places.places - 1) c.places.places.items c.places.invariant.listed)

pub places-preserved : goal.places-preserved
places-preserved g c = record {
  works = works_then c.args.job.seat c.places.seat c.visit.new.seat c.places.invariant.works c.visit.ensures.works;
  listed = c.visit.ensures.listed;
}
