use Rattle.std.proofs.Common.{◌≡◌, ◌++◌, refl, sym, subst, ap, ◌∙◌, arith}
use Rattle.std.specs.List.{All}
use Rattle.mark_pool.specs.Seats.{split_off}
use Rattle.mark_pool.specs.Walks.{IsListed}
use Rattle.mark_pool.specs.Jobs.{IsBack}
use Rattle.mark_pool.proofs.round.job_for.Goals as goal

pub returns-clause-ready : goal.returns-clause-ready
returns-clause-ready c =
    let given = c.in_ok-seat.ensures.given in
    let is : c.in_ok-seat.seat ≡ split_off c.args.seat.now = cc in
    let items = c.in_ok-extend_from_slice.ensures.items ∙ ap (λ xs. xs ++ c.args.piece.now) c.in_ok-places.ensures.items in
    record {
      seat = subst (IsBack c.args.table.now) (sym is) (record { own = c.requires.own; parts = refl; tidy = λ page slot h. absurd (omega (arith, h)) });
      places = subst (All (IsListed c.args.cut.now)) (sym items) c.requires.listed;
      quota = c.requires.quota;
    }
