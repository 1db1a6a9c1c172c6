use Rattle.std.proofs.Common.{IfSome, sym, subst, ⊎_elim, arith, below_more}
use Rattle.mark_pool.specs.Walks.{IsClosedOn, IsOpen}
use Rattle.mark_pool.proofs.Seats.{looks_then}
use Rattle.mark_pool.proofs.listing.list_all.Goals as goal

pub pages-preserved : goal.pages-preserved
pages-preserved c =
    let cut = c.args.cut.now in
    let claims = c.args.seat.now.claims in
    let before = c.pages.invariant in
    let P = IsOpen cut c.args.seat.now.scans in
    let found = subst (λ l. IfSome c.in_ok-found.found (IsOpen cut l)) before.looks.scans c.in_ok-found.ensures.first in
    record {
      looks = looks_then c.args.seat.now c.pages.seat c.list_page.new.seat before.looks c.list_page.ensures.looks;
      listed = c.list_page.ensures.listed;
      first = ⊎_elim (λ e. subst (λ o. IfSome o P) (sym e) before.first) (λ e. subst (λ o. IfSome o P) (sym e) found) c.first_of-first.ensures.one;
      closed = λ d. let none = c.first_of-first.ensures.none d in
          below_more (IsClosedOn cut claims) c.pages.page (before.closed none.0) (subst (λ l. IsClosedOn cut l c.pages.page) before.looks.claims (c.in_ok-found.ensures.closed none.1));
    }

pub returns-clause-closed : goal.returns-clause-closed
returns-clause-closed c d page low = c.pages.invariant.closed d page (omega (arith, low))
