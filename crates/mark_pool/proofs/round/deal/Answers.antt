use Rattle.std.proofs.Common.{[], ◌∷◌, length, sym, subst, ap, ◌∙◌, arith, length-append}
use Rattle.std.specs.List.{All}
use Rattle.std.proofs.lemmas.List.Elements.{All-push, All-drop}
use Rattle.mark_pool.specs.Seats.{Known, IsSeatOf}
use Rattle.mark_pool.specs.Walks.{IsListed}
use Rattle.mark_pool.specs.Jobs.{IsReadyJob}
use Rattle.mark_pool.proofs.round.deal.Goals as goal

pub jobs-preserved : goal.jobs-preserved
jobs-preserved c =
    let before = c.jobs.invariant in
    let kept = c.in_ok-job_for.ensures.kept in
    let items = c.in_ok-push.ensures.items in
    let P = IsReadyJob c.args.table.now c.args.cut.now in
    record {
      own = subst (IsSeatOf c.args.table.now) (sym kept) before.own;
      same = record {
        claims = ap (λ (s : Known). s.claims) kept ∙ before.same.claims;
        takes = ap (λ (s : Known). s.takes) kept ∙ before.same.takes;
        scans = ap (λ (s : Known). s.scans) kept ∙ before.same.scans;
      };
      parts = (let a = ap (λ (s : Known). s.parts) kept in let b = before.parts in let d = c.requires.parts in omega (arith, a, b, d));
      count = (let a = ap (λ (js : _). length js) items in let b = before.count in let n = length-append c.jobs.jobs.items (c.in_ok-job_for.field-0 ∷ []) in omega (arith, a, b, n));
      ready = subst (All P) (sym items) (All-push P c.jobs.jobs.items c.in_ok-job_for.field-0 before.ready c.in_ok-job_for.ensures.ready);
      rest = subst (All (IsListed c.args.cut.now)) (sym c.split_at.ensures.back) (All-drop (IsListed c.args.cut.now) _ c.jobs.rest.now before.rest);
    }
