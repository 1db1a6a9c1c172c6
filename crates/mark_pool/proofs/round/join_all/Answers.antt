use Rattle.std.proofs.Common.{Some, sym, subst, ap, arith}
use Rattle.std.proofs.lemmas.List.Elements.{All-pop}
use Rattle.mark_pool.specs.Seats.{Known, IsSeatOf}
use Rattle.mark_pool.specs.Jobs.{IsBack}
use Rattle.mark_pool.proofs.Seats.{has_then, joined_has}
use Rattle.mark_pool.proofs.round.join_all.Goals as goal

pub backs-preserved : goal.backs-preserved
backs-preserved c =
    let before = c.backs.invariant in
    let joined = c.join.ensures.joined in
    let both = All-pop (IsBack c.args.table.now) c.backs.backs.items c.pop.new.self.items (Some c.in-Some.back) c.in-Some.ensures.items before.backs in
    record {
      own = subst (IsSeatOf c.args.table.now) (sym joined) before.own;
      parts = (let a = ap (λ (s : Known). s.parts) joined in let b = both.1.parts in let d = before.parts in let n = c.in-Some.ensures.len in omega (arith, a, b, d, n));
      more = has_then c.args.seat.now c.backs.seat c.join.new.self before.more (joined_has c.backs.seat c.in-Some.back c.join.new.self joined both.1.tidy);
      backs = both.0;
    }
