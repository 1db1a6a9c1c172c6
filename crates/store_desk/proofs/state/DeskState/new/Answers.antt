use Rattle.std.proofs.Common.{sym, subst, []}
use Rattle.store_desk.specs.States.{IsKept}
use Rattle.store_desk.proofs.Kept.{kept_from}
use Rattle.store_desk.proofs.state.DeskState.new.Goals as goal

pub invariant_of-result : goal.invariant_of-result
invariant_of-result g c =
    subst (IsKept g.D.Disk c.of-start.result.value c.in-Ok.core.value) (sym c.new-in-Ok.ensures.items)
    (subst (λ core. IsKept g.D.Disk c.of-start.result.value core []) (sym c.in-Ok.ensures.ok)
    (subst (λ start. IsKept g.D.Disk start c.args.core []) (sym c.of-start.ensures) (kept_from g.D.Disk c.args.core g.met.D.Disk.only_now c.stands.ensures.now)))
