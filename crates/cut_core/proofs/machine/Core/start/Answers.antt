use Rattle.std.proofs.Common.{refl, ap, None}
use Rattle.store_model.specs.Worlds.{World}
use Rattle.recovery.specs.Opened.{held_by}
use Rattle.cut_core.proofs.Starting.{numbered, few_pages, start_stands}
use Rattle.cut_core.proofs.Holding.{none_held_yet}
use Rattle.cut_core.proofs.machine.Core.start.Goals as goal

pub new-requires-clause-numbered : goal.new-requires-clause-numbered
new-requires-clause-numbered g c = numbered c.in-Ok.opened.pages.items c.in-Ok.ensures.opened.pages.numbered

pub invariant_of-result : goal.invariant_of-result
invariant_of-result g c =
    let stands =
    start_stands g.D.Disk c.args.disk
    (record { transactions = c.in-Ok-new.transactions; journal = c.in-Ok.opened.journal; disk = c.open_store.new.disk; commits = c.in-Ok.opened.commits; broken = None })
    (held_by c.in-Ok.opened) 0 c.by-told.result.value c.by-told.ensures (c.in-Ok-new.ensures.ready c.in-Ok.opened.commits) refl refl
    c.in-Ok.ensures.opened.journal c.in-Ok.ensures.opened.counted c.in-Ok.ensures.opened.long c.open_store.ensures.size c.open_store.ensures.content
    c.in-Ok.ensures.found.store c.in-Ok.ensures.found.own c.in-Ok.ensures.synced in
    record {
      stands = stands;
      holds = none_held_yet c.by-told.result.value stands.lawful (ap (λ (v : World). v.last_cut) c.by-told.ensures) (ap (λ (v : World). v.cut) c.by-told.ensures)
          (few_pages c.by-told.result.value c.in-Ok.opened.commits c.in-Ok.opened.pages.items c.by-told.ensures c.in-Ok.ensures.opened.pages);
    }
