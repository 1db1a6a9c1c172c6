use Rattle.std.proofs.Common.{◌≡◌, refl, sym, ap, ◌∙◌, None, Err}
use Rattle.std.specs.Option.{is_some}
use Rattle.std.proofs.lemmas.List.{length-map}
use Rattle.page_image.specs.Pages.{PageParts}
use Rattle.image_model.specs.Opening.{not_a_store, damaged, page_slots}
use Rattle.recovery.specs.Opened.{held_by}
use Rattle.recovery.specs.declared.faults.OpenFault.TheVariants as faulty
use Rattle.cut_core.proofs.Staging.{none_of}
use Rattle.cut_core.proofs.Starting.{numbered}
use Rattle.cut_core.proofs.Reopening.{by_what_is_found}
use Rattle.cut_core.proofs.Again.{finds_told, pages_told, no_fault_told, found_no_cut, taken_stands, but_of_the_disk}
use Rattle.cut_core.proofs.store.Store.open_again.Goals as goal

pub returns-in-Err-clause-none : goal.returns-in-Err-clause-none
returns-in-Err-clause-none g c = λ is.
    no_fault_told g.D.Disk g.met.D.Disk.honest c.args.self.now c.args.told.now.value not_a_store c.requires (c.in-Err.ensures.none (let e : c.in-Err.fault ≡ faulty.NotAStore = cc in ap Err e))

pub returns-in-Err-clause-bad : goal.returns-in-Err-clause-bad
returns-in-Err-clause-bad g c = λ at is.
    let e : c.in-Err.fault ≡ faulty.Damaged at = cc in
    no_fault_told g.D.Disk g.met.D.Disk.honest c.args.self.now c.args.told.now.value (damaged at) c.requires (c.in-Err.ensures.bad at (ap Err e))

pub returns-then-len-pages-clause-none : goal.returns-then-len-pages-clause-none
returns-then-len-pages-clause-none g c = λ is.
    none_of (g.D.Disk.content c.args.self.now.disk) (λ file told.
    let same = pages_told g.D.Disk g.met.D.Disk.honest c.args.self.now c.args.told.now.value (held_by c.in-Ok.found) file c.requires told c.in-Ok.ensures.found.store in
    c.if-len-pages.true (c.len.ensures ∙ (c.in-Ok.found.pages.ok.0 ∙ (same ∙ sym c.pages.ensures))))

pub by-next-requires : goal.by-next-requires
by-next-requires g c =
    by_what_is_found _ c.args.told.now.value (held_by c.in-Ok.found)
    (finds_told g.D.Disk g.met.D.Disk.honest c.args.self.now c.args.told.now.value (held_by c.in-Ok.found) c.open_store.new.disk c.requires
    c.open_store.ensures.content c.in-Ok.ensures.found.store)

pub new-requires-clause-numbered : goal.new-requires-clause-numbered
new-requires-clause-numbered g c = numbered c.in-Ok.found.pages.items c.in-Ok.ensures.opened.pages.numbered

pub returns-in-Ok-new-clause-taken : goal.returns-in-Ok-new-clause-taken
returns-in-Ok-new-clause-taken g c =
    taken_stands g.D.Disk c.args.self.now
    (record { transactions = c.in-Ok-new.transactions; journal = c.in-Ok.found.journal; disk = c.open_store.new.disk; commits = c.in-Ok.found.commits; broken = None })
    (held_by c.in-Ok.found) c.args.told.now.value c.by-next.result.value c.by-next.ensures c.requires (c.in-Ok-new.ensures.ready c.in-Ok.found.commits) refl refl
    c.in-Ok.ensures.opened.journal (sym c.in-Ok.found.pages.ok.0 ∙ (sym c.len.ensures ∙ (c.if-len-pages.false ∙ (c.pages.ensures ∙ c.requires.transactions.frames.count)))) c.in-Ok.ensures.opened.counted c.in-Ok.ensures.opened.long c.open_store.ensures.size c.open_store.ensures.content
    c.in-Ok.ensures.found.store c.in-Ok.ensures.found.own c.in-Ok.ensures.synced

pub returns-in-Ok-new-clause-anew : goal.returns-in-Ok-new-clause-anew
returns-in-Ok-new-clause-anew g c = λ silent. record {
  images = page_slots c.in-Ok.found.pages.items;
  pages = length-map c.in-Ok.found.pages.items (λ (p : PageParts). p.slots) ∙ (sym c.in-Ok.found.pages.ok.0 ∙ (sym c.len.ensures ∙ (c.if-len-pages.false ∙ (c.pages.ensures ∙ c.requires.transactions.frames.count))));
  is = c.by-next.ensures.other (ap is_some (c.open_store.ensures.content ∙ silent));
}

pub returns-in-Ok-new-clause-cut : goal.returns-in-Ok-new-clause-cut
returns-in-Ok-new-clause-cut g c =
    found_no_cut _ c.args.told.now.value (held_by c.in-Ok.found) c.by-next.result.value c.by-next.ensures
    (sym c.in-Ok.found.pages.ok.0 ∙ (sym c.len.ensures ∙ (c.if-len-pages.false ∙ (c.pages.ensures ∙ c.requires.transactions.frames.count))))

pub returns-in-Err-clause-calm : goal.returns-in-Err-clause-calm
returns-in-Err-clause-calm g c = λ other.
    but_of_the_disk c.in-Err.fault _ (λ is. c.in-Err.ensures.calm_none (ap Err is)) (λ at is. c.in-Err.ensures.calm_bad at (ap Err is)) (λ is. c.in-Err.ensures.lack (ap Err is)) (λ is. other (ap Err is))
