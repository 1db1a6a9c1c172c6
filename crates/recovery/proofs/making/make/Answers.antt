use Rattle.std.proofs.Common.{◌≡◌, ℕ, ◌≤◌, true, Err, List, length, sym, ◌∙◌, ap, subst, arith}
use Rattle.std.proofs.lemmas.Bool.{and_from, le-leb}
use Rattle.page_image.specs.Pages.{PageParts}
use Rattle.redo_journal.proofs.Moments.{if_some_map}
use Rattle.image_model.specs.Super.{is_page_count}
use Rattle.image_model.specs.Opening.{page_slots}
use Rattle.image_model.specs.Stores.{ArePages, IsRooted, IsStore}
use Rattle.image_model.proofs.FreshStores.{fresh_are_pages, fresh_rooted, fresh_opened, fresh_length}
use Rattle.recovery.specs.declared.faults.LayFault.{LayFault}
use Rattle.recovery.proofs.making.make.Goals as goal
use Rattle.object_graph.specs.declared.limits.TheConstants.{MOST_PAGES}

right_count : (pages : ℕ) → 1 ≤ pages → pages ≤ MOST_PAGES → is_page_count pages ≡ true
right_count pages some few = and_from _ _ (le-leb 1 pages some) (le-leb pages MOST_PAGES few)

pub lay-requires-clause-pages : goal.lay-requires-clause-pages
lay-requires-clause-pages g c =
    subst ArePages (sym (c.deref.ensures.value ∙ c.in-Ok.ensures)) (fresh_are_pages c.args.pages (right_count c.args.pages c.if-pages-lt1.false (omega (arith, c.if-pages-from.false, c.from.ensures))))

pub lay-requires-clause-rooted : goal.lay-requires-clause-rooted
lay-requires-clause-rooted g c =
    subst (λ (l : List PageParts). IsRooted (page_slots l)) (sym (c.deref.ensures.value ∙ c.in-Ok.ensures)) (fresh_rooted c.args.pages (omega (arith, c.if-pages-lt1.false)))

pub returns-in-Ok-lay-clause-fresh : goal.returns-in-Ok-lay-clause-fresh
returns-in-Ok-lay-clause-fresh g c =
    if_some_map (g.D.Disk.content c.lay.new.disk) _ _ (λ file told store.
    fresh_opened file c.args.pages (omega (arith, c.if-pages-lt1.false))
    (subst (λ (l : List PageParts). IsStore file (record { commits = 0; pages = l })) (c.deref.ensures.value ∙ c.in-Ok.ensures) store)) c.in-Ok-lay.ensures.store

pub returns-in-Err-TooShort-clause-short : goal.returns-in-Err-TooShort-clause-short
returns-in-Err-TooShort-clause-short g c len need =
    let short = (c.lay.ensures.short c.in-Err-TooShort.len c.in-Err-TooShort.need).0 (c.in-Err-TooShort.is ∙ ap (λ (fault : LayFault). Err fault) c.in-Err-TooShort.field-0-is) in
    let long : length c.deref.result.now ≡ c.args.pages = ap length (c.deref.ensures.value ∙ c.in-Ok.ensures) ∙ fresh_length c.args.pages in
    absurd (omega (arith, short.0, short.1, short.2, long, c.if-len-need.false, c.len-len.ensures, c.size_of-need.ensures))
