use Rattle.std.proofs.Common.{◌≡◌, ℕ, ◌+◌, ◌≤◌, List, length, Some, Result, Err, refl, sym, ◌∙◌, ap, subst, arith, inl}
use Rattle.std.proofs.lemmas.Result.{err_from_is_err_and}
use Rattle.page_image.specs.Pages.{PageParts}
use Rattle.redo_journal.specs.Homes.{store_size}
use Rattle.redo_journal.specs.Journals.{JournalParts, HoldsFor}
use Rattle.redo_journal.specs.Record.{RecordParts}
use Rattle.redo_journal.specs.Replays.{AreLatest, IsReplay}
use Rattle.redo_journal.specs.declared.replay.Replay.{Replay}
use Rattle.redo_journal.specs.declared.faults.AreaFault.{AreaFault}
use Rattle.redo_journal.proofs.HomeMoments.{in_some}
use Rattle.image_model.specs.Super.{super_of}
use Rattle.image_model.specs.Opening.{damaged, page_slots, open_of}
use Rattle.image_model.specs.Stores.{ArePages, IsRooted, HasFaultAt, HasFault}
use Rattle.recovery.specs.declared.faults.OpenFault.{OpenFault}
use Rattle.recovery.specs.declared.faults.OpenFault.TheVariants.{Damaged}
use Rattle.recovery.specs.declared.faults.SuperFault.{SuperFault}
use Rattle.recovery.specs.declared.faults.PagesFault.{PagesFault}
use Rattle.recovery.proofs.Contents.{if_known}
use Rattle.recovery.proofs.ReadPages.{handed}
use Rattle.recovery.proofs.OpenedStores.{IsReadFrom, own_store, is_opened_from, pages_length, are_pages, opens_to, home_wrong, record_wrong, pages_wrong}
use Rattle.recovery.proofs.opening.read_store.Goals as goal

-- a fault is of this place
placed : {T : Type 0} (x : OpenFault) (at : ℕ) → (let r : Result T OpenFault = Err x in r) ≡ Err (Damaged at) → x ≡ Damaged at
placed x at e = cc

pub returns-in-Err-clause-bad : goal.returns-in-Err-clause-bad
returns-in-Err-clause-bad g c at e =
    let is : c.of_super.result ≡ Damaged at = cc e in
    let fault = c.of_super.ensures.damaged at is in
    if_known (λ file. HasFault file (damaged at)) (g.D.Disk.content c.args.disk.now) (λ file told.
    inl (in_some (g.D.Disk.content c.args.disk.now) (λ f. open_of f ≡ Err (damaged at)) file told (c.in-Err.ensures.short at (ap (λ (x : SuperFault). Err x) fault))))

-- the length of the disk
long_enough : (need : ℕ) (size : ℕ) (file : List ℕ) → need ≤ size → length file ≡ size → need ≤ length file
long_enough need size file le is = omega (arith, le, is)

-- what was read of a file so far
read_from : (count area : ℕ) (journal : JournalParts) (replay : Replay) (file : List ℕ) → super_of file ≡ Some (record { pages = count; area = area }) → store_size count ≤ length file
    → journal.pages ≡ count → journal.area ≡ area → (records : List RecordParts) × HoldsFor journal records file × IsReplay records replay → IsReadFrom count area journal replay file
read_from count area journal replay file head long pages_are area_is found = record {
  head = head;
  long = long;
  pages_are = pages_are;
  area_is = area_is;
  records = found.0;
  holds = found.1;
  replayed = found.2;
}

pub returns-in-Err-open_area-clause-bad : goal.returns-in-Err-open_area-clause-bad
returns-in-Err-open_area-clause-bad g c at e =
    let is : c.of_area.result ≡ Damaged at = cc e in
    let fault = c.of_area.ensures.damaged at is in
    if_known (λ file. HasFault file (damaged at)) (g.D.Disk.content c.args.disk.now) (λ file told.
    record_wrong file c.in-Ok.found.pages c.in-Ok.found.area at (in_some (g.D.Disk.content c.args.disk.now) _ file told c.in-Ok.ensures.found)
    (long_enough _ (g.D.Disk.size c.args.disk.now) file c.in-Ok.ensures.long (g.met.D.Disk.told_whole c.args.disk.now file told))
    (in_some (g.D.Disk.content c.read_super.new.disk) _ file (c.read_super.ensures.reads.content ∙ told) (c.in-Err-open_area.ensures.bad at (ap (λ (x : AreaFault). Err x) fault))))

pub returns-in_err-pages-clause-bad : goal.returns-in_err-pages-clause-bad
returns-in_err-pages-clause-bad g c at e =
    let p = err_from_is_err_and c.from_residual.result c.from_residual.ensures.1 in
    let is : c.in_err-pages.field-0.0 ≡ Damaged at = handed c.from_residual.result p.0 c.in_err-pages.field-0.0 at p.1 p.2 e in
    if_known (λ file. HasFault file (damaged at)) (g.D.Disk.content c.args.disk.now) (λ file told.
    let now : g.D.Disk.content c.read_super.new.disk ≡ Some file = c.read_super.ensures.reads.content ∙ told in
    let after : g.D.Disk.content c.open_area.new.disk ≡ Some file = c.open_area.ensures.reads.content ∙ now in
    let found = in_some (g.D.Disk.content c.read_super.new.disk) _ file now c.in-Ok-open_area.ensures.found in
    let h = read_from c.in-Ok.found.pages c.in-Ok.found.area c.in-Ok-open_area.opened.0 c.in-Ok-open_area.opened.1 file (in_some (g.D.Disk.content c.args.disk.now) _ file told c.in-Ok.ensures.found)
    (long_enough _ (g.D.Disk.size c.args.disk.now) file c.in-Ok.ensures.long (g.met.D.Disk.told_whole c.args.disk.now file told)) c.in-Ok-open_area.ensures.asked.1 c.in-Ok-open_area.ensures.asked.0 found in
    home_wrong c.in-Ok.found.pages c.in-Ok.found.area c.in-Ok-open_area.opened.0 c.in-Ok-open_area.opened.1 file h c.deref.result.now at c.deref.ensures.value
    (in_some (g.D.Disk.content c.open_area.new.disk) _ file after (c.in_err-pages.ensures.bad at (ap (λ (x : OpenFault). Err x) is))))

pub check_pages-requires : goal.check_pages-requires
check_pages-requires g c =
    subst ArePages (sym c.deref-2.ensures.value) (are_pages c.in_ok-pages.pages.items c.in-Ok.found.pages c.in-Ok.ensures.pages c.in_ok-pages.ensures.numbered)

pub returns-in-Err-check_pages-clause-bad : goal.returns-in-Err-check_pages-clause-bad
returns-in-Err-check_pages-clause-bad g c at e =
    let is : c.of_pages.result ≡ Damaged at = cc e in
    let fault = c.of_pages.ensures.damaged at is in
    if_known (λ file. HasFault file (damaged at)) (g.D.Disk.content c.args.disk.now) (λ file told.
    let now : g.D.Disk.content c.read_super.new.disk ≡ Some file = c.read_super.ensures.reads.content ∙ told in
    let after : g.D.Disk.content c.open_area.new.disk ≡ Some file = c.open_area.ensures.reads.content ∙ now in
    let found = in_some (g.D.Disk.content c.read_super.new.disk) _ file now c.in-Ok-open_area.ensures.found in
    let h = read_from c.in-Ok.found.pages c.in-Ok.found.area c.in-Ok-open_area.opened.0 c.in-Ok-open_area.opened.1 file (in_some (g.D.Disk.content c.args.disk.now) _ file told c.in-Ok.ensures.found)
    (long_enough _ (g.D.Disk.size c.args.disk.now) file c.in-Ok.ensures.long (g.met.D.Disk.told_whole c.args.disk.now file told)) c.in-Ok-open_area.ensures.asked.1 c.in-Ok-open_area.ensures.asked.0 found in
    pages_wrong file (record { commits = c.in-Ok-open_area.opened.0.base + c.in-Ok-open_area.opened.0.commits; pages = c.in_ok-pages.pages.items }) at
    (opens_to c.in-Ok.found.pages c.in-Ok.found.area c.in-Ok-open_area.opened.0 c.in-Ok-open_area.opened.1 file h c.deref.result.now c.in_ok-pages.pages.items (c.in-Ok-open_area.opened.0.base + c.in-Ok-open_area.opened.0.commits) c.deref.ensures.value
    (in_some (g.D.Disk.content c.open_area.new.disk) _ file after c.in_ok-pages.ensures.read) refl)
    (subst (λ (l : List PageParts). HasFaultAt (page_slots l) at) c.deref-2.ensures.value (c.in-Err-check_pages.ensures.damaged at (ap (λ (x : PagesFault). Err x) fault))))

pub returns-clause-opened : goal.returns-clause-opened
returns-clause-opened g c =
    let numbered = c.in_ok-pages.ensures.numbered in
    let asked = c.in-Ok-open_area.ensures.asked in
    record {
      pages = are_pages c.in_ok-pages.pages.items c.in-Ok.found.pages c.in-Ok.ensures.pages numbered;
      rooted = subst (λ (l : List PageParts). IsRooted (page_slots l)) c.deref-2.ensures.value c.in-Ok-check_pages.ensures.rooted;
      journal = asked.1 ∙ sym (pages_length c.in_ok-pages.pages.items c.in-Ok.found.pages numbered);
      staged = asked.2;
      counted = ap (λ (n : ℕ). n + c.commits.result) c.base.ensures ∙ ap (λ (n : ℕ). c.in-Ok-open_area.opened.0.base + n) c.commits.ensures.value;
      long = omega (arith, pages_length c.in_ok-pages.pages.items c.in-Ok.found.pages numbered, c.in-Ok.ensures.long);
    }

pub returns-clause-found : goal.returns-clause-found
returns-clause-found g c =
    is_opened_from (g.D.Disk.content c.args.disk.now) _ (λ file told.
    let now : g.D.Disk.content c.read_super.new.disk ≡ Some file = c.read_super.ensures.reads.content ∙ told in
    let after : g.D.Disk.content c.open_area.new.disk ≡ Some file = c.open_area.ensures.reads.content ∙ now in
    let found = in_some (g.D.Disk.content c.read_super.new.disk) _ file now c.in-Ok-open_area.ensures.found in
    let h = read_from c.in-Ok.found.pages c.in-Ok.found.area c.in-Ok-open_area.opened.0 c.in-Ok-open_area.opened.1 file (in_some (g.D.Disk.content c.args.disk.now) _ file told c.in-Ok.ensures.found)
    (long_enough _ (g.D.Disk.size c.args.disk.now) file c.in-Ok.ensures.long (g.met.D.Disk.told_whole c.args.disk.now file told)) c.in-Ok-open_area.ensures.asked.1 c.in-Ok-open_area.ensures.asked.0 found in (
      record {
        opens = opens_to c.in-Ok.found.pages c.in-Ok.found.area c.in-Ok-open_area.opened.0 c.in-Ok-open_area.opened.1 file h c.deref.result.now c.in_ok-pages.pages.items _ c.deref.ensures.value
            (in_some (g.D.Disk.content c.open_area.new.disk) _ file after c.in_ok-pages.ensures.read) (ap (λ (n : ℕ). n + c.commits.result) c.base.ensures ∙ ap (λ (n : ℕ). c.in-Ok-open_area.opened.0.base + n) c.commits.ensures.value);
        rooted = subst (λ (l : List PageParts). IsRooted (page_slots l)) c.deref-2.ensures.value c.in-Ok-check_pages.ensures.rooted;
      },
      own_store c.in-Ok.found.pages c.in-Ok.found.area c.in-Ok-open_area.opened.0 c.in-Ok-open_area.opened.1 file h,
    ))

pub read_pages-requires-clause-images : goal.read_pages-requires-clause-images
read_pages-requires-clause-images g c =
    subst (λ (l : List PageParts). AreLatest c.in-Ok.found.pages l) (sym c.deref.ensures.value) (subst (λ (n : ℕ). AreLatest n c.in-Ok-open_area.opened.1.images.items) c.in-Ok-open_area.ensures.asked.1 c.in-Ok-open_area.ensures.replay.images)
