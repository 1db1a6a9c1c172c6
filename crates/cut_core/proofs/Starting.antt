-- How a core starts.
use Rattle.std.proofs.Common.{◌≡◌, ℕ, zero, suc, ◌+◌, ◌≤◌, List, [], ◌∷◌, length, get_or, Option, Some, None, refl, sym, subst, ap, ◌∙◌}
use Rattle.std.specs.Prelude.{IfSome}
use Rattle.std.specs.Option.{MatchOption}
use Rattle.std.specs.List.{slice_get}
use Rattle.std.proofs.lemmas.List.{length-map}
use Rattle.std.proofs.lemmas.Option.{slice_get_within}
use Rattle.object_graph.specs.Slots.{below}
use Rattle.disk_trait.specs.Disk.{Only, IsSynced}
use Rattle.disk_trait.specs.declared.disk.Disk.{Ghosts as DiskOf}
use Rattle.page_image.specs.Pages.{PageParts}
use Rattle.redo_journal.specs.Homes.{store_size}
use Rattle.redo_journal.specs.Record.{numbers_of}
use Rattle.redo_journal.proofs.Moments.{if_some_map}
use Rattle.store_model.specs.Worlds.{World, OpenedCut, no_doubt}
use Rattle.store_model.specs.Lawful.{IsLawful, IsDoubtOf, KeepsLostOf, HasFreedSwept}
use Rattle.store_model.proofs.Flats.{get_below}
use Rattle.object_graph.specs.declared.limits.TheConstants.{MOST_PAGES}
use Rattle.std.proofs.Math.Dec.{leb}
use Rattle.std.proofs.lemmas.Bool.{and_parts, leb-true}
use Rattle.store_model.specs.FromImages.{world_of}
use Rattle.image_model.specs.Opening.{StoreParts, page_slots}
use Rattle.image_model.specs.Stores.{IsStore, ArePages}
use Rattle.image_model.specs.Stands.{StandsForWorld, IsStoreOf, world_held}
use Rattle.image_model.proofs.States.{store_stands, opened_is}
use Rattle.transactions.specs.Standing.{AreNumbered, IsReady}
use Rattle.transactions.proofs.Unseen.{stands_same}
use Rattle.cut_core.specs.Reopening.{with_last_cut}
use Rattle.cut_core.specs.Standing.{KeepsWorld, Stands}
use Rattle.cut_core.proofs.Standing.{same_state}
use Rattle.cut_core.specs.declared.store.Store.{Store}
use Rattle.cut_core.proofs.Crashes.{at_some}

number_at : (pages : List PageParts) (page : ℕ) (p : PageParts) → slice_get pages page ≡ Some p → get_or (numbers_of pages) page 0 ≡ p.number
number_at [] page p is = absurd cc
number_at (q ∷ qs) zero p is = (let same : q ≡ p = cc in ap (λ (x : PageParts). x.number) same)
number_at (q ∷ qs) (suc page) p is = number_at qs page p is

pub numbered : (pages : List PageParts) → numbers_of pages ≡ below (length pages) → AreNumbered pages
numbered pages is page p there =
    sym (number_at pages page p there) ∙ (ap (λ ns. get_or ns page 0) is ∙ get_below (length pages) page (slice_get_within pages page p there))

-- ---- the number of the last cut is nothing to the rest

numbered_lawful : (w : World) (number : ℕ) → w.cut ≡ None → w.doubt ≡ no_doubt → IsLawful w → IsLawful (with_last_cut number w)
numbered_lawful w number none calm h = record {
  orderly = h.orderly;
  freed = h.freed;
  lost = subst (λ (cut : Option OpenedCut). MatchOption cut (Unit {0}) (KeepsLostOf (with_last_cut number w))) (sym none) tt;
  swept = subst (λ (cut : Option OpenedCut). MatchOption cut (Unit {0}) (HasFreedSwept (with_last_cut number w))) (sym none) tt;
  doubt = subst (IsDoubtOf (with_last_cut number w)) (sym calm) tt;
}

module _ {D : Type 0} (disks : DiskOf D) where
  -- the store stands for the world that it opens to
  pub start_stands : (old : D) (store : Store D) (held : StoreParts) (number : ℕ) (w : World) → w ≡ with_last_cut number (world_held held) → IsReady store.transactions (world_held held) → store.commits ≡ held.commits → store.broken ≡ None
      → store.journal.pages ≡ length held.pages → held.commits ≡ store.journal.base + store.journal.commits → store_size (length held.pages) ≤ disks.size old → disks.size store.disk ≡ disks.size old
      → disks.content store.disk ≡ disks.content old → IfSome (disks.content old) (λ file. IsStore file held) → IfSome (disks.content old) (IsStoreOf store.journal) → IsSynced (disks.content store.disk) (disks.may_leave store.disk)
      → Stands disks store w
  start_stands old store held number w is ready commits broken pages counted long same told is_store own synced =
      subst (Stands disks store) (sym is) (record {
        lawful = numbered_lawful (world_held held) number refl refl ready.lawful;
        transactions = stands_same store.transactions (world_held held) (with_last_cut number (world_held held)) (record { pages = refl; graph = refl; freed = refl; transactions = refl }) ready.stands;
        commits = commits;
        broken = broken;
        long = subst (λ n. store_size count ≤ n) (sym same) (subst (λ n. store_size n ≤ disks.size old) (sym images) long);
        pages = λ e. pages ∙ sym images;
        counted = λ e. counted;
        disk = subst (λ o. IfSome o (KeepsWorld store.journal (disks.may_leave store.disk) (with_last_cut number (world_held held)))) (sym told)
            (if_some_map (disks.content old) (λ file. IsStore file held) (KeepsWorld store.journal (disks.may_leave store.disk) (with_last_cut number (world_held held))) keeps is_store);
      })
    where
      count : ℕ
      count = (world_held held).pages

      images : count ≡ length held.pages
      images = length-map held.pages (λ (p : PageParts). p.slots)

      keeps : (file : List ℕ) → disks.content old ≡ Some file → IsStore file held → KeepsWorld store.journal (disks.may_leave store.disk) (with_last_cut number (world_held held)) file
      keeps file is_told h =
          let only : Only file (disks.may_leave store.disk) = at_some (λ f. Only f (disks.may_leave store.disk)) (disks.content store.disk) file (told ∙ is_told) synced in
          record {
            stands = λ image left. subst (λ f. StandsForWorld f (with_last_cut number (world_held held))) (sym (only image left))
                (same_state (world_held held) (with_last_cut number (world_held held)) file refl refl refl (subst (StandsForWorld file) (opened_is file held h) (store_stands file held h)));
            synced = λ e. only;
            own = λ e. at_some (IsStoreOf store.journal) (disks.content old) file is_told own;
          }

-- it has no more pages than a store may have
pub few_pages : (w : World) (commits : ℕ) (pages : List PageParts) → w ≡ world_of commits (page_slots pages) → ArePages pages → w.pages ≤ MOST_PAGES
few_pages w commits pages is are =
    let parts = and_parts (leb 1 (length pages)) (leb (length pages) MOST_PAGES) are.count in
    let few : length pages ≤ MOST_PAGES = leb-true (length pages) MOST_PAGES parts.1 in
    subst (λ n. n ≤ MOST_PAGES) (sym (ap (λ (v : World). v.pages) is ∙ length-map pages (λ (p : PageParts). p.slots))) few
