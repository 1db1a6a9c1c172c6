-- What a reopening leaves stands for the world after it.
use Rattle.std.proofs.Common.{◌≡◌, ◌≢◌, ◌⊎◌, ⊎_elim, ℕ, ◌+◌, ◌≤◌, ◌<◌, Bool, true, false, List, [], length, get_or, Option, Some, None, refl, sym, subst, ap, ◌∙◌}
use Rattle.std.specs.Prelude.{IfSome}
use Rattle.std.specs.Option.{is_some, MatchOption}
use Rattle.object_graph.specs.SlotParts.{SlotParts}
use Rattle.object_graph.specs.declared.calls.Call.TheVariants.{Reopen}
use Rattle.object_graph.specs.declared.calls.Reply.TheVariants.{Reopened, Refused}
use Rattle.object_graph.specs.declared.calls.Refusal.TheVariants.{DiskFault}
use Rattle.disk_trait.specs.Disk.{Only, IsSynced}
use Rattle.disk_trait.specs.declared.disk.Disk.{Ghosts as DiskOf}
use Rattle.page_image.specs.Pages.{PageParts}
use Rattle.redo_journal.specs.Homes.{store_size}
use Rattle.redo_journal.proofs.Moments.{if_some_map}
use Rattle.store_model.specs.Worlds.{World, nothing, faults, found, fields_of}
use Rattle.store_model.specs.FromImages.{AreImages}
use Rattle.store_model.specs.Images.{shown, all_shown}
use Rattle.store_model.specs.Replies.{AllowsReply, MayReopen}
use Rattle.store_model.specs.Steps.{next, reopened}
use Rattle.store_model.specs.Lawful.{IsLawful, HaveFields}
use Rattle.store_model.proofs.Fields.{event_keeps_fields}
use Rattle.store_model.proofs.Flats.{length-map_below}
use Rattle.store_model.proofs.Lawfulness.{event_is_lawful}
use Rattle.store_model.proofs.OpenedWorlds.{opened_shows}
use Rattle.store_model.proofs.ShownWorlds.{page_shown, shows_images}
use Rattle.store_model.specs.States.{State}
use Rattle.store_model.proofs.FoundStates.{states_still}
use Rattle.image_model.specs.Opening.{StoreParts, store_images}
use Rattle.image_model.specs.Stores.{IsStore}
use Rattle.image_model.specs.Stands.{StandsForWorld, IsStoreOf, world_held, all_shown_by}
use Rattle.image_model.proofs.Doubts.{stands_as_before}
use Rattle.image_model.proofs.States.{lawful_state}
use Rattle.transactions.specs.Standing.{TransactionsParts, IsReady, AreTransactionsOf}
use Rattle.transactions.proofs.Unseen.{stands_same, stands_idle}
use Rattle.object_graph.specs.declared.limits.TheConstants.{MOST_PAGES}
use Rattle.cut_model.specs.Standing.{IsCutStanding}
use Rattle.cut_core.specs.Holding.{Holds, IsHeld, beside_of}
use Rattle.cut_core.specs.declared.held.Held.{Held}
use Rattle.cut_core.proofs.Holding.{refused_holds}
use Rattle.cut_core.specs.Reopening.{HasNoCut, FindsNames, IsReopened, IsFound, Happens}
use Rattle.cut_core.specs.Standing.{KeepsWorld, Stands}
use Rattle.cut_core.specs.declared.store.Store.{Store}
use Rattle.image_model.specs.Opening.{Fault}
use Rattle.image_model.specs.Stores.{HasFault}
use Rattle.std.proofs.lemmas.List.{length-map}
use Rattle.cut_core.specs.Calls.{event_of}
use Rattle.cut_core.specs.Reopening.{refusal_of}
use Rattle.recovery.specs.declared.faults.OpenFault.{OpenFault}
use Rattle.recovery.specs.declared.faults.OpenFault.TheVariants as faulty
use Rattle.cut_core.proofs.Crashes.{at_some}
use Rattle.cut_core.proofs.Staging.{none_of, entry_there}
use Rattle.cut_core.proofs.StoreFaults.{store_has_none}
use Rattle.cut_core.proofs.Starting.{start_stands}

-- ---- the same world, broken

abbrev pub with_break : World → ℕ → World
with_break w count = record w { broken = Some count }

still_broken : (s : TransactionsParts) (w : World) (count : ℕ) → AreTransactionsOf s w → AreTransactionsOf s (with_break w count)
still_broken s w count h = stands_same s w (with_break w count) (record { pages = refl; graph = refl; freed = refl; transactions = refl }) h

pub file_still : (w : World) (count : ℕ) (file : List ℕ) → StandsForWorld file w → StandsForWorld file (with_break w count)
file_still w count file h = record { state = h.state; found = states_still w count h.state h.found; stands = h.stands }

-- ---- what a store that is opened again shows

same_held : (file : List ℕ) (a b : StoreParts) → IsStore file a → IsStore file b → a ≡ b
same_held file a b ha hb = let e = sym ha.opens ∙ hb.opens in cc

pub finds_again : (w : World) (file : List ℕ) (held : StoreParts) → IsStore file held → StandsForWorld file w → FindsNames w held
finds_again w file held h s =
    let f = s.found in
    let same : s.stands.content ≡ held = same_held file s.stands.content held s.stands.store h in
    let count : f.commits_found ≡ held.commits = sym (ap (λ (t : State). t.commits) f.is) ∙ (sym s.stands.commits ∙ ap (λ (p : StoreParts). p.commits) same) in
    record {
      names = f.names_found;
      may = subst (λ n. MayReopen w w.doubt n f.names_found) count f.may;
      shows = ap store_images (sym same) ∙ (s.stands.shows ∙ (ap (all_shown_by w.pages) f.is ∙ ap (λ n. all_shown (reopened w n f.names_found)) count));
    }

-- ---- the worlds after

module _ (w : World) (held : StoreParts) (f : FindsNames w held) (lawful : IsLawful w) (fields : HaveFields (fields_of w) w.graph) where
  abbrev pub after_world : World
  after_world = reopened w held.commits f.names

  pub allowed : AllowsReply w Reopen (found f.names) (Reopened held.commits)
  allowed = (refl, f.may)

  pub lawful_after : IsLawful after_world
  lawful_after = event_is_lawful w Reopen (found f.names) (Reopened held.commits) lawful allowed

  fields_after : HaveFields (fields_of after_world) after_world.graph
  fields_after = event_keeps_fields w (record { entry = record { lane = 1; call = Reopen; reply = Reopened held.commits }; note = found f.names }) fields

  are_images : AreImages (store_images held)
  are_images = subst AreImages (sym f.shows) (shows_images after_world lawful_after.orderly fields_after)

  pub pages_after : length (store_images held) ≡ w.pages
  pages_after = ap length f.shows ∙ length-map_below (shown after_world) w.pages

  shown_after : (page : ℕ) → page < length (store_images held) → shown (world_held held) page ≡ shown after_world page
  shown_after page low =
      sym (page_shown (world_held held) page low)
      ∙ (ap (λ (images : List (List SlotParts)). get_or images page []) (opened_shows held.commits (store_images held) are_images ∙ f.shows)
      ∙ page_shown after_world page (subst (λ n. page < n) pages_after low))

  pub transactions_after : (s : TransactionsParts) → AreTransactionsOf s (world_held held) → AreTransactionsOf s after_world
  transactions_after s h =
      stands_idle s (world_held held) after_world (record { pages = sym pages_after; fields = fields_after; idle = refl; idle_too = refl; each = λ page low. sym (shown_after page low) }) h

  pub file_after : (file : List ℕ) → IsStore file held → StandsForWorld file after_world
  file_after file h = stands_as_before file after_world (record { content = held; store = h; shows = f.shows; commits = refl; state = lawful_state after_world lawful_after })

-- ---- the store after

module _ {D : Type 0} (disks : DiskOf D) where
  -- a disk at which was only looked
  pub looked_at : (old : Store D) (disk : D) (w : World) → Stands disks old w → disks.content disk ≡ disks.content old.disk → ((c : List ℕ) → disks.may_leave disk c → disks.may_leave old.disk c) → disks.size disk ≡ disks.size old.disk
      → Stands disks (record old { disk = disk }) w
  looked_at old disk w h told fewer long = record {
    lawful = h.lawful;
    transactions = h.transactions;
    commits = h.commits;
    broken = h.broken;
    long = subst (λ n. store_size w.pages ≤ n) (sym long) h.long;
    pages = h.pages;
    counted = h.counted;
    disk = subst (λ o. IfSome o (KeepsWorld old.journal (disks.may_leave disk) w)) (sym told)
        (if_some_map (disks.content old.disk) (KeepsWorld old.journal (disks.may_leave old.disk) w) (KeepsWorld old.journal (disks.may_leave disk) w)
        (λ file is k. record { stands = λ image left. k.stands image (fewer image left); synced = λ e c left. k.synced e c (fewer c left); own = k.own }) h.disk);
  }

  -- a fault of the disk
  pub breaks : (old : Store D) (count : ℕ) (w : World) → Stands disks old w → Stands disks (record old { broken = Some count }) (with_break w count)
  breaks old count w h = record {
    lawful = event_is_lawful w Reopen (faults count) (Refused DiskFault) h.lawful refl;
    transactions = still_broken old.transactions w count h.transactions;
    commits = h.commits;
    broken = refl;
    long = h.long;
    pages = λ e. absurd cc;
    counted = λ e. absurd cc;
    disk = if_some_map (disks.content old.disk) (KeepsWorld old.journal (disks.may_leave old.disk) w) (KeepsWorld old.journal (disks.may_leave old.disk) (with_break w count))
        (λ file is k. record { stands = λ image left. file_still w count image (k.stands image left); synced = λ e. absurd cc; own = λ e. absurd cc }) h.disk;
  }

  -- the store as it was opened again, on a disk that tells
  pub stands_again : (old store : Store D) (held : StoreParts) (w : World) (f : FindsNames w held) → Stands disks old w → IsReady store.transactions (world_held held) → store.commits ≡ held.commits → store.broken ≡ None
      → store.journal.pages ≡ length held.pages → length held.pages ≡ w.pages → held.commits ≡ store.journal.base + store.journal.commits → disks.size store.disk ≡ disks.size old.disk
      → disks.content store.disk ≡ disks.content old.disk → IfSome (disks.content old.disk) (λ file. IsStore file held) → IfSome (disks.content old.disk) (IsStoreOf store.journal) → IsSynced (disks.content store.disk) (disks.may_leave store.disk)
      → Stands disks store (reopened w held.commits f.names)
  stands_again old store held w f h ready commits sound pages count counted long told is_store own synced =
      let fields = h.transactions.fields in
      record {
        lawful = lawful_after w held f h.lawful fields;
        transactions = transactions_after w held f h.lawful fields store.transactions ready.stands;
        commits = commits;
        broken = sound;
        long = subst (λ n. store_size w.pages ≤ n) (sym long) h.long;
        pages = λ e. pages ∙ count;
        counted = λ e. counted;
        disk = subst (λ o. IfSome o (KeepsWorld store.journal (disks.may_leave store.disk) (reopened w held.commits f.names))) (sym told)
            (if_some_map (disks.content old.disk) (λ file. IsStore file held) (KeepsWorld store.journal (disks.may_leave store.disk) (reopened w held.commits f.names)) (λ file is s.
            let only : Only file (disks.may_leave store.disk) = at_some (λ c. Only c (disks.may_leave store.disk)) (disks.content store.disk) file (told ∙ is) synced in
            record {
              stands = λ image left. subst (λ c. StandsForWorld c (reopened w held.commits f.names)) (sym (only image left)) (file_after w held f h.lawful fields file s);
              synced = λ e. only;
              own = λ e. at_some (IsStoreOf store.journal) (disks.content old.disk) file is own;
            }) is_store);
      }

  -- what the disk tells is a store, which stands for the world
  pub told_stands : (honest : (disk : D) (c : List ℕ) → disks.content disk ≡ Some c → disks.may_leave disk c) (store : Store D) (w : World) (file : List ℕ) → Stands disks store w → disks.content store.disk ≡ Some file
      → StandsForWorld file w
  told_stands honest store w file h told = (at_some (KeepsWorld store.journal (disks.may_leave store.disk) w) (disks.content store.disk) file told h.disk).stands file (honest store.disk file told)

  -- what the disk tells finds a reopening of the world
  pub finds_told : (honest : (disk : D) (c : List ℕ) → disks.content disk ≡ Some c → disks.may_leave disk c) (store : Store D) (w : World) (held : StoreParts) (disk : D) → Stands disks store w
      → disks.content disk ≡ disks.content store.disk → IfSome (disks.content store.disk) (λ file. IsStore file held) → is_some (disks.content disk) ≡ true → FindsNames w held
  finds_told honest store w held disk h same is_store told =
      let file = entry_there (disks.content disk) told in
      let is : disks.content store.disk ≡ Some file.0 = sym same ∙ file.1 in
      finds_again w file.0 held (at_some (λ f. IsStore f held) (disks.content store.disk) file.0 is is_store) (told_stands honest store w file.0 h is)

  -- where the disk tells, it has as many pages
  pub pages_told : (honest : (disk : D) (c : List ℕ) → disks.content disk ≡ Some c → disks.may_leave disk c) (store : Store D) (w : World) (held : StoreParts) (file : List ℕ) → Stands disks store w
      → disks.content store.disk ≡ Some file → IfSome (disks.content store.disk) (λ f. IsStore f held) → length held.pages ≡ length store.transactions.frames
  pages_told honest store w held file h told is_store =
      let f = finds_again w file held (at_some (λ f. IsStore f held) (disks.content store.disk) file told is_store) (told_stands honest store w file h told) in
      sym (length-map held.pages (λ (p : PageParts). p.slots)) ∙ (pages_after w held f h.lawful h.transactions.fields ∙ sym h.transactions.frames.count)

  -- and no fault
  pub no_fault_told : (honest : (disk : D) (c : List ℕ) → disks.content disk ≡ Some c → disks.may_leave disk c) (store : Store D) (w : World) (fault : Fault) → Stands disks store w
      → IfSome (disks.content store.disk) (λ f. HasFault f fault) → disks.content store.disk ≡ None
  no_fault_told honest store w fault h has =
      none_of (disks.content store.disk) (λ file told.
      let s = told_stands honest store w file h told in
      store_has_none file s.stands.content fault s.stands.store (at_some (λ f. HasFault f fault) (disks.content store.disk) file told has))

  pub taken_stands : (old store : Store D) (held : StoreParts) (w next : World) → IsFound (is_some (disks.content store.disk)) w held next → Stands disks old w → IsReady store.transactions (world_held held) → store.commits ≡ held.commits → store.broken ≡ None
      → store.journal.pages ≡ length held.pages → length held.pages ≡ w.pages → held.commits ≡ store.journal.base + store.journal.commits → store_size (length held.pages) ≤ disks.size old.disk → disks.size store.disk ≡ disks.size old.disk
      → disks.content store.disk ≡ disks.content old.disk → IfSome (disks.content old.disk) (λ file. IsStore file held) → IfSome (disks.content old.disk) (IsStoreOf store.journal) → IsSynced (disks.content store.disk) (disks.may_leave store.disk)
      → Stands disks store next
  taken_stands old store held w next is h ready commits sound pages count counted long same told is_store own synced = by (is_some (disks.content store.disk)) refl
    where
      by : (b : Bool) → is_some (disks.content store.disk) ≡ b → Stands disks store next
      by true tells =
          let f = is.known tells in
          subst (Stands disks store) (sym f.1) (stands_again old store held w f.0 h ready commits sound pages count counted same told is_store own synced)
      by false silent = start_stands disks old.disk store held w.last_cut next (is.other silent) ready commits sound pages counted long same told is_store own synced

  pub stay_stands : (old new : Store D) (fault : OpenFault) (count : ℕ) (w after : World)
      → ((fault ≡ faulty.DiskFault) × (new ≡ record old { broken = Some count })) ⊎ ((fault ≡ faulty.DiskFault → ⊥) × (new ≡ old))
      → after ≡ next w (event_of Reopen (Refused (refusal_of fault)) count) → Stands disks old w → Stands disks new after
  stay_stands old new fault count w after either is h =
      ⊎_elim
      (λ broke.
      let world : after ≡ with_break w count = is ∙ ap (λ f. next w (event_of Reopen (Refused (refusal_of f)) count)) broke.0 in
      subst (λ v. Stands disks new v) (sym world) (subst (λ s. Stands disks s (with_break w count)) (sym broke.1) (breaks old count w h)))
      (λ stayed. subst (λ v. Stands disks new v) (sym (is ∙ same_world w fault count stayed.0)) (subst (λ s. Stands disks s w) (sym stayed.1) h)) either
    where
      same_world : (w : World) (fault : OpenFault) (count : ℕ) → (fault ≡ faulty.DiskFault → ⊥) → next w (event_of Reopen (Refused (refusal_of fault)) count) ≡ w
      same_world w faulty.DiskFault count other = absurd (other refl)
      same_world w faulty.NotAStore count other = refl
      same_world w (faulty.Damaged at) count other = refl
      same_world w faulty.Memory count other = refl

-- ---- the replies

if_some_all : {A : Type 0} (P : Type 0) (o : Option A) → P → IfSome o (λ x. P)
if_some_all P None p = tt
if_some_all P (Some x) p = p

if_silent : {A : Type 0} (P : Type 0) (o : Option A) → o ≡ None → IfSome o (λ x. P)
if_silent P o is = subst (λ q. IfSome q (λ x. P)) (sym is) tt

pub reopened_happens : (o : Option (List ℕ)) (w after : World) (commits count : ℕ) → IfSome o (λ file. IsReopened w commits after) → IfSome o (λ file. Happens w Reopen (Reopened commits) count after)
reopened_happens o w after commits count h =
    if_some_map o (λ file. IsReopened w commits after) (λ file. Happens w Reopen (Reopened commits) count after)
    (λ file is r. record { note = found r.names; is_note = (r.names, refl); allowed = (refl, (refl, r.may)); is = r.is }) h

pub refused_happens : (o : Option (List ℕ)) (fault : OpenFault) (w after : World) (count : ℕ) → (fault ≡ faulty.NotAStore → o ≡ None) → ((at : ℕ) → fault ≡ faulty.Damaged at → o ≡ None)
    → after ≡ next w (event_of Reopen (Refused (refusal_of fault)) count) → IfSome o (λ file. Happens w Reopen (Refused (refusal_of fault)) count after)
refused_happens o faulty.DiskFault w after count none bad is =
    if_some_all (Happens w Reopen (Refused DiskFault) count after) o (record { note = faults count; is_note = refl; allowed = (refl, refl); is = is })
refused_happens o faulty.NotAStore w after count none bad is = if_silent (Happens w Reopen (Refused (refusal_of faulty.NotAStore)) count after) o (none refl)
refused_happens o (faulty.Damaged at) w after count none bad is = if_silent (Happens w Reopen (Refused (refusal_of (faulty.Damaged at))) count after) o (bad at refl)
refused_happens o faulty.Memory w after count none bad is =
    if_some_all (Happens w Reopen (Refused (refusal_of faulty.Memory)) count after) o (record { note = nothing; is_note = refl; allowed = (refl, refl); is = is })

-- ---- faults of opening

-- what holds of each fault but the disk's
pub but_of_the_disk : (fault : OpenFault) (P : Type 0) → (fault ≡ faulty.NotAStore → P) → ((at : ℕ) → fault ≡ faulty.Damaged at → P) → (fault ≡ faulty.Memory → P) → fault ≢ faulty.DiskFault → P
but_of_the_disk faulty.DiskFault P none bad lack other = absurd (other refl)
but_of_the_disk faulty.NotAStore P none bad lack other = none refl
but_of_the_disk (faulty.Damaged at) P none bad lack other = bad at refl
but_of_the_disk faulty.Memory P none bad lack other = lack refl

-- ---- the cut

pub found_no_cut : (told : Bool) (w : World) (held : StoreParts) (next : World) → IsFound told w held next → length held.pages ≡ w.pages → HasNoCut w next
found_no_cut true w held next is same =
    let f = is.known refl in
    subst (HasNoCut w) (sym f.1) (record { pages = refl; last = refl; cut = refl })
found_no_cut false w held next is same =
    subst (HasNoCut w) (sym (is.other refl)) (record { pages = length-map held.pages (λ (p : PageParts). p.slots) ∙ same; last = refl; cut = refl })

pub reopened_holds : (held : Held) (w next : World) → HasNoCut w next → IsLawful next → Holds held w → Holds (record { cut = None; last_cut = held.last_cut }) next
reopened_holds held w next is lawful h = record {
  some = subst (λ n. 0 < n) (sym is.pages) h.some;
  few = subst (λ n. n ≤ MOST_PAGES) (sym is.pages) h.few;
  last = h.last ∙ sym is.last;
  cut = subst (λ o. IsHeld next None o) (sym is.cut) tt;
  standing = record { lawful = lawful; cut = subst (λ o. MatchOption o (Unit {0}) (IsCutStanding next (beside_of None))) (sym is.cut) tt };
}

pub stay_holds : (held : Held) (w : World) (fault : OpenFault) (count : ℕ) → Holds held w → Holds held (next w (event_of Reopen (Refused (refusal_of fault)) count))
stay_holds held w faulty.DiskFault count h = refused_holds held w Reopen (faults count) DiskFault refl h
stay_holds held w faulty.NotAStore count h = h
stay_holds held w (faulty.Damaged at) count h = h
stay_holds held w faulty.Memory count h = h
