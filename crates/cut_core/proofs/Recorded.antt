-- What a record leaves, of a commit or of a sweep.
use Rattle.std.proofs.Common.{◌≡◌, ℕ, ◌+◌, ◌≤◌, true, false, List, Option, Some, None, refl, sym, subst, ap, ◌∙◌}
use Rattle.std.specs.Prelude.{IfSome, IsSomeAnd}
use Rattle.std.specs.Option.{is_some, MatchOption}
use Rattle.object_graph.specs.declared.calls.Call.{Call}
use Rattle.object_graph.specs.declared.calls.Reply.TheVariants.{Refused}
use Rattle.object_graph.specs.declared.calls.Refusal.{Refusal}
use Rattle.object_graph.specs.declared.calls.Refusal.TheVariants.{DiskFault}
use Rattle.disk_trait.specs.DiskFacts.{LeavesOnly}
use Rattle.disk_trait.specs.declared.disk.Disk.{Ghosts as DiskOf}
use Rattle.disk_trait.proofs.DiskSteps.{weaker}
use Rattle.disk_trait.specs.Causes.{SameTold}
use Rattle.redo_journal.specs.Homes.{store_size}
use Rattle.redo_journal.specs.Record.{RecordParts}
use Rattle.redo_journal.specs.Journals.{JournalParts}
use Rattle.redo_journal.proofs.Moments.{if_some_map}
use Rattle.store_model.specs.Worlds.{World, Doubt, no_doubt, commit_in_doubt, sweep_in_doubt, faults, find_transaction}
use Rattle.store_model.specs.Causes.{first_refusal}
use Rattle.store_model.specs.Replies.{AllowsReply, may_fail, is_free}
use Rattle.store_model.specs.Lawful.{IsLawful, IsDoubtOf}
use Rattle.store_model.specs.States.{State, state_of}
use Rattle.image_model.specs.Records.{IsAfterRecord}
use Rattle.image_model.specs.Stands.{StandsFor, StandsForWorld, IsStoreOf}
use Rattle.image_model.proofs.Doubts.{stands_as_before, stands_undoubted}
use Rattle.transactions.specs.Standing.{TransactionsParts, AreTransactionsOf}
use Rattle.cut_core.specs.Seen.{StandsForEither}
use Rattle.cut_core.specs.Standing.{KeepsWorld, Stands}
use Rattle.cut_core.specs.Writing.{KeepsState, StandsForOneOf}
use Rattle.cut_core.specs.declared.store.Store.{Store}
use Rattle.cut_core.proofs.Crashes.{at_some, if_some, some_of, own_staged, keeps_staged}
use Rattle.std.proofs.Common.{◌&&◌}

-- ---- nothing is in doubt

doubt_by : (w : World) (doubt : Doubt) → IsDoubtOf w doubt → w.broken ≡ None → doubt ≡ no_doubt
doubt_by w no_doubt is sound = refl
doubt_by w (commit_in_doubt txn) is sound = absurd (let bad : false ≡ true = subst (λ b. (is_some b && is_some (find_transaction w txn)) ≡ true) sound is in cc)
doubt_by w (sweep_in_doubt page) is sound = absurd (let bad : false ≡ true = subst (λ b. is_some b ≡ true) sound is.broken in cc)

pub undoubted : (w : World) → IsLawful w → w.broken ≡ None → w.doubt ≡ no_doubt
undoubted w lawful sound = doubt_by w w.doubt lawful.doubt sound

-- a call that nothing stands in the way of may meet a disk fault
pub may_fail_there : (w : World) (call : Call) (count : ℕ) → first_refusal w call (faults count) ≡ None → may_fail call ≡ true → AllowsReply w call (faults count) (Refused DiskFault)
may_fail_there w call count may fails = subst (λ (o : Option Refusal). MatchOption o (is_free call DiskFault ≡ true) (λ first. DiskFault ≡ first)) (sym may) fails

-- ---- the store after a record

-- what the disk keeps for the state of a world it keeps for the world
keeps_world : (journal : JournalParts) (outcomes : List ℕ → Type 0) (w : World) (file : List ℕ) → journal.pages ≡ w.pages → KeepsState journal outcomes (state_of w) file → KeepsWorld journal outcomes w file
keeps_world journal outcomes w file pages k = record {
  stands = λ image left. stands_as_before image w (subst (λ f. StandsFor f w.pages (state_of w)) (sym (k.synced image left)) (subst (λ n. StandsFor file n (state_of w)) pages k.stands));
  synced = λ e. k.synced;
  own = λ e. k.own;
}

untold : (a b : Option (List ℕ)) (file : List ℕ) → SameTold a b → a ≡ None → b ≡ Some file → ⊥
untold a b file same is now = let e : is_some b ≡ is_some a = same in let bad : true ≡ false = ap is_some (sym now) ∙ (e ∙ ap is_some is) in cc

module _ {D : Type 0} (disks : DiskOf D) where
  -- it was written, and the transactions are those of the world after it
  pub recorded_stands : (old : Store D) (after : TransactionsParts) (journal : JournalParts) (disk : D) (commits : ℕ) (w v : World)
      → Stands disks old w → old.broken ≡ None → IsLawful v → AreTransactionsOf after v → v.pages ≡ w.pages → v.broken ≡ w.broken → commits ≡ v.commits
      → disks.size disk ≡ disks.size old.disk → journal.pages ≡ old.journal.pages → commits ≡ journal.base + journal.commits
      → ((file : List ℕ) → disks.content old.disk ≡ Some file → IsSomeAnd (disks.content disk) (KeepsState journal (disks.may_leave disk) (state_of v)))
      → SameTold (disks.content old.disk) (disks.content disk)
      → Stands disks (record { transactions = after; journal = journal; disk = disk; commits = commits; broken = old.broken }) v
  recorded_stands old after journal disk commits w v h sound lawful transactions same broken counts long pages counted keeps told =
      let own : journal.pages ≡ v.pages = pages ∙ (h.pages (sym h.broken ∙ sound) ∙ sym same) in
      record {
        lawful = lawful;
        transactions = transactions;
        commits = counts;
        broken = h.broken ∙ sym broken;
        long = subst (λ n. store_size v.pages ≤ n) (sym long) (subst (λ n. store_size n ≤ disks.size old.disk) (sym same) h.long);
        pages = λ e. own;
        counted = λ e. sym counts ∙ counted;
        disk = by own (disks.content old.disk) refl (disks.content disk) refl;
      }
    where
      by : journal.pages ≡ v.pages → (o : Option (List ℕ)) → disks.content old.disk ≡ o → (n : Option (List ℕ)) → disks.content disk ≡ n → IfSome (disks.content disk) (KeepsWorld journal (disks.may_leave disk) v)
      by own None is None now = subst (λ q. IfSome q (KeepsWorld journal (disks.may_leave disk) v)) (sym now) tt
      by own None is (Some file) now = absurd (untold (disks.content old.disk) (disks.content disk) file told is now)
      by own (Some file) is n now =
          let d = some_of (KeepsState journal (disks.may_leave disk) (state_of v)) (disks.content disk) (keeps file is) in
          if_some (KeepsWorld journal (disks.may_leave disk) v) (disks.content disk) d.0 d.1 (keeps_world journal (disks.may_leave disk) v d.0 own d.2)

  -- a device call failed, by which the store is broken
  pub unrecorded_stands : (old : Store D) (journal : JournalParts) (disk : D) (count : ℕ) (w v : World)
      → Stands disks old w → IsLawful v → AreTransactionsOf old.transactions v → v.pages ≡ w.pages → v.broken ≡ Some count → w.commits ≡ v.commits
      → disks.size disk ≡ disks.size old.disk
      → ((file : List ℕ) → disks.content old.disk ≡ Some file → (image : List ℕ) → disks.may_leave disk image → StandsForWorld image v)
      → SameTold (disks.content old.disk) (disks.content disk)
      → Stands disks (record { transactions = old.transactions; journal = journal; disk = disk; commits = old.commits; broken = Some count }) v
  unrecorded_stands old journal disk count w v h lawful transactions same broken counts long leaves told = record {
    lawful = lawful;
    transactions = transactions;
    commits = h.commits ∙ counts;
    broken = sym broken;
    long = subst (λ n. store_size v.pages ≤ n) (sym long) (subst (λ n. store_size n ≤ disks.size old.disk) (sym same) h.long);
    pages = λ e. absurd (whole e);
    counted = λ e. absurd (whole e);
    disk = by (disks.content old.disk) refl (disks.content disk) refl;
  }
    where
      whole : v.broken ≡ None → ⊥
      whole e = let bad : Some count ≡ None = sym broken ∙ e in cc

      by : (o : Option (List ℕ)) → disks.content old.disk ≡ o → (n : Option (List ℕ)) → disks.content disk ≡ n → IfSome (disks.content disk) (KeepsWorld journal (disks.may_leave disk) v)
      by o is None now = subst (λ q. IfSome q (KeepsWorld journal (disks.may_leave disk) v)) (sym now) tt
      by None is (Some file) now = absurd (untold (disks.content old.disk) (disks.content disk) file told is now)
      by (Some file) is (Some later) now =
          if_some (KeepsWorld journal (disks.may_leave disk) v) (disks.content disk) later now (record {
            stands = λ image left. leaves file is image left;
            synced = λ e. absurd (whole e);
            own = λ e. absurd (whole e);
          })

-- ---- a record that is staged

-- the journal with the record: what the disk keeps for it, and what the record does to the state
pub record IsStaged {D : Type 0} (disks : DiskOf D) (old : Store D) (staged : JournalParts) (r : RecordParts) (t : State) (w : World) : Type 0 where
  pub record_is : staged.staged ≡ Some r
  pub pages : staged.pages ≡ w.pages
  pub after : IsAfterRecord staged.pages r (state_of w) t
  pub keeps : (file : List ℕ) → disks.content old.disk ≡ Some file → KeepsState staged (disks.may_leave old.disk) (state_of w) file

module _ {D : Type 0} (disks : DiskOf D) where
  -- what the disk keeps for the world it keeps for its state
  keeps_state : (honest : (disk : D) (c : List ℕ) → disks.content disk ≡ Some c → disks.may_leave disk c) (store : Store D) (w : World) (file : List ℕ) → store.broken ≡ None → Stands disks store w
      → disks.content store.disk ≡ Some file → KeepsState store.journal (disks.may_leave store.disk) (state_of w) file
  keeps_state honest store w file sound h told =
      let k = at_some (KeepsWorld store.journal (disks.may_leave store.disk) w) (disks.content store.disk) file told h.disk in
      let calm : w.broken ≡ None = sym h.broken ∙ sound in
      record {
        synced = k.synced calm;
        own = k.own calm;
        stands = subst (λ n. StandsFor file n (state_of w)) (sym (h.pages calm)) (stands_undoubted file w (undoubted w h.lawful calm) (k.stands file (honest store.disk file told)));
      }

  pub staged_by : (honest : (disk : D) (c : List ℕ) → disks.content disk ≡ Some c → disks.may_leave disk c) (old : Store D) (staged : JournalParts) (r : RecordParts) (t : State) (w : World)
      → Stands disks old w → old.broken ≡ None → staged ≡ record old.journal { staged = Some r } → IsAfterRecord w.pages r (state_of w) t → IsStaged disks old staged r t w
  staged_by honest old staged r t w h sound is after =
      let pages : staged.pages ≡ w.pages = ap (λ (j : JournalParts). j.pages) is ∙ h.pages (sym h.broken ∙ sound) in
      record {
        record_is = ap (λ (j : JournalParts). j.staged) is;
        pages = pages;
        after = subst (λ n. IsAfterRecord n r (state_of w) t) (sym pages) after;
        keeps = λ file told. keeps_staged old.journal staged (Some r) (disks.may_leave old.disk) (state_of w) file is (keeps_state honest old w file sound h told);
      }

  -- before it is staged
  pub staged_own : (old : Store D) (staged : JournalParts) (r : Option RecordParts) (w : World) → Stands disks old w → old.broken ≡ None → staged ≡ record old.journal { staged = r }
      → IfSome (disks.content old.disk) (IsStoreOf staged)
  staged_own old staged r w h sound is =
      subst (λ j. IfSome (disks.content old.disk) (IsStoreOf j)) (sym is)
      (if_some_map (disks.content old.disk) (KeepsWorld old.journal (disks.may_leave old.disk) w) (IsStoreOf (record old.journal { staged = r }))
      (λ file told k. own_staged old.journal r file (k.own (sym h.broken ∙ sound))) h.disk)

  -- a crash while the record is written leaves the one state or the other
  abbrev pub RecordLeaves : Store D → D → JournalParts → Type 0
  RecordLeaves old disk staged =
      (file : List ℕ) (r : RecordParts) (s t : State) → disks.content old.disk ≡ Some file → KeepsState staged (disks.may_leave old.disk) s file → staged.staged ≡ Some r → IsAfterRecord staged.pages r s t
      → LeavesOnly disks old.disk disk (StandsForOneOf staged.pages s t)

  module _ (old : Store D) (disk : D) (staged : JournalParts) (r : RecordParts) (t : State) (w : World) (k : IsStaged disks old staged r t w) (runs : RecordLeaves old disk staged) where
    leaves_state : (file : List ℕ) → disks.content old.disk ≡ Some file → LeavesOnly disks old.disk disk (StandsForOneOf w.pages (state_of w) t)
    leaves_state file told =
        subst (λ n. LeavesOnly disks old.disk disk (StandsForOneOf n (state_of w) t)) k.pages
        (runs file r (state_of w) t told (k.keeps file told) k.record_is k.after)

    -- so it leaves one of two worlds
    pub leaves_either : (w2 : World) → ((image : List ℕ) → StandsForOneOf w.pages (state_of w) t image → StandsForEither w w2 image) → Stands disks old w
        → IfSome (disks.content old.disk) (λ file. LeavesOnly disks old.disk disk (StandsForEither w w2))
    leaves_either w2 each h =
        if_some_map (disks.content old.disk) (KeepsWorld old.journal (disks.may_leave old.disk) w) (λ file. LeavesOnly disks old.disk disk (StandsForEither w w2))
        (λ file told kept. weaker disks old.disk disk (StandsForOneOf w.pages (state_of w) t) (StandsForEither w w2) each (leaves_state file told)) h.disk

    -- and now too
    pub leaves_now : (counts_now : (disk : D) (t : ℕ) (c : List ℕ) → t ≤ disks.moment disk → disks.may_leave disk c → disks.left_since disk t c)
        → (file : List ℕ) → disks.content old.disk ≡ Some file → (image : List ℕ) → disks.may_leave disk image → StandsForOneOf w.pages (state_of w) t image
    leaves_now counts_now file told image left =
        let l = leaves_state file told in
        l.each image (counts_now disk (disks.moment old.disk) image l.later left)
