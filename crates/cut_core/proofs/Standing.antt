-- What each call leaves stands for the next world.
use Rattle.std.proofs.Common.{◌≡◌, ◌≢◌, inl, inr, ⊎_elim, ℕ, ◌+◌, ◌≤◌, true, false, List, [], ◌∷◌, Option, Some, None, refl, sym, subst, ap, ◌∙◌, nat_le}
use Rattle.std.specs.Prelude.{IfSome, IsSomeAnd}
use Rattle.std.specs.Option.{is_some, is_none, option_map, MatchOption}
use Rattle.object_graph.specs.NameParts.{NameParts}
use Rattle.object_graph.specs.declared.calls.Call.{Call}
use Rattle.object_graph.specs.declared.calls.Call.TheVariants.{Begin, Get, Number, Set, Put, New, Commit, Abort, Sweep, Reopen}
use Rattle.object_graph.specs.declared.calls.Reply.{Reply}
use Rattle.object_graph.specs.declared.calls.Reply.TheVariants.{Committed, Refused}
use Rattle.object_graph.specs.declared.calls.Refusal.{Refusal}
use Rattle.object_graph.specs.declared.calls.Refusal.TheVariants.{NotOpen, Spent, DiskFault, Broken}
use Rattle.disk_trait.specs.DiskFacts.{LeavesOnly}
use Rattle.disk_trait.specs.declared.disk.Disk.{Ghosts as DiskOf}
use Rattle.disk_trait.proofs.DiskSteps.{started}
use Rattle.disk_trait.specs.Causes.{SameTold}
use Rattle.redo_journal.specs.Homes.{store_size}
use Rattle.redo_journal.specs.Journals.{JournalParts}
use Rattle.redo_journal.proofs.Moments.{if_some_map}
use Rattle.store_model.specs.Worlds.{World, Transaction, no_doubt, commit_in_doubt, Note, nothing, faults, transaction, find_transaction}
use Rattle.object_graph.specs.declared.limits.TheConstants.{MOST_COUNTED}
use Rattle.store_model.specs.Causes.{first_met, first_refusal, new_name, not_open, spent, when}
use Rattle.store_model.specs.Replies.{AllowsReply, may_fail, is_free, has_note}
use Rattle.store_model.specs.Steps.{committed, with_new, after_answer, after_reply, after_refusal}
use Rattle.store_model.proofs.Lawfulness.{event_is_lawful, broken_refuses}
use Rattle.store_model.specs.States.{state_of, state_after}
use Rattle.image_model.specs.Records.{commit_record}
use Rattle.image_model.specs.Stands.{StandsFor, StandsForWorld}
use Rattle.transactions.specs.Standing.{TransactionsParts, IsReady, AreTransactionsOf}
use Rattle.transactions.specs.Calls.{TransactsWell}
use Rattle.transactions.specs.Tables.{entry_of}
use Rattle.transactions.proofs.Opened.{not_opened}
use Rattle.transactions.proofs.Begins.{opened_there}
use Rattle.transactions.proofs.Ready.{ready_after}
use Rattle.transactions.proofs.Unseen.{stands_same}
use Rattle.cut_core.specs.Calls.{IsOfTransaction, IsOfStore, note_of, event_of}
use Rattle.cut_core.specs.Seen.{StandsForEither}
use Rattle.cut_core.specs.Standing.{KeepsWorld, Stands, Steps}
use Rattle.cut_core.specs.Writing.{KeepsState, StandsForOneOf, images_written}
use Rattle.cut_core.specs.declared.store.Store.{Store}
use Rattle.image_model.proofs.Committing.{commit_makes}
use Rattle.image_model.proofs.Doubts.{stands_as_before, stands_undoubted, stands_with_commit}
use Rattle.cut_core.proofs.Staging.{written_images, entry_there}
use Rattle.cut_core.proofs.Recorded.{undoubted, may_fail_there, recorded_stands, unrecorded_stands, IsStaged, staged_by}

-- ---- calls

pub of_transaction : (call : Call) → IsOfStore call → ((txn : ℕ) → call ≢ Commit txn) → ((page : ℕ) → call ≢ Sweep page) → IsOfTransaction call
of_transaction (Commit txn) built other still = absurd (other txn refl)
of_transaction (Sweep page) built other still = absurd (still page refl)
of_transaction (Begin txn) built other still = tt
of_transaction (Get txn name field) built other still = tt
of_transaction (Number txn name) built other still = tt
of_transaction (Set txn name field target) built other still = tt
of_transaction (Put txn name value) built other still = tt
of_transaction (New txn page) built other still = tt
of_transaction (Abort txn) built other still = tt
of_transaction _ built other still = built

cannot_fail : (call : Call) → IsOfTransaction call → may_fail call ≡ false
cannot_fail (Begin txn) of = refl
cannot_fail (Get txn name field) of = refl
cannot_fail (Number txn name) of = refl
cannot_fail (Set txn name field target) of = refl
cannot_fail (Put txn name value) of = refl
cannot_fail (New txn page) of = refl
cannot_fail (Abort txn) of = refl
cannot_fail _ of = absurd of

-- ---- worlds that differ in their open transactions alone

abbrev with_transactions : World → List Transaction → World
with_transactions w ts = record w { transactions = ts }

abbrev Differs : World → World → Type 0
Differs w w2 = (ts : List Transaction) × (w2 ≡ with_transactions w ts)

new_differs : (w : World) (txn : ℕ) (name : Option NameParts) → Differs w (with_new w txn name)
new_differs w txn None = (w.transactions, refl)
new_differs w txn (Some name) = (_, refl)

answer_differs : (w : World) (call : Call) (reply : Reply) → IsOfTransaction call → Differs w (after_answer w call nothing reply)
answer_differs w (Begin txn) reply of = (_, refl)
answer_differs w (Get txn name field) reply of = (_, refl)
answer_differs w (Number txn name) reply of = (_, refl)
answer_differs w (Set txn name field target) reply of = (_, refl)
answer_differs w (Put txn name value) reply of = (_, refl)
answer_differs w (New txn page) reply of = new_differs w txn (new_name w txn page)
answer_differs w (Abort txn) reply of = (_, refl)
answer_differs w _ reply of = absurd of

refusal_differs : (w : World) (call : Call) (why : Refusal) → (after_refusal w call nothing why).broken ≡ None → Differs w (after_refusal w call nothing why)
refusal_differs w call DiskFault sound = absurd cc
refusal_differs w call _ sound = (w.transactions, refl)

reply_differs : (w : World) (call : Call) (reply : Reply) → IsOfTransaction call → (after_reply w call nothing reply).broken ≡ None → Differs w (after_reply w call nothing reply)
reply_differs w call (Refused why) of sound = refusal_differs w call why sound
reply_differs w call reply of sound = answer_differs w call reply of

-- and its event has no note
noted : (w : World) (call : Call) (reply : Reply) → IsOfTransaction call → (after_reply w call nothing reply).broken ≡ None → has_note call reply nothing ≡ true
noted w (Begin txn) (Refused DiskFault) of sound = absurd cc
noted w (Begin txn) (Refused why) of sound = refl
noted w (Begin txn) reply of sound = refl
noted w (Get txn name field) (Refused DiskFault) of sound = absurd cc
noted w (Get txn name field) (Refused why) of sound = refl
noted w (Get txn name field) reply of sound = refl
noted w (Number txn name) (Refused DiskFault) of sound = absurd cc
noted w (Number txn name) (Refused why) of sound = refl
noted w (Number txn name) reply of sound = refl
noted w (Set txn name field target) (Refused DiskFault) of sound = absurd cc
noted w (Set txn name field target) (Refused why) of sound = refl
noted w (Set txn name field target) reply of sound = refl
noted w (Put txn name value) (Refused DiskFault) of sound = absurd cc
noted w (Put txn name value) (Refused why) of sound = refl
noted w (Put txn name value) reply of sound = refl
noted w (New txn page) (Refused DiskFault) of sound = absurd cc
noted w (New txn page) (Refused why) of sound = refl
noted w (New txn page) reply of sound = refl
noted w (Abort txn) (Refused DiskFault) of sound = absurd cc
noted w (Abort txn) (Refused why) of sound = refl
noted w (Abort txn) reply of sound = refl
noted w _ reply of sound = absurd of

broken_noted : (call : Call) (count : ℕ) → IsOfStore call → has_note call (Refused (Broken count)) nothing ≡ true
broken_noted (Begin txn) count built = refl
broken_noted (Get txn name field) count built = refl
broken_noted (Number txn name) count built = refl
broken_noted (Set txn name field target) count built = refl
broken_noted (Put txn name value) count built = refl
broken_noted (New txn page) count built = refl
broken_noted (Commit txn) count built = refl
broken_noted (Sweep page) count built = refl
broken_noted (Abort txn) count built = refl
broken_noted _ count built = absurd built

not_reopen : (call : Call) → IsOfStore call → call ≢ Reopen
not_reopen Reopen built = absurd built
not_reopen _ built = λ e. cc

-- a reply that doesn't break the store has no count in its note
note_by : (w : World) (call : Call) (why : Refusal) (count : ℕ) → (after_refusal w call nothing why).broken ≡ None → note_of (Refused why) count ≡ nothing
note_by w call DiskFault count sound = absurd cc
note_by w call _ count sound = refl

pub note_is : (w : World) (call : Call) (reply : Reply) (count : ℕ) → (after_reply w call nothing reply).broken ≡ None → note_of reply count ≡ nothing
note_is w call (Refused why) count sound = note_by w call why count sound
note_is w call reply count sound = refl

-- ---- worlds with the same state

-- a file stands for any world with the same state
pub same_state : (w w2 : World) (file : List ℕ) → w.doubt ≡ no_doubt → w2.pages ≡ w.pages → state_of w2 ≡ state_of w → StandsForWorld file w → StandsForWorld file w2
same_state w w2 file calm pages state stands =
    stands_as_before file w2 (subst (λ n. StandsFor file n (state_of w2)) (sym pages) (subst (λ s. StandsFor file w.pages s) (sym state) (stands_undoubted file w calm stands)))

-- ---- the causes of a commit

none_there : {A : Type 0} (o : Option A) → is_some o ≡ false → o ≡ None
none_there None h = refl
none_there (Some x) h = absurd cc

closed_first : (w : World) (txn : ℕ) → w.broken ≡ None → find_transaction w txn ≡ None → first_refusal w (Commit txn) nothing ≡ Some NotOpen
closed_first w txn sound none =
    ap (λ b. first_met (option_map (λ count. Broken count) b ∷ not_open w txn ∷ spent w.commits ∷ [])) sound
    ∙ ap (λ o. first_met (when (is_none o) NotOpen ∷ spent w.commits ∷ [])) none

open_first : (w : World) (txn count : ℕ) → w.broken ≡ None → is_some (find_transaction w txn) ≡ true → w.commits ≡ count → first_refusal w (Commit txn) nothing ≡ first_met (spent count ∷ [])
open_first w txn count sound there is =
    ap (λ b. first_met (option_map (λ n. Broken n) b ∷ not_open w txn ∷ spent w.commits ∷ [])) sound
    ∙ (ap (λ n. first_met (not_open w txn ∷ spent n ∷ [])) is ∙ by (find_transaction w txn) there)
  where
    by : (o : Option Transaction) → is_some o ≡ true → first_met (when (is_none o) NotOpen ∷ spent count ∷ []) ≡ first_met (spent count ∷ [])
    by None e = absurd cc
    by (Some t) e = refl

spent_first : (w : World) (txn count : ℕ) → w.broken ≡ None → is_some (find_transaction w txn) ≡ true → w.commits ≡ count → nat_le MOST_COUNTED count ≡ true
    → first_refusal w (Commit txn) nothing ≡ Some (Spent count)
spent_first w txn count sound there is many = open_first w txn count sound there is ∙ ap (λ b. first_met (when b (Spent count) ∷ [])) many

pub none_first : (w : World) (txn count : ℕ) → w.broken ≡ None → is_some (find_transaction w txn) ≡ true → w.commits ≡ count → nat_le MOST_COUNTED count ≡ false
    → first_refusal w (Commit txn) nothing ≡ None
none_first w txn count sound there is few = open_first w txn count sound there is ∙ ap (λ b. first_met (when b (Spent count) ∷ [])) few

-- ---- the transactions of a world with another break and doubt

abbrev pub broken_by : World → ℕ → ℕ → World
broken_by w count txn = record w { broken = Some count; doubt = commit_in_doubt txn }

still_transactions : (s : TransactionsParts) (w : World) (count txn : ℕ) → AreTransactionsOf s w → AreTransactionsOf s (broken_by w count txn)
still_transactions s w count txn h = stands_same s w (broken_by w count txn) (record { pages = refl; graph = refl; freed = refl; transactions = refl }) h

module _ {D : Type 0} (disks : DiskOf D) where
  pub is_ready : (store : Store D) (w : World) → store.broken ≡ None → Stands disks store w → IsReady store.transactions w
  is_ready store w sound h = record { lawful = h.lawful; sound = sym h.broken ∙ sound; stands = h.transactions }

  -- ---- what isn't changed

  module _ (only_now : (disk : D) (c : List ℕ) → disks.left_since disk (disks.moment disk) c → disks.may_leave disk c) where
    -- without a device call a crash leaves what it left before
    pub no_device_call : (store : Store D) (after : D) (w w2 : World) → after ≡ store.disk → Stands disks store w
        → IfSome (disks.content store.disk) (λ file. LeavesOnly disks store.disk after (StandsForEither w w2))
    no_device_call store after w w2 same h =
        subst (λ (d : D). IfSome (disks.content store.disk) (λ file. LeavesOnly disks store.disk d (StandsForEither w w2))) (sym same)
        (if_some_map (disks.content store.disk) (KeepsWorld store.journal (disks.may_leave store.disk) w) (λ file. LeavesOnly disks store.disk store.disk (StandsForEither w w2))
        (λ file is k. started disks store.disk (StandsForEither w w2) (λ c left. inl (k.stands c (only_now store.disk c left)))) h.disk)

  -- a call that changes the transactions alone
  pub transact_steps : (old : Store D) (after : TransactionsParts) (call : Call) (reply : Reply) (count : ℕ) (w : World) → IsOfTransaction call → old.broken ≡ None
      → TransactsWell old.transactions after call reply → Stands disks old w
      → Steps disks (record old { transactions = after }) (event_of call reply count) w
  transact_steps old after call reply count w of sound well h =
      let ready = is_ready old w sound h in
      let answer = well w ready in
      let then = ready_after old.transactions after w call reply (cannot_fail call of) ready answer in
      let quiet : note_of reply count ≡ nothing = note_is w call reply count then.sound in
      subst (λ (n : Note). Steps disks (record old { transactions = after }) (record { entry = record { lane = 1; call = call; reply = reply }; note = n }) w) (sym quiet) (record {
        allowed = (noted w call reply of then.sound, answer.allowed);
        stands = answered w (after_reply w call nothing reply) ready.sound h then answer.stands (reply_differs w call reply of then.sound);
      })
    where
      answered : (w w2 : World) → w.broken ≡ None → Stands disks old w → IsReady after w2 → AreTransactionsOf after w2 → Differs w w2
          → Stands disks (record old { transactions = after }) w2
      answered w w2 sound h then stands differs =
          let pages : w2.pages ≡ w.pages = ap (λ (v : World). v.pages) differs.1 in
          let commits : w2.commits ≡ w.commits = ap (λ (v : World). v.commits) differs.1 in
          record {
            lawful = then.lawful;
            transactions = stands;
            commits = h.commits ∙ sym commits;
            broken = h.broken ∙ (sound ∙ sym then.sound);
            long = subst (λ n. store_size n ≤ disks.size old.disk) (sym pages) h.long;
            pages = λ e. h.pages sound ∙ sym pages;
            counted = λ e. commits ∙ h.counted sound;
            disk = if_some_map (disks.content old.disk) (KeepsWorld old.journal (disks.may_leave old.disk) w) (KeepsWorld old.journal (disks.may_leave old.disk) w2) (λ file is k. record {
              stands = λ image left. same_state w w2 image (undoubted w h.lawful sound) pages (ap state_of differs.1) (k.stands image left);
              synced = λ e. k.synced sound;
              own = λ e. k.own sound;
            }) h.disk;
          }

  -- it isn't refused with a disk fault
  pub no_fault : (old : Store D) (after : TransactionsParts) (call : Call) (reply : Reply) (w : World) → IsOfTransaction call → old.broken ≡ None
      → TransactsWell old.transactions after call reply → Stands disks old w → reply ≡ Refused DiskFault → ⊥
  no_fault old after call reply w of sound well h is =
      let ready = is_ready old w sound h in
      let then = ready_after old.transactions after w call reply (cannot_fail call of) ready (well w ready) in
      let bad : Some 0 ≡ None = subst (λ r. (after_reply w call nothing r).broken ≡ None) is then.sound in
      absurd cc

  -- ---- refusals

  -- the store is broken
  pub broken_steps : (store : Store D) (call : Call) (count now : ℕ) (w : World) → IsOfStore call → store.broken ≡ Some count → Stands disks store w
      → Steps disks store (event_of call (Refused (Broken count)) now) w
  broken_steps store call count now w built is h = record {
    allowed = (
      broken_noted call count built,
      subst (λ (o : Option Refusal). MatchOption o (is_free call (Broken count) ≡ true) (λ first. Broken count ≡ first)) (sym (broken_refuses w call nothing count (not_reopen call built) (sym h.broken ∙ is))) refl,
    );
    stands = h;
  }

  module _ (store : Store D) (txn : ℕ) (w : World) (sound : store.broken ≡ None) (h : Stands disks store w) where
    -- the transaction isn't open
    pub not_open_steps : (now : ℕ) → is_some (entry_of store.transactions.table txn) ≡ false → Steps disks store (event_of (Commit txn) (Refused NotOpen) now) w
    not_open_steps now none =
        let closed = not_opened store.transactions store.transactions w txn refl (none_there (entry_of store.transactions.table txn) none) (is_ready store w sound h) in
        record {
          allowed = (refl, subst (λ (o : Option Refusal). MatchOption o (is_free (Commit txn) NotOpen ≡ true) (λ first. NotOpen ≡ first)) (sym (closed_first w txn (sym h.broken ∙ sound) closed)) refl);
          stands = h;
        }

    -- there are as many commits as can be
    pub spent_steps : (now : ℕ) → is_some (entry_of store.transactions.table txn) ≡ true → nat_le MOST_COUNTED store.commits ≡ true
        → Steps disks store (event_of (Commit txn) (Refused (Spent store.commits)) now) w
    spent_steps now there many =
        let open_now = opened_there (entry_of store.transactions.table txn) (find_transaction w txn) (h.transactions.table.each txn) there in
        record {
          allowed = (
            refl,
            subst (λ (o : Option Refusal). MatchOption o (is_free (Commit txn) (Spent store.commits) ≡ true) (λ first. Spent store.commits ≡ first))
                (sym (spent_first w txn store.commits (sym h.broken ∙ sound) open_now (sym h.commits) many)) refl,
          );
          stands = h;
        }

    -- nothing stands in the way
    pub commit_may : is_some (entry_of store.transactions.table txn) ≡ true → nat_le MOST_COUNTED store.commits ≡ false → first_refusal w (Commit txn) nothing ≡ None
    commit_may there few =
        none_first w txn store.commits (sym h.broken ∙ sound) (opened_there (entry_of store.transactions.table txn) (find_transaction w txn) (h.transactions.table.each txn) there) (sym h.commits) few

-- ---- a commit

-- a file that stands for the state before or after a commit stands for the world before or after it
pub either_done : (w : World) (txn : ℕ) (file : List ℕ) → StandsForOneOf w.pages (state_of w) (state_after w (transaction w txn)) file → StandsForEither w (committed w txn) file
either_done w txn file stands = ⊎_elim (λ s. inl (stands_as_before file w s)) (λ t. inr (stands_as_before file (committed w txn) t)) stands

-- so it does for the world that a fault in it leaves
failed_stands : (w : World) (count txn : ℕ) (file : List ℕ) → StandsForOneOf w.pages (state_of w) (state_after w (transaction w txn)) file → StandsForWorld file (broken_by w count txn)
failed_stands w count txn file stands = ⊎_elim (λ s. stands_as_before file (broken_by w count txn) s) (λ t. stands_with_commit file (broken_by w count txn) txn refl t) stands

pub either_failed : (w : World) (count txn : ℕ) (file : List ℕ) → StandsForOneOf w.pages (state_of w) (state_after w (transaction w txn)) file → StandsForEither w (broken_by w count txn) file
either_failed w count txn file stands = inr (failed_stands w count txn file stands)

module _ {D : Type 0} (disks : DiskOf D) where
  -- the record was written, and the transaction's pages are settled
  pub commit_steps : (old : Store D) (finished : TransactionsParts) (journal : JournalParts) (disk : D) (txn count : ℕ) (w : World)
      → Stands disks old w → old.broken ≡ None → first_refusal w (Commit txn) nothing ≡ None → AreTransactionsOf finished (committed w txn)
      → disks.size disk ≡ disks.size old.disk → journal.pages ≡ old.journal.pages → old.commits + 1 ≡ journal.base + journal.commits
      → ((file : List ℕ) → disks.content old.disk ≡ Some file → IsSomeAnd (disks.content disk) (KeepsState journal (disks.may_leave disk) (state_after w (transaction w txn))))
      → SameTold (disks.content old.disk) (disks.content disk)
      → Steps disks (record { transactions = finished; journal = journal; disk = disk; commits = old.commits + 1; broken = old.broken })
      (event_of (Commit txn) (Committed (old.commits + 1)) count) w
  commit_steps old finished journal disk txn count w h sound may stands long pages counted keeps told =
      let answer : Committed (old.commits + 1) ≡ Committed (w.commits + 1) = ap (λ n. Committed (n + 1)) h.commits in
      let allowed : AllowsReply w (Commit txn) nothing (Committed (old.commits + 1)) = (may, answer) in
      record {
        allowed = (refl, allowed);
        stands = recorded_stands disks old finished journal disk (old.commits + 1) w (committed w txn) h sound
            (event_is_lawful w (Commit txn) nothing (Committed (old.commits + 1)) h.lawful allowed) stands refl refl (ap (λ n. n + 1) h.commits) long pages counted keeps told;
      }

  -- a device call failed: the commit is in doubt
  pub fault_steps : (old : Store D) (journal : JournalParts) (disk : D) (txn count : ℕ) (w : World)
      → Stands disks old w → first_refusal w (Commit txn) nothing ≡ None
      → disks.size disk ≡ disks.size old.disk
      → ((file : List ℕ) → disks.content old.disk ≡ Some file → (image : List ℕ) → disks.may_leave disk image → StandsForOneOf w.pages (state_of w) (state_after w (transaction w txn)) image)
      → SameTold (disks.content old.disk) (disks.content disk)
      → Steps disks (record { transactions = old.transactions; journal = journal; disk = disk; commits = old.commits; broken = Some count })
      (event_of (Commit txn) (Refused DiskFault) count) w
  fault_steps old journal disk txn count w h may long leaves told =
      let allowed = may_fail_there w (Commit txn) count may refl in
      record {
        allowed = (refl, allowed);
        stands = unrecorded_stands disks old journal disk count w (broken_by w count txn) h
            (event_is_lawful w (Commit txn) (faults count) (Refused DiskFault) h.lawful allowed)
            (still_transactions old.transactions w count txn h.transactions) refl refl refl long
            (λ file is image left. failed_stands w count txn image (leaves file is image left)) told;
      }

  -- the record of a commit is staged
  pub is_staged : (honest : (disk : D) (c : List ℕ) → disks.content disk ≡ Some c → disks.may_leave disk c)
      → (old : Store D) (staged : JournalParts) (txn : ℕ) (w : World) → Stands disks old w → old.broken ≡ None
      → is_some (entry_of old.transactions.table txn) ≡ true → nat_le MOST_COUNTED old.commits ≡ false
      → staged ≡ record old.journal { staged = Some (commit_record (images_written old.transactions txn)) }
      → IsStaged disks old staged (commit_record (images_written old.transactions txn)) (state_after w (transaction w txn)) w
  is_staged honest old staged txn w h sound there few is =
      let entry = entry_there (entry_of old.transactions.table txn) there in
      staged_by disks honest old staged (commit_record (images_written old.transactions txn)) (state_after w (transaction w txn)) w h sound is
      (commit_makes w txn nothing (images_written old.transactions txn) h.lawful (commit_may disks old txn w sound h there few)
      (written_images old.transactions w txn entry.0 entry.1 (is_ready disks old w sound h)))
