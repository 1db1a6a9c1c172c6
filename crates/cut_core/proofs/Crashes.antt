-- What a run of device calls leaves, and the state for which the disk stands.
use Rattle.std.proofs.Common.{◌≡◌, inl, ◌+◌, ℕ, List, [], ◌∷◌, ◌++◌, Option, None, Some, arith, subst, refl, sym, ap}
use Rattle.std.specs.Prelude.{IfSome, IsSomeAnd, OnOk, Result, Ok, Err}
use Rattle.disk_trait.specs.Disk.{Only, IsSynced}
use Rattle.disk_trait.specs.DiskFacts.{LeavesOnly}
use Rattle.disk_trait.specs.declared.disk.Disk.{Ghosts as DiskOf}
use Rattle.disk_trait.proofs.DiskSteps.{goes_further, weaker}
use Rattle.redo_journal.specs.Journals.{JournalParts, HoldsFor, IsOn, IsAppendedOrNot, IsAppended, appended}
use Rattle.redo_journal.specs.Record.{RecordParts, commits_of}
use Rattle.redo_journal.proofs.Moments.{if_some_map}
use Rattle.store_model.specs.States.{State}
use Rattle.image_model.specs.Stands.{StandsFor, IsStoreOf, IsJournalOf}
use Rattle.image_model.proofs.AppendedRecords.{record_or_not, record_counts, journal_counts}
use Rattle.image_model.specs.Records.{IsAfterRecord}
use Rattle.redo_journal.specs.Sending.{turned_over}
use Rattle.cut_core.specs.Writing.{KeepsState, StandsForOneOf}

-- ---- options

pub at_some : {A : Type 0} (P : A → Type 0) (o : Option A) (x : A) → o ≡ Some x → IfSome o P → P x
at_some P o x is h = subst (λ q. IfSome q P) is h

pub some_of : {A : Type 0} (P : A → Type 0) (o : Option A) → IsSomeAnd o P → (x : A) × (o ≡ Some x) × P x
some_of P None h = absurd h
some_of P (Some x) h = (x, refl, h)

pub some_and : {A : Type 0} (P : A → Type 0) (o : Option A) (x : A) → o ≡ Some x → P x → IsSomeAnd o P
some_and P o x is h = subst (λ q. IsSomeAnd q P) (sym is) h

pub if_some : {A : Type 0} (P : A → Type 0) (o : Option A) (x : A) → o ≡ Some x → P x → IfSome o P
if_some P o x is h = subst (λ q. IfSome q P) (sym is) h

-- ---- the journal's store

pub is_on : (journal : JournalParts) (file : List ℕ) → IsStoreOf journal file → IsOn journal file
is_on journal file own = (own.0, own.1.holds)

pub if_on : (journal : JournalParts) (o : Option (List ℕ)) → IfSome o (IsStoreOf journal) → IfSome o (IsOn journal)
if_on journal o h = if_some_map o (IsStoreOf journal) (IsOn journal) (λ c is own. is_on journal c own) h

-- ---- a record is appended

module _ {D : Type 0} (disks : DiskOf D) where
  -- a crash leaves the state before it or after it
  pub append_leaves : (old new : D) (journal : JournalParts) (outcomes : List ℕ → Type 0) (file : List ℕ) (r : RecordParts) (s t : State) → KeepsState journal outcomes s file
      → IsAfterRecord journal.pages r s t
      → ((records : List RecordParts) → HoldsFor journal records file → LeavesOnly disks old new (IsAppendedOrNot journal records r file))
      → LeavesOnly disks old new (StandsForOneOf journal.pages s t)
  append_leaves old new journal outcomes file r s t keeps after runs =
      let own = keeps.own in
      weaker disks old new (IsAppendedOrNot journal own.0 r file) (StandsForOneOf journal.pages s t)
      (λ c left. record_or_not file c journal.pages s t journal own.0 r keeps.stands own.1 after left)
      (runs own.0 own.1.holds)

-- and from `Ok` on the one after it
pub append_keeps : (journal next : JournalParts) (before now : List ℕ → Type 0) (content : Option (List ℕ)) (file : List ℕ) (r : RecordParts) (s t : State) → KeepsState journal before s file
    → IsAfterRecord journal.pages r s t → next ≡ appended r journal → IsSynced content now
    → ((records : List RecordParts) → HoldsFor journal records file → IsSomeAnd content (IsAppended next records r file))
    → IsSomeAnd content (KeepsState next now t)
append_keeps journal next before now content file r s t keeps after is synced acknowledged =
    let own = keeps.own in
    let told = some_of (IsAppended next own.0 r file) content (acknowledged own.0 own.1.holds) in
    let appends : IsAppended (appended r journal) own.0 r file told.0 = subst (λ j. IsAppended j own.0 r file told.0) is told.2 in
    some_and (KeepsState next now t) content told.0 told.1 (subst (λ j. KeepsState j now t told.0) (sym is) (record {
      synced = at_some (λ d. Only d now) content told.0 told.1 synced;
      own = (own.0 ++ r ∷ [], journal_counts file told.0 journal own.0 r own.1 appends);
      stands = record_counts file told.0 journal.pages s t journal own.0 r keeps.stands own.1 after appends;
    }))

-- what an append leaves of the journal
pub appended_pages : (journal next : JournalParts) (P : RecordParts → Type 0) → IsSomeAnd journal.staged P → IfSome journal.staged (λ r. next ≡ appended r journal) → next.pages ≡ journal.pages
appended_pages journal next P there is =
    let r = some_of P journal.staged there in
    ap (λ (j : JournalParts). j.pages) (at_some (λ r. next ≡ appended r journal) journal.staged r.0 r.1 is)

pub appended_commits : (journal next : JournalParts) (r : RecordParts) → journal.staged ≡ Some r → IfSome journal.staged (λ r. next ≡ appended r journal)
    → next.base + next.commits ≡ journal.base + journal.commits + commits_of r.kind
appended_commits journal next r there is =
    let e = at_some (λ r. next ≡ appended r journal) journal.staged r there is in
    let base : next.base ≡ journal.base = ap (λ (j : JournalParts). j.base) e in
    let commits : next.commits ≡ journal.commits + commits_of r.kind = ap (λ (j : JournalParts). j.commits) e in
    omega (arith, base, commits)

-- ---- room is made, and then a record is appended

module _ {D : Type 0} (disks : DiskOf D) where
  pub write_leaves : (old mid new : D) (pages n : ℕ) (s t : State) → n ≡ pages → LeavesOnly disks old mid (λ image. StandsFor image pages s)
      → LeavesOnly disks mid new (StandsForOneOf n s t) → LeavesOnly disks old new (StandsForOneOf pages s t)
  write_leaves old mid new pages n s t same before later =
      goes_further disks old mid new (StandsForOneOf pages s t) (StandsForOneOf pages s t)
      (weaker disks old mid (λ image. StandsFor image pages s) (StandsForOneOf pages s t) (λ c p. inl p) before)
      (subst (λ m. LeavesOnly disks mid new (StandsForOneOf m s t)) same later) (λ c p. p)

-- the journal after a checkpoint
pub turned_keeps : (journal next : JournalParts) (commits : ℕ) (now : List ℕ → Type 0) (content : Option (List ℕ)) (s : State) → next ≡ turned_over commits journal
    → IfSome content (IsJournalOf next []) → IsSynced content now → IsSomeAnd content (λ f. StandsFor f journal.pages s) → IsSomeAnd content (KeepsState next now s)
turned_keeps journal next commits now content s is own synced stands =
    let told = some_of (λ f. StandsFor f journal.pages s) content stands in
    some_and (KeepsState next now s) content told.0 told.1 (record {
      synced = at_some (λ d. Only d now) content told.0 told.1 synced;
      own = ([], at_some (IsJournalOf next []) content told.0 told.1 own);
      stands = subst (λ n. StandsFor told.0 n s) (sym (ap (λ (j : JournalParts). j.pages) is)) told.2;
    })

-- an answer `Ok` with several facts
pub on_ok_of : {T E : Type 0} (r : Result T E) (A B C P : Type 0) → (A → B → C → P) → OnOk r A → OnOk r B → OnOk r C → OnOk r P
on_ok_of (Ok x) A B C P f a b c = f a b c
on_ok_of (Err e) A B C P f a b c = tt

-- ---- a record is staged

-- the store is the journal's, whatever it has staged
pub own_staged : (journal : JournalParts) (r : Option RecordParts) (file : List ℕ) → IsStoreOf journal file → IsStoreOf (record journal { staged = r }) file
own_staged journal r file own =
    (own.0, record { active = own.1.active; holds = record { holds = own.1.holds.holds; end = own.1.holds.end; commits = own.1.holds.commits; places = own.1.holds.places } })

pub keeps_staged : (journal next : JournalParts) (r : Option RecordParts) (outcomes : List ℕ → Type 0) (s : State) (file : List ℕ) → next ≡ record journal { staged = r } → KeepsState journal outcomes s file
    → KeepsState next outcomes s file
keeps_staged journal next r outcomes s file is k = subst (λ j. KeepsState j outcomes s file) (sym is) (record { synced = k.synced; own = own_staged journal r file k.own; stands = k.stands })
