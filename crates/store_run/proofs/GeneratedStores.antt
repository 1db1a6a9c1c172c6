-- A run of the generator on a store that was just made.
use Rattle.std.proofs.Common.{◌≡◌, refl, sym, ap, ◌∙◌, subst, ℕ, ◌≤◌, ◌<◌, inl, inr, true, false, List, Option, Some, None, arith}
use Rattle.std.specs.Prelude.{IfSome, is_some, IsTrue, not}
use Rattle.std.proofs.KnownBytes.{Appends-nil}
use Rattle.std.specs.Io.KnownBytes.{Appends}
use Rattle.disk_trait.specs.declared.disk.Disk.{Ghosts as DiskOf}
use Rattle.disk_trait.specs.Causes.{Rose}
use Rattle.disk_trait.specs.DiskFacts.{KeepsDisk}
use Rattle.store_model.specs.Worlds.{World, Event, fresh_world}
use Rattle.store_model.specs.Histories.{after}
use Rattle.store_model.proofs.FaultCounts.{ascend_within}
use Rattle.redo_journal.specs.Homes.{store_size}
use Rattle.image_model.specs.Super.{is_page_count}
use Rattle.image_model.specs.Opening.{Fault, StoreParts, not_a_store, damaged}
use Rattle.image_model.specs.Stores.{IsStore, HasFault}
use Rattle.image_model.specs.Stands.{StandsForWorld, opened_world}
use Rattle.recovery.specs.declared.faults.MakeFault.{MakeFault}
use Rattle.recovery.specs.declared.faults.MakeFault.TheVariants.{BadPages as Make-BadPages, TooShort as Make-TooShort, Memory as Make-Memory, DiskFault as Make-DiskFault}
use Rattle.recovery.specs.declared.faults.OpenFault.{OpenFault}
use Rattle.recovery.specs.declared.faults.OpenFault.TheVariants.{DiskFault as Open-DiskFault, NotAStore as Open-NotAStore, Damaged as Open-Damaged, Memory as Open-Memory}
use Rattle.cut_core.specs.Seen.{Seen}
use Rattle.cut_core.specs.Starts.{IsJustOpened}
use Rattle.cut_core.proofs.StoreFaults.{store_has_none}
use Rattle.generator.specs.Rounds.{store_pages}
use Rattle.generator.specs.Making.{HasGenerated, HasStopped}
use Rattle.generator.specs.declared.asking.Stop.{Stop}
use Rattle.generator.specs.declared.asking.Stop.TheVariants.{Memory as ByMemory, DiskFault as ByDisk}
use Rattle.store_run.specs.Writing.{AppendsFront}
use Rattle.store_run.specs.Statuses.{open_status}
use Rattle.store_run.specs.Complete.{IsDoneOrMemory}
use Rattle.store_run.specs.Generated.{make_status, status_of_stop, WroteLine, FollowsRounds, Generated, GeneratedBy, RoundsMade}
use Rattle.store_run.specs.declared.status.Status.{Status}
use Rattle.store_run.specs.declared.status.Status.TheVariants.{Done, Usage, WriteFault, DiskFault, NotAStore, Damaged, Memory, TooShort, ReadFault}

-- ---- what the disk tells

told_none : {A : Type 0} (o m : Option A) → is_some m ≡ is_some o → m ≡ None → o ≡ None
told_none None m e n = refl
told_none (Some a) m e n = let z : is_some m ≡ false = ap is_some n in cc

-- where the disk told something before, it tells this now
told_first : {A : Type 0} (o m : Option A) (P : Type 0) → is_some m ≡ is_some o → IfSome m (λ _. P) → IfSome o (λ _. P)
told_first None m P e h = tt
told_first (Some a) None P e h = absurd cc
told_first (Some a) (Some b) P e h = h

fresh_now : (m : Option (List ℕ)) (w : World) (pages : ℕ) → IfSome m (λ file. w ≡ opened_world file) → IfSome m (λ file. opened_world file ≡ fresh_world pages) → IfSome m (λ _. w ≡ fresh_world pages)
fresh_now None w pages a b = tt
fresh_now (Some file) w pages a b = a ∙ b

no_fault : (m : Option (List ℕ)) (held : StoreParts) (fault : Fault) → IfSome m (λ file. IsStore file held) → IfSome m (λ file. HasFault file fault) → m ≡ None
no_fault None held fault s f = refl
no_fault (Some file) held fault s f = absurd (store_has_none file held fault s f)

none_of : {A : Type 0} (a : A) → ◌≡◌ {A = Option A} (Some a) None → ⊥
none_of a e = cc

too_small : (size len need most : ℕ) → len ≡ size → need ≡ most → len < need → most ≤ size → ⊥
too_small size len need most l n short long = absurd (omega arith)

-- ---- ends before the first call

pub opening_refused : (fault : OpenFault) (size : ℕ) (content now : Option (List ℕ)) (held : StoreParts) (G N : Type 0) → N → is_some now ≡ is_some content
    → IfSome now (λ file. IsStore file held) → (fault ≡ Open-NotAStore → IfSome now (λ file. HasFault file not_a_store))
    → ((at : ℕ) → fault ≡ Open-Damaged at → IfSome now (λ file. HasFault file (damaged at))) → GeneratedBy (open_status fault) size content G N
opening_refused Open-DiskFault size content now held G N n told store none bad = inr n
opening_refused Open-NotAStore size content now held G N n told store none bad = (n, told_none content now told (no_fault now held not_a_store store (none refl)))
opening_refused (Open-Damaged at) size content now held G N n told store none bad = (n, told_none content now told (no_fault now held (damaged at) store (bad at refl)))
opening_refused Open-Memory size content now held G N n told store none bad = inr n

pub making_refused : (fault : MakeFault) (size : ℕ) (content : Option (List ℕ)) (G N : Type 0) → N
    → ((pages : ℕ) → fault ≡ Make-BadPages pages → (pages ≡ store_pages) × IsTrue (not (is_page_count store_pages)))
    → ((len need : ℕ) → fault ≡ Make-TooShort len need → (len ≡ size) × (need ≡ store_size store_pages) × IsTrue (is_page_count store_pages) × (len < need))
    → GeneratedBy (make_status fault) size content G N
making_refused (Make-BadPages pages) size content G N n bad short = let z = (bad pages refl).1 in absurd (no z)
  where
    no : false ≡ true → ⊥
    no e = cc
making_refused (Make-TooShort len need) size content G N n bad short =
    let s = short len need refl in (n, record { count = s.2; len_is = s.0; need_is = s.1; short = s.3 })
making_refused Make-Memory size content G N n bad short = inr n
making_refused Make-DiskFault size content G N n bad short = inr n

-- a disk that is too short isn't one that failed
pub making_short : (fault : MakeFault) (len need : ℕ) → make_status fault ≡ TooShort len need → fault ≡ Make-DiskFault → ⊥
making_short fault len need is e = let z : DiskFault ≡ TooShort len need = sym (ap make_status e) ∙ is in absurd cc

pub opening_not_short : (fault : OpenFault) (len need : ℕ) → open_status fault ≡ TooShort len need → ⊥
opening_not_short Open-DiskFault len need is = absurd cc
opening_not_short Open-NotAStore len need is = absurd cc
opening_not_short (Open-Damaged at) len need is = absurd cc
opening_not_short Open-Memory len need is = absurd cc

-- a store that was just made, and isn't fresh as it is opened
pub another_store : (content now : Option (List ℕ)) (w : World) → is_some now ≡ is_some content → IfSome now (λ file. w ≡ opened_world file)
    → IfSome now (λ file. opened_world file ≡ fresh_world store_pages) → (w.pages ≡ store_pages → w.commits ≡ 0 → ⊥) → content ≡ None
another_store content None w told a b other = told_none content None told refl
another_store content (Some file) w told a b other = let is : w ≡ fresh_world store_pages = a ∙ b in absurd (other (ap (λ (v : World). v.pages) is) (ap (λ (v : World). v.commits) is))

-- ---- the run

by_status : (status : Status) (from count : ℕ) (history : List Event) (size : ℕ) (content : Option (List ℕ)) (G N : Type 0) → FollowsRounds status from count history → G
    → GeneratedBy status size content G N
by_status Done from count history size content G N f x = x
by_status WriteFault from count history size content G N f x = x
by_status Memory from count history size content G N f x = inl x
by_status DiskFault from count history size content G N f x = inl x
by_status _ from count history size content G N f x = absurd f

module _ {D : Type 0} (disks : DiskOf D) where
  pub rounds_generated : (status : Status) (from count : ℕ) (disk made : D) (core : Seen D) (new : D) (h i : Option (List ℕ)) (N : Type 0)
      → KeepsDisk disks disk made → disks.fault_count made ≡ disks.fault_count disk → IfSome (disks.content made) (λ file. opened_world file ≡ fresh_world store_pages)
      → IfSome (disks.content made) (λ file. core.world ≡ opened_world file) → IsJustOpened core.world → disks.content core.disk ≡ disks.content made → KeepsDisk disks made core.disk
      → RoundsMade disks status from count core new h i
      → GeneratedBy status (disks.size disk) (disks.content disk) (Generated disks status from count disk new h i) N
  rounds_generated status from count disk made core new h i N first calm fresh opens just kept second r =
      by_status status from count r.history (disks.size disk) (disks.content disk) (Generated disks status from count disk new h i) N r.follows
      (subst (λ (d : D). Generated disks status from count disk d h i) (sym r.disk_is) (record {
        world = core.world;
        history = r.history;
        just_opened = just;
        fresh = told_first (disks.content disk) (disks.content made) (core.world ≡ fresh_world store_pages) first.told (fresh_now (disks.content made) core.world store_pages opens fresh);
        legal = r.legal.legal;
        is_run = r.legal.is_run;
        follows = r.follows;
        written = r.written;
        crashes = told_first (disks.content disk) (disks.content r.last.disk) ((file : List ℕ) → disks.may_leave r.last.disk file → StandsForWorld file (after core.world r.history))
            (r.acts.keeps.told ∙ (second.told ∙ first.told))
            (now_after (disks.content r.last.disk) r.legal.last_is r.acts.now);
        faults = ascend_within (disks.fault_count disk) (disks.fault_count core.disk) (disks.fault_count r.last.disk) (disks.fault_count r.last.disk) r.history
            (let a = first.later in let b = second.later in omega arith) (omega arith) r.acts.faults;
      }))
    where
      now_after : (o : Option (List ℕ)) → r.last.world ≡ after core.world r.history → IfSome o (λ _. (file : List ℕ) → disks.may_leave r.last.disk file → StandsForWorld file r.last.world)
          → IfSome o (λ _. (file : List ℕ) → disks.may_leave r.last.disk file → StandsForWorld file (after core.world r.history))
      now_after None e n = tt
      now_after (Some c) e n = λ file left. subst (λ (w : World). StandsForWorld file w) e (n file left)

  pub rounds_keep : (status : Status) (from count : ℕ) (disk made : D) (core : Seen D) (new : D) (h i : Option (List ℕ))
      → KeepsDisk disks disk made → KeepsDisk disks made core.disk → RoundsMade disks status from count core new h i → KeepsDisk disks disk new
  rounds_keep status from count disk made core new h i first second r = subst (λ (d : D). KeepsDisk disks disk d) (sym r.disk_is) (record {
    size = r.acts.keeps.size ∙ (second.size ∙ first.size);
    told = r.acts.keeps.told ∙ (second.told ∙ first.told);
    later = let a = first.later in let b = second.later in let c = r.acts.keeps.later in omega arith;
  })

  pub rounds_not_short : (status : Status) (from count : ℕ) (core : Seen D) (new : D) (h i : Option (List ℕ)) (len need : ℕ) → RoundsMade disks status from count core new h i → status ≡ TooShort len need → ⊥
  rounds_not_short status from count core new h i len need r is = subst (λ (s : Status). FollowsRounds s from count r.history) is r.follows

  -- ---- by how the run ended

  pub rounds_stopped_memory : (from count : ℕ) (core last : Seen D) (new : D) (h : Option (List ℕ)) → new ≡ last.disk → HasStopped disks core last from count ByMemory
      → RoundsMade disks Memory from count core new h h
  rounds_stopped_memory from count core last new h e s =
      record { last = last; disk_is = e; history = s.history; acts = s.acts; legal = s.legal; follows = s.follows; written = Appends-nil h }

  pub rounds_stopped_disk : (from count : ℕ) (core last : Seen D) (new : D) (h : Option (List ℕ)) → new ≡ last.disk → HasStopped disks core last from count ByDisk
      → RoundsMade disks DiskFault from count core new h h
  rounds_stopped_disk from count core last new h e s =
      record { last = last; disk_is = e; history = s.history; acts = s.acts; legal = s.legal; follows = s.follows; written = Appends-nil h }

  pub rounds_written : (from count : ℕ) (core last : Seen D) (new : D) (h i : Option (List ℕ)) (line : List ℕ) → new ≡ last.disk → HasGenerated disks core last from count line → Appends h i line
      → RoundsMade disks Done from count core new h i
  rounds_written from count core last new h i line e s a =
      record { last = last; disk_is = e; history = s.history; acts = s.acts; legal = s.legal; follows = s.follows; written = subst (λ (l : List ℕ). Appends h i l) s.line_is a }

  pub rounds_begun : (from count : ℕ) (core last : Seen D) (new : D) (h i : Option (List ℕ)) (line : List ℕ) → new ≡ last.disk → HasGenerated disks core last from count line → AppendsFront h i line
      → RoundsMade disks WriteFault from count core new h i
  rounds_begun from count core last new h i line e s a =
      record { last = last; disk_is = e; history = s.history; acts = s.acts; legal = s.legal; follows = s.follows; written = subst (λ (l : List ℕ). AppendsFront h i l) s.line_is a }

  -- the same, of a machine over the core
  pub ended_stopped : (from count : ℕ) (machine core last : Seen D) (new : D) (h : Option (List ℕ)) (stop : Stop) → machine ≡ core → new ≡ last.disk → HasStopped disks machine last from count stop
      → RoundsMade disks (status_of_stop stop) from count core new h h
  ended_stopped from count machine core last new h ByMemory same d x =
      rounds_stopped_memory from count core last new h d (subst (λ (s : Seen D). HasStopped disks s last from count ByMemory) same x)
  ended_stopped from count machine core last new h ByDisk same d x =
      rounds_stopped_disk from count core last new h d (subst (λ (s : Seen D). HasStopped disks s last from count ByDisk) same x)

  by_writing : (status : Status) (from count : ℕ) (core last : Seen D) (new : D) (h i : Option (List ℕ)) (line : List ℕ) → new ≡ last.disk → HasGenerated disks core last from count line
      → WroteLine status h i line → RoundsMade disks status from count core new h i
  by_writing Done from count core last new h i line d x w = rounds_written from count core last new h i line d x w
  by_writing WriteFault from count core last new h i line d x w = rounds_begun from count core last new h i line d x w
  by_writing _ from count core last new h i line d x w = absurd w

  pub ended_whole : (status : Status) (from count : ℕ) (machine core last : Seen D) (new : D) (h i : Option (List ℕ)) (line : List ℕ) → machine ≡ core → new ≡ last.disk
      → HasGenerated disks machine last from count line → WroteLine status h i line → RoundsMade disks status from count core new h i
  ended_whole status from count machine core last new h i line same d x w =
      by_writing status from count core last new h i line d (subst (λ (s : Seen D). HasGenerated disks s last from count line) same x) w

-- where nothing fails, a store that fits is made and its line is written
pub generated_whole : (status : Status) (size : ℕ) (content : Option (List ℕ)) (file : List ℕ) (G N : Type 0) (before now sink_before sink_now : ℕ) → GeneratedBy status size content G N
    → content ≡ Some file → store_size store_pages ≤ size → (status ≡ DiskFault → Rose before now) → (status ≡ WriteFault → Rose sink_before sink_now)
    → (Rose before now → ⊥) → (Rose sink_before sink_now → ⊥) → IsDoneOrMemory status
generated_whole Done size content file G N a b c d g told long fault write nf nw = inl refl
generated_whole Memory size content file G N a b c d g told long fault write nf nw = inr refl
generated_whole DiskFault size content file G N a b c d g told long fault write nf nw = absurd (nf (fault refl))
generated_whole WriteFault size content file G N a b c d g told long fault write nf nw = absurd (nw (write refl))
generated_whole NotAStore size content file G N a b c d g told long fault write nf nw = let z : Some file ≡ None = sym told ∙ g.1 in absurd (none_of file z)
generated_whole (Damaged at) size content file G N a b c d g told long fault write nf nw = let z : Some file ≡ None = sym told ∙ g.1 in absurd (none_of file z)
generated_whole (TooShort len need) size content file G N a b c d g told long fault write nf nw = absurd (too_small size len need (store_size store_pages) g.1.len_is g.1.need_is g.1.short long)
generated_whole _ size content file G N a b c d g told long fault write nf nw = absurd g

pub generated_no_usage : (status : Status) (size : ℕ) (content : Option (List ℕ)) (G N : Type 0) → GeneratedBy status size content G N → status ≡ Usage → ⊥
generated_no_usage status size content G N g is = subst (λ (s : Status). GeneratedBy s size content G N) is g

pub generated_no_read : (status : Status) (size : ℕ) (content : Option (List ℕ)) (G N : Type 0) → GeneratedBy status size content G N → status ≡ ReadFault → ⊥
generated_no_read status size content G N g is = subst (λ (s : Status). GeneratedBy s size content G N) is g

pub generated_no_store : (status : Status) (size : ℕ) (content : Option (List ℕ)) (G N : Type 0) → GeneratedBy status size content G N → status ≡ NotAStore → content ≡ None
generated_no_store status size content G N g is = (subst (λ (s : Status). GeneratedBy s size content G N) is g).1

pub generated_no_damage : (status : Status) (size : ℕ) (content : Option (List ℕ)) (G N : Type 0) (at : ℕ) → GeneratedBy status size content G N → status ≡ Damaged at → content ≡ None
generated_no_damage status size content G N at g is = (subst (λ (s : Status). GeneratedBy s size content G N) is g).1

-- of a disk that doesn't tell nothing is said
pub untold : (content : Option (List ℕ)) (P : List ℕ → Type 0) → content ≡ None → IfSome content P
untold content P e = subst (λ (o : Option (List ℕ)). IfSome o P) (sym e) tt
