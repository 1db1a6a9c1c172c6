-- A script on a store that was just opened.
use Rattle.std.proofs.Common.{◌≡◌, ◌∙◌, refl, Bool, true, sym, ap, subst, ℕ, ◌⊎◌, inl, inr, List, Option, Some, None, arith}
use Rattle.std.specs.Prelude.{IfSome, is_some}
use Rattle.disk_trait.specs.declared.disk.Disk.{Ghosts as DiskOf}
use Rattle.disk_trait.specs.Causes.{Rose}
use Rattle.disk_trait.specs.DiskFacts.{LeavesOnly, KeepsDisk}
use Rattle.store_model.specs.Worlds.{World, Event}
use Rattle.store_model.specs.Histories.{after}
use Rattle.store_model.specs.Lawful.{IsLawful}
use Rattle.image_model.specs.Opening.{StoreParts}
use Rattle.image_model.specs.Stores.{IsStore}
use Rattle.image_model.specs.Stands.{StandsForWorld, opened_world}
use Rattle.cut_core.specs.Seen.{Seen}
use Rattle.cut_core.specs.Starts.{IsJustOpened}
use Rattle.store_machine.specs.Acts.{Acts, RunsTo, IsLegalRun, StandsForFront}
use Rattle.store_run.specs.Lines.{ScriptRan, StoreRan}
use Rattle.store_run.specs.Ran.{Ran, RunBy, TakenBy, EndsBy, OpensTo, LeavesHistory}
use Rattle.store_run.specs.declared.status.Status.{Status}
use Rattle.store_run.specs.declared.status.Status.TheVariants.{Done, BadLine, TooLong, ReadFault, WriteFault, DiskFault, NotAStore, Damaged}
use Rattle.store_machine.proofs.Counts.{rose_later}
use Rattle.store_model.proofs.FaultCounts.{ascend_within}
use Rattle.store_machine.proofs.Moments.{leaves_more, leaves_then}
use Rattle.store_machine.proofs.Promising.{safe, collected}
use Rattle.store_machine.proofs.Running.{told_run}

-- a status with which a script ends
pub run_by : (status : Status) (left : Option (List ℕ)) (taken : List ℕ) (R N : Type 0) → TakenBy status left taken → R → RunBy status R N
run_by Done left taken R N t r = r
run_by (BadLine line column) left taken R N t r = r
run_by TooLong left taken R N t r = r
run_by ReadFault left taken R N t r = r
run_by WriteFault left taken R N t r = r
run_by DiskFault left taken R N t r = inl r
run_by _ left taken R N t r = absurd t

pub not_broken : (w : World) → IsJustOpened w → w.broken ≡ None
not_broken w just = ap (λ (v : World). v.broken) just.2

-- what the disk told is a store, which opens to this world
pub opens_to : (content : Option (List ℕ)) (w : World) → IfSome content (λ file. w ≡ opened_world file) → IfSome content (λ file. (store : StoreParts) × IsStore file store) → IfSome content (λ file. OpensTo file w)
opens_to None w is store = tt
opens_to (Some file) w is store = record { store = store; is = is }

-- where the disk told something as the call began, it tells as it ends
pub leaves_both : {A B C P Q R : Type 0} (o : Option A) (m : Option B) (n : Option C) → is_some m ≡ is_some o → is_some n ≡ is_some m → (is_some m ≡ true → P → Q → R) → IfSome m (λ _. P) → IfSome n (λ _. Q) → IfSome o (λ _. R)
leaves_both None m n e f g p q = tt
leaves_both (Some a) None n e f g p q = absurd cc
leaves_both (Some a) (Some b) None e f g p q = absurd cc
leaves_both (Some a) (Some b) (Some c) e f g p q = g refl p q

-- what holds where something is told
told : {A P : Type 0} (o : Option A) → (is_some o ≡ true → P) → IfSome o (λ _. P)
told None f = tt
told (Some a) f = f refl

module _ {D : Type 0} (disks : DiskOf D) where
  -- what opening a store says of it
  pub record Opening (disk : D) (core : Seen D) : Type 0 where
    pub world : IfSome (disks.content disk) (λ file. core.world ≡ opened_world file)
    pub store : IfSome (disks.content disk) (λ file. (store : StoreParts) × IsStore file store)
    pub just_opened : IsJustOpened core.world
    pub content_kept : disks.content core.disk ≡ disks.content disk
    pub keeps : KeepsDisk disks disk core.disk
    pub any_moment : LeavesOnly disks disk core.disk (disks.may_leave disk)
    pub calm : disks.fault_count core.disk ≡ disks.fault_count disk

  -- where the disk tells, each run is legal
  after_run : (core new : Seen D) (history : List Event) → Acts disks core new history → is_some (disks.content core.disk) ≡ true → new.world ≡ after core.world history
  after_run core new history acts is = (told_run (is_some (disks.content core.disk)) core.world new.world history is acts.runs).last_is

  pub leaves_history : (disk : D) (core new : Seen D) (history : List Event) → Opening disk core → new.world ≡ after core.world history
      → LeavesOnly disks core.disk new.disk (StandsForFront core.world history) → ((file : List ℕ) → disks.may_leave new.disk file → StandsForWorld file new.world)
      → LeavesHistory disks disk new.disk core.world history
  leaves_history disk core new history o is moments now = record {
    now = λ file left. subst (λ (w : World). StandsForWorld file w) is (now file left);
    any_moment = leaves_then disks disk core.disk new.disk (λ file. disks.may_leave disk file ⊎ StandsForFront core.world history file)
        (leaves_more disks disk core.disk (disks.may_leave disk) (λ file. disks.may_leave disk file ⊎ StandsForFront core.world history file) (λ file l. inl l) o.any_moment)
        (leaves_more disks core.disk new.disk (StandsForFront core.world history) (λ file. disks.may_leave disk file ⊎ StandsForFront core.world history file) (λ file l. inr l) moments);
  }

  opened_ran : (status : Status) (disk : D) (core new : Seen D) (a b h i : Option (List ℕ)) → Opening disk core → IsLawful core.world → ScriptRan disks status core new a b h i
      → Ran disks status disk new.disk a b h i
  opened_ran status disk core new a b h i o lawful s = record {
    world = core.world;
    history = s.history;
    taken = s.taken;
    just_opened = o.just_opened;
    opens = opens_to (disks.content disk) core.world o.world o.store;
    last = new.world;
    runs = runs;
    legal = told (disks.content disk) (λ is. legal_run is);
    safe = told (disks.content disk) (λ is. safe core.world s.history lawful (legal_run is).legal);
    collected = told (disks.content disk) (λ is. collected core.world s.history lawful (legal_run is).legal);
    consumed = s.consumed;
    reads = s.reads;
    follows = s.follows;
    written = s.written;
    ends = s.ends;
    crashes = leaves_both (disks.content disk) (disks.content core.disk) (disks.content new.disk) (ap is_some o.content_kept) s.acts.keeps.told (λ is. leaves_history disk core new s.history o (after_run core new s.history s.acts is)) s.acts.any_moment s.acts.now;
    faults = ascend_within (disks.fault_count disk) (disks.fault_count core.disk) (disks.fault_count new.disk) (disks.fault_count new.disk) s.history o.keeps.later (omega arith) s.acts.faults;
    calm = λ none. s.acts.calm none ∙ o.calm;
  }
    where
      same : is_some (disks.content core.disk) ≡ is_some (disks.content disk)
      same = ap is_some o.content_kept

      runs : RunsTo (is_some (disks.content disk)) core.world s.history new.world
      runs = subst (λ (is : Bool). RunsTo is core.world s.history new.world) same s.acts.runs

      legal_run : is_some (disks.content disk) ≡ true → IsLegalRun core.world s.history new.world
      legal_run is = told_run (is_some (disks.content disk)) core.world new.world s.history is runs

  pub opened_run : (status : Status) (disk now : D) (core : Seen D) (a b h i : Option (List ℕ)) (N : Type 0) → Opening disk core
      → StoreRan disks status core now a b h i → RunBy status (Ran disks status disk now a b h i) N
  opened_run status disk now core a b h i N o s =
      run_by status b s.script.taken (Ran disks status disk now a b h i) N s.script.reads
      (subst (λ (end : D). Ran disks status disk end a b h i) (sym s.disk_is) (opened_ran status disk core s.new a b h i o s.lawful s.script))

  -- a store that is broken at the end has seen a fault
  pub opened_fault : (status : Status) (disk now : D) (core : Seen D) (a b h i : Option (List ℕ)) → Opening disk core
      → StoreRan disks status core now a b h i → status ≡ DiskFault → Rose (disks.fault_count disk) (disks.fault_count now)
  opened_fault status disk now core a b h i o s is =
      let ends : EndsBy DiskFault s.new.world = subst (λ (x : Status). EndsBy x s.new.world) is s.script.ends in
      subst (λ (end : D). Rose (disks.fault_count disk) (disks.fault_count end)) (sym s.disk_is)
      (rose_later (disks.fault_count disk) (disks.fault_count core.disk) (disks.fault_count s.new.disk) o.keeps.later (s.script.acts.cause (not_broken core.world o.just_opened) ends))

  pub opened_store : (status : Status) (now : D) (core : Seen D) (a b h i : Option (List ℕ)) → StoreRan disks status core now a b h i → status ≡ NotAStore → ⊥
  opened_store status now core a b h i s is = subst (λ (x : Status). TakenBy x b s.script.taken) is s.script.reads

  pub opened_whole : (status : Status) (now : D) (core : Seen D) (a b h i : Option (List ℕ)) (at : ℕ) → StoreRan disks status core now a b h i → status ≡ Damaged at → ⊥
  opened_whole status now core a b h i at s is = subst (λ (x : Status). TakenBy x b s.script.taken) is s.script.reads

  pub opened_keeps : (status : Status) (disk now : D) (core : Seen D) (a b h i : Option (List ℕ)) → Opening disk core
      → StoreRan disks status core now a b h i → KeepsDisk disks disk now
  opened_keeps status disk now core a b h i o s = subst (λ (end : D). KeepsDisk disks disk end) (sym s.disk_is) (record {
    size = s.script.acts.keeps.size ∙ o.keeps.size;
    told = s.script.acts.keeps.told ∙ o.keeps.told;
    later = omega (arith, o.keeps.later, s.script.acts.keeps.later);
  })
