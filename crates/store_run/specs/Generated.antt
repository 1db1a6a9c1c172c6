-- What `gen` did, by its status.
use Rattle.std.specs.Prelude.{◌≡◌, ◌⊎◌, ℕ, List, [], Option, None, IfSome}
use Rattle.std.specs.Io.KnownBytes.{Appends}
use Rattle.disk_trait.specs.declared.disk.Disk.{Ghosts as DiskOf}
use Rattle.object_graph.specs.declared.calls.Refusal.TheVariants.{DiskFault as Failed, Memory as NoMemory}
use Rattle.store_model.specs.Worlds.{World, Event, fresh_world}
use Rattle.store_model.specs.Faults.{FaultsAscend}
use Rattle.store_model.specs.Histories.{IsLegal, IsScriptRun, after}
use Rattle.image_model.specs.Stands.{StandsForWorld}
use Rattle.recovery.specs.declared.faults.MakeFault.{MakeFault}
use Rattle.recovery.specs.declared.faults.MakeFault.TheVariants.{BadPages as Make-BadPages, TooShort as Make-TooShort, Memory as Make-Memory, DiskFault as Make-DiskFault}
use Rattle.cut_core.specs.Seen.{Seen}
use Rattle.cut_core.specs.Starts.{IsJustOpened}
use Rattle.store_machine.specs.Acts.{Acts, IsLegalRun}
use Rattle.generator.specs.Rounds.{store_pages, FollowsGenerator, StopsGenerator}
use Rattle.generator.specs.Summaries.{summary}
use Rattle.generator.specs.declared.asking.Stop.{Stop}
use Rattle.generator.specs.declared.asking.Stop.TheVariants.{Memory as ByMemory, DiskFault as ByDisk}
use Rattle.store_run.specs.Made.{IsTooShort}
use Rattle.store_run.specs.Writing.{AppendsFront}
use Rattle.store_run.specs.declared.status.Status.{Status}
use Rattle.store_run.specs.declared.status.Status.TheVariants.{Done, WriteFault, DiskFault, NotAStore, Damaged, Memory, BadPages, TooShort}

-- the status where a store couldn't be made
abbrev pub make_status : MakeFault → Status
make_status (Make-BadPages pages) = BadPages pages
make_status (Make-TooShort len need) = TooShort len need
make_status Make-Memory = Memory
make_status Make-DiskFault = DiskFault

-- the status of a run that stopped
abbrev pub status_of_stop : Stop → Status
status_of_stop ByMemory = Memory
status_of_stop ByDisk = DiskFault

-- the line was written, or a front of it
abbrev pub WroteLine : Status → Option (List ℕ) → Option (List ℕ) → List ℕ → Type 0
WroteLine Done before now line = Appends before now line
WroteLine WriteFault before now line = AppendsFront before now line
WroteLine status before now line = ⊥

-- the history is the whole run, or the run up to the reply that stopped it
abbrev pub FollowsRounds : Status → ℕ → ℕ → List Event → Type 0
FollowsRounds Done from count history = FollowsGenerator from count history
FollowsRounds WriteFault from count history = FollowsGenerator from count history
FollowsRounds Memory from count history = StopsGenerator from count NoMemory history
FollowsRounds DiskFault from count history = StopsGenerator from count Failed history
FollowsRounds status from count history = ⊥

-- the line was written, or a front of it that isn't all; where the run stopped, nothing
abbrev pub WritesLine : Status → Option (List ℕ) → Option (List ℕ) → List ℕ → Type 0
WritesLine Done before now line = Appends before now line
WritesLine WriteFault before now line = AppendsFront before now line
WritesLine status before now line = Appends before now []

-- One history, legal from the world of the fresh store, says what was done and written, and what a crash leaves.
pub record Generated {D : Type 0} (disks : DiskOf D) (status : Status) (from count : ℕ) (old new : D)
    (held_before held_now : Option (List ℕ)) : Type 0 where
  pub world : World
  pub history : List Event
  pub just_opened : IsJustOpened world
  pub fresh : IfSome (disks.content old) (λ _. world ≡ fresh_world store_pages)
  pub legal : IsLegal world history
  pub is_run : IsScriptRun world history
  pub follows : FollowsRounds status from count history
  pub written : WritesLine status held_before held_now (summary count world history)
  pub crashes : IfSome (disks.content old) (λ _. (file : List ℕ) → disks.may_leave new file
      → StandsForWorld file (after world history))
  pub faults : FaultsAscend (disks.fault_count old) (disks.fault_count new) history

-- Which of the two it is: a run, or its end before the first call, where nothing was written. A store that was just
-- made is opened wherever the disk tells.
abbrev pub GeneratedBy : Status → ℕ → Option (List ℕ) → Type 0 → Type 0 → Type 0
GeneratedBy Done size content generated unwritten = generated
GeneratedBy WriteFault size content generated unwritten = generated
GeneratedBy Memory size content generated unwritten = generated ⊎ unwritten
GeneratedBy DiskFault size content generated unwritten = generated ⊎ unwritten
GeneratedBy NotAStore size content generated unwritten = unwritten × (content ≡ None)
GeneratedBy (Damaged at) size content generated unwritten = unwritten × (content ≡ None)
GeneratedBy (TooShort len need) size content generated unwritten = unwritten × IsTooShort size store_pages len need
GeneratedBy status size content generated unwritten = ⊥

-- rounds were made on a store that was just opened
pub record RoundsMade {D : Type 0} (disks : DiskOf D) (status : Status) (from count : ℕ) (core : Seen D) (new : D)
    (held_before held_now : Option (List ℕ)) : Type 0 where
  pub last : Seen D
  pub disk_is : new ≡ last.disk
  pub history : List Event
  pub acts : Acts disks core last history
  pub legal : IsLegalRun core.world history last.world
  pub follows : FollowsRounds status from count history
  pub written : WritesLine status held_before held_now (summary count core.world history)
