-- What `lanes` did, by its status.
use Rattle.std.specs.Prelude.{◌≡◌, ◌⊎◌, ℕ, ◌≤◌, Bool, true, false, List, [], ◌++◌, Option, IfSome, IsTrue}
use Rattle.std.specs.Io.KnownBytes.{Appends, Consumes}
use Rattle.std.specs.List.{AllByRecursion}
use Rattle.disk_trait.specs.declared.disk.Disk.{Ghosts as DiskOf}
use Rattle.store_model.specs.Worlds.{World, Event}
use Rattle.store_model.specs.Faults.{FaultsAscend}
use Rattle.store_model.specs.Histories.{after, IsLegal}
use Rattle.store_model.specs.Lanes.{world_events, events_of_lane}
use Rattle.store_model.specs.Texts.{chronicle_text}
use Rattle.script_lang.specs.declared.line.LaneLine.{LaneLine}
use Rattle.cut_core.specs.Starts.{IsJustOpened}
use Rattle.store_machine.specs.Faults.{NoneFailed}
use Rattle.store_machine.specs.Promises.{IsSafe, IsCollected}
use Rattle.store_desk.specs.Chronicles.{IsKnown}
use Rattle.store_lanes.specs.Served.{FollowsTo}
use Rattle.store_run.specs.Ran.{EndsBy, OpensTo, LeavesHistory}
use Rattle.store_run.specs.Writing.{AppendsFront}
use Rattle.store_run.specs.declared.status.Status.{Status}
use Rattle.store_run.specs.declared.status.Status.TheVariants.{Done, BadLine, TooLong, ReadFault, WriteFault, DiskFault, NotAStore, Damaged, Memory}
use Rattle.lanes_run.specs.Judged.{AreRight, RefusedBy}

-- ---- which lines were run

-- A lane's events follow its lines that are past, and perhaps a part of its next one. Where it went to the end all
-- are past. The former is said
-- where it is known what the reopenings found.
pub record LaneFollows (known : Type 0) (w : World) (lane : ℕ) (whole : Bool) (said : List LaneLine)
    (history : List Event) : Type 0 where
  pub past : List LaneLine
  pub future : List LaneLine
  pub split : said ≡ past ++ future
  pub ended : IsTrue whole → future ≡ []
  pub follows : known → FollowsTo w.pages lane past future (events_of_lane lane (world_events w history))

-- each event is one of a lane, 1 to 16, and each lane's events follow its lines
pub record LanesFollow (known : Type 0) (w : World) (whole : Bool) (said : List LaneLine)
    (history : List Event) : Type 0 where
  pub of_lanes : AllByRecursion (λ (e : Event). (1 ≤ e.entry.lane) × (e.entry.lane ≤ 16)) history
  pub each : (lane : ℕ) → 1 ≤ lane → lane ≤ 16 → LaneFollows known w lane whole said history

-- What was read, and which lines were run: all, or, where a lane may have stopped for want of memory, some of each
-- lane. No call was made where
-- the script was refused.
abbrev pub DidBy : Status → Type 0 → World → List ℕ → Option (List ℕ) → List LaneLine → List Event → Type 0
DidBy Done known w taken left said history = AreRight w.pages taken left said × LanesFollow known w true said history
DidBy DiskFault known w taken left said history = AreRight w.pages taken left said
    × LanesFollow known w true said history
DidBy WriteFault known w taken left said history = AreRight w.pages taken left said
    × LanesFollow known w false said history
DidBy Memory known w taken left said history =
    (AreRight w.pages taken left said × LanesFollow known w false said history)
    ⊎ (RefusedBy Memory w.pages taken left said × (history ≡ []))
DidBy status known w taken left said history = RefusedBy status w.pages taken left said × (history ≡ [])

-- ---- what was written

-- the text of the chronicle, or, where writing failed, not all of it
abbrev pub ChronicleWrittenBy : Status → Option (List ℕ) → Option (List ℕ) → List Event → Type 0
ChronicleWrittenBy WriteFault before now history = AppendsFront before now (chronicle_text history)
ChronicleWrittenBy status before now history = Appends before now (chronicle_text history)

-- ---- the whole

-- One history, legal from the world that the store opens to, says what was read, done and written, what was freed,
-- and what a crash leaves.
pub record RanLanes {D : Type 0} (disks : DiskOf D) (status : Status) (old new : D)
    (left_before left_now held_before held_now : Option (List ℕ)) : Type 0 where
  pub world : World
  pub history : List Event
  pub last : World
  pub taken : List ℕ
  pub said : List LaneLine
  pub just_opened : IsJustOpened world
  pub opens : IfSome (disks.content old) (λ file. OpensTo file world)
  pub legal : IsKnown (disks.content old) history → IsLegal world history
  pub last_is : IsKnown (disks.content old) history → last ≡ after world history
  pub safe : IsKnown (disks.content old) history → IsSafe world history
  pub collected : IsKnown (disks.content old) history → IsCollected world history
  pub consumed : Consumes left_before left_now taken
  pub did : DidBy status (IsKnown (disks.content old) history) world taken left_now said history
  pub written : ChronicleWrittenBy status held_before held_now history
  pub ends : EndsBy status last
  pub crashes : IfSome (disks.content old) (λ _. LeavesHistory disks old new world history)
  pub faults : FaultsAscend (disks.fault_count old) (disks.fault_count new) history
  pub calm : NoneFailed history → disks.fault_count new ≡ disks.fault_count old

-- Which it is: the store was opened, or it wasn't. A disk fault and want of memory may come at the opening or later.
abbrev pub LanesBy : Status → Type 0 → Type 0 → Type 0 → Type 0
LanesBy Done ran not_run calm = ran
LanesBy (BadLine line column) ran not_run calm = ran
LanesBy TooLong ran not_run calm = ran
LanesBy ReadFault ran not_run calm = ran
LanesBy WriteFault ran not_run calm = ran
LanesBy DiskFault ran not_run calm = ran ⊎ not_run
LanesBy Memory ran not_run calm = ran ⊎ (not_run × calm)
LanesBy NotAStore ran not_run calm = not_run × calm
LanesBy (Damaged at) ran not_run calm = not_run × calm
LanesBy status ran not_run calm = ⊥

-- no lane was started
abbrev pub is_refusing : Status → Bool
is_refusing (BadLine line column) = true
is_refusing TooLong = true
is_refusing ReadFault = true
is_refusing status = false
