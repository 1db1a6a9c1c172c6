-- How lanes that were started ended, and what they did to the store.
use Rattle.std.specs.Prelude.{ℕ, Bool, true, false, List, Option, None, Some}
use Rattle.std.specs.Io.KnownBytes.{Consumes}
use Rattle.disk_trait.specs.declared.disk.Disk.{Ghosts as DiskOf}
use Rattle.script_lang.specs.declared.line.LaneLine.{LaneLine}
use Rattle.store_model.specs.Lawful.{IsLawful}
use Rattle.cut_core.specs.Seen.{Seen}
use Rattle.store_desk.specs.Chronicles.{IsKnown}
use Rattle.store_desk.specs.Events.{history}
use Rattle.store_desk.specs.States.{IsKept}
use Rattle.store_desk.specs.declared.event.Event.{Event}
use Rattle.store_lanes.specs.LaneScripts.{SayInLanes}
use Rattle.store_run.specs.Ran.{EndsBy}
use Rattle.store_run.specs.declared.status.Status.{Status}
use Rattle.store_run.specs.declared.status.Status.TheVariants.{Done, WriteFault, DiskFault, Memory}
use Rattle.lanes_run.specs.RanLanes.{LanesFollow, DidBy, ChronicleWrittenBy}

-- the status of lanes whose chronicle was written, by whether all came to their ends and whether the store is broken
abbrev pub ended_by : Bool → Option ℕ → Status
ended_by false broken = Memory
ended_by true None = Done
ended_by true (Some count) = DiskFault

-- whether all lanes came to their ends, as far as the status tells
abbrev pub is_whole : Status → Bool
is_whole Done = true
is_whole DiskFault = true
is_whole status = false

-- how lanes that were started can end
abbrev pub IsLanesEnd : Status → Type 0
IsLanesEnd Done = Unit {0}
IsLanesEnd DiskFault = Unit {0}
IsLanesEnd WriteFault = Unit {0}
IsLanesEnd Memory = Unit {0}
IsLanesEnd status = ⊥

module _ {D : Type 0} (disks : DiskOf D) where
  -- the lanes of a script ran, from one core to another
  pub record LanesEnded (status : Status) (old new : Seen D) (lines : List (List ℕ))
      (held_before held_now : Option (List ℕ)) : Type 0 where
    pub chronicle : List Event
    pub kept : IsKept disks old new chronicle
    pub is_end : IsLanesEnd status
    pub follow : (said : List LaneLine) → SayInLanes lines said
        → LanesFollow (IsKnown (disks.content old.disk) (history chronicle)) old.world (is_whole status) said
        (history chronicle)
    pub written : ChronicleWrittenBy status held_before held_now (history chronicle)
    pub ends : EndsBy status new.world

  -- a script was read and run, or refused, from the core just opened to how it stands now
  pub record StoreLanes (status : Status) (old new : Seen D)
      (left_before left_now held_before held_now : Option (List ℕ)) : Type 0 where
    pub lawful : IsLawful old.world
    pub chronicle : List Event
    pub kept : IsKept disks old new chronicle
    pub taken : List ℕ
    pub said : List LaneLine
    pub consumed : Consumes left_before left_now taken
    pub did : DidBy status (IsKnown (disks.content old.disk) (history chronicle)) old.world taken left_now said
        (history chronicle)
    pub written : ChronicleWrittenBy status held_before held_now (history chronicle)
    pub ends : EndsBy status new.world
