-- What a call at the desk does to a seat.
use Rattle.std.specs.Prelude.{◌≡◌, ℕ, Option, List, [], ◌∷◌, ◌++◌, length, Result, Ok, Err}
use Rattle.object_graph.specs.declared.memory.Memory.{Memory}
use Rattle.object_graph.specs.declared.calls.Call.{Call}
use Rattle.object_graph.specs.declared.calls.Refusal.{Refusal}
use Rattle.object_graph.specs.declared.calls.Reply.{Reply}
use Rattle.disk_trait.specs.declared.disk.Disk.{Ghosts as DiskOf}
use Rattle.cut_builder.specs.CutParts.{ClosedParts, MarkedParts}
use Rattle.cut_core.specs.Seen.{Seen}
use Rattle.turn_lock.specs.Lists.{StartsWith}
use Rattle.turn_lock.specs.Seats.{Known}
use Rattle.store_desk.specs.Appended.{IsOf, IsClosingOf, IsMarkingOf}
use Rattle.store_desk.specs.Chronicles.{IsKnown, IsChronicle}
use Rattle.store_desk.specs.Events.{history}
use Rattle.store_desk.specs.declared.event.Event.{Event}

-- a seat at the desk, which knows the core as the desk was made
abbrev pub AtDesk : Type 0 → Type 0
AtDesk D = Known Event (Seen D)

-- the seat has seen a chronicle from the first world on, which begins with all that it had seen
pub record Saw {D : Type 0} (disks : DiskOf D) (old new : AtDesk D) : Type 0 where
  pub first : Seen D
  pub start : old.start ≡ first ∷ []
  pub same_start : new.start ≡ old.start
  pub same_turn : new.turn ≡ old.turn
  pub same_parts : new.parts ≡ old.parts
  pub begins : StartsWith new.seen old.seen
  pub told : IsKnown (disks.content first.disk) (history new.seen) → IsChronicle first.world new.seen

-- and no entry is its own that wasn't before
pub record Looked {D : Type 0} (disks : DiskOf D) (old new : AtDesk D) : Type 0 where
  pub saw : Saw disks old new
  pub own : new.own ≡ old.own

-- and the chronicle ends with one event, which says this, at this place, which is the seat's own from now on
pub record Entered {D : Type 0} (disks : DiskOf D) (old new : AtDesk D) (Says : Event
    → Type 0) (place : ℕ) : Type 0 where
  pub saw : Saw disks old new
  pub before : List Event
  pub event : Event
  pub begins : StartsWith before old.seen
  pub says : Says event
  pub seen : new.seen ≡ before ++ event ∷ []
  pub place_is : place ≡ length before
  pub own : new.own ≡ old.own ++ place ∷ []

-- a call, with its reply and its place; or it found no room
abbrev pub Called : {D : Type 0} → DiskOf D → AtDesk D → AtDesk D → ℕ → Call → Result (Reply × ℕ) Memory → Type 0
Called disks old new lane call (Ok r) = Entered disks old new (IsOf lane call r.0) r.1
Called disks old new lane call (Err memory) = Looked disks old new

-- the closing
abbrev pub ClosedBy : {D : Type 0} → DiskOf D → AtDesk D → AtDesk D → ℕ
    → Result (Result ClosedParts Refusal × ℕ) Memory → Type 0
ClosedBy disks old new lane (Ok r) = Entered disks old new (IsClosingOf lane r.0) r.1
ClosedBy disks old new lane (Err memory) = Looked disks old new

-- marks that were given
abbrev pub MarkedBy : {D : Type 0} → DiskOf D → AtDesk D → AtDesk D → ℕ → ℕ → Option MarkedParts
    → Result (Reply × ℕ) (Option MarkedParts × Memory) → Type 0
MarkedBy disks old new lane workers marked (Ok r) = Entered disks old new (IsMarkingOf lane workers marked r.0) r.1
MarkedBy disks old new lane workers marked (Err back) = Looked disks old new
