-- One event more in the chronicle.
use Rattle.std.specs.Prelude.{◌≡◌, ℕ, ◌+◌, Option, [], ◌∷◌, ◌++◌, length, Result, IfOk, IfErr, OnErr, option_map}
use Rattle.object_graph.specs.declared.memory.Memory.{Memory}
use Rattle.object_graph.specs.declared.calls.Call.{Call}
use Rattle.object_graph.specs.declared.calls.Call.TheVariants.{Close, Mark, Reopen}
use Rattle.object_graph.specs.declared.calls.Refusal.{Refusal}
use Rattle.object_graph.specs.declared.calls.Reply.{Reply}
use Rattle.cut_builder.specs.CutParts.{ClosedParts, MarkedParts}
use Rattle.cut_core.specs.Calls.{IsBuilt}
use Rattle.cut_core.specs.Given.{closed_reply}
use Rattle.disk_trait.specs.declared.disk.Disk.{Ghosts as DiskOf}
use Rattle.store_desk.specs.Events.{entry, Keeps}
use Rattle.store_desk.specs.States.{DeskParts, IsKeptIn}
use Rattle.store_desk.specs.declared.event.Event.{Event}
use Rattle.store_desk.specs.declared.event.Note.TheVariants.{Marks}

-- the calls that the desk takes by `call`
abbrev pub IsTaken : Call → Type 0
IsTaken Reopen = Unit {0}
IsTaken call = IsBuilt call

-- ---- what an event says

-- it is of this lane, call and reply
abbrev pub IsOf : ℕ → Call → Reply → Event → Type 0
IsOf lane call reply event = event.entry ≡ entry lane call reply

-- it is the closing, and keeps what it gave out
pub record IsClosingOf (lane : ℕ) (answer : Result ClosedParts Refusal) (event : Event) : Type 0 where
  pub of : IsOf lane Close (closed_reply answer) event
  pub keeps : IfOk answer (λ cut. Keeps event.note cut)

-- the number of the cut whose marks are given
abbrev pub marked_number : Option MarkedParts → Option ℕ
marked_number marked = option_map (λ (m : MarkedParts). m.cut.number) marked

-- it gives these marks, or none
pub record IsMarkingOf (lane workers : ℕ) (marked : Option MarkedParts) (reply : Reply) (event : Event) : Type 0 where
  pub of : IsOf lane (Mark workers) reply event
  pub note : event.note ≡ Marks (marked_number marked)

-- ---- one event more

-- the chronicle has one event more, which says this, at this place
pub record Appended {D : Type 0} (old new : DeskParts D) (Says : Event → Type 0) (place : ℕ) : Type 0 where
  pub event : Event
  pub says : Says event
  pub chronicle : new.chronicle ≡ old.chronicle ++ event ∷ []
  pub start : new.start ≡ old.start
  pub spare : new.spare + 1 ≡ old.spare
  pub place_is : place ≡ length old.chronicle

-- ---- what a turn does

pub record Did {D : Type 0} (disks : DiskOf D) (old new : DeskParts D) (lane : ℕ) (call : Call) (result : Result (Reply
    × ℕ) Memory) : Type 0 where
  pub event : IfOk result (λ r. Appended old new (IsOf lane call r.0) r.1)
  pub none : OnErr result (new ≡ old)
  pub kept : IsKeptIn disks new

pub record DidClose {D : Type 0} (disks : DiskOf D) (old new : DeskParts D) (lane : ℕ)
    (result : Result (Result ClosedParts Refusal × ℕ) Memory) : Type 0 where
  pub event : IfOk result (λ r. Appended old new (IsClosingOf lane r.0) r.1)
  pub none : OnErr result (new ≡ old)
  pub kept : IsKeptIn disks new

pub record DidMark {D : Type 0} (disks : DiskOf D) (old new : DeskParts D) (lane workers : ℕ)
    (marked : Option MarkedParts) (result : Result (Reply × ℕ) (Option MarkedParts × Memory)) : Type 0 where
  pub event : IfOk result (λ r. Appended old new (IsMarkingOf lane workers marked r.0) r.1)
  pub none : OnErr result (new ≡ old)
  pub back : IfErr result (λ e. e.0 ≡ marked)
  pub kept : IsKeptIn disks new
