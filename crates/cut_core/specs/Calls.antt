-- The calls that are built, and their events.
use Rattle.std.specs.Prelude.{◌≤◌, ◌+◌, ◌==◌, ℕ, Bool, true, false, ◌⊎◌, Option, Some, None, IfSome, if◌then◌else◌}
use Rattle.object_graph.specs.declared.calls.Call.{Call}
use Rattle.object_graph.specs.declared.calls.Call.TheVariants.{Begin, Get, Number, Set, Put, New, Commit, Abort, OpenCut, Copy, Sweep, EndCut, DropCut}
use Rattle.object_graph.specs.declared.calls.Refusal.TheVariants.{DiskFault}
use Rattle.object_graph.specs.declared.calls.Reply.{Reply}
use Rattle.object_graph.specs.declared.calls.Reply.TheVariants.{Refused, Freed}
use Rattle.store_model.specs.Worlds.{Event, Note, nothing, faults}

-- the calls that the transactions answer
abbrev pub IsOfTransaction : Call → Type 0
IsOfTransaction (Begin txn) = Unit {0}
IsOfTransaction (Get txn name field) = Unit {0}
IsOfTransaction (Number txn name) = Unit {0}
IsOfTransaction (Set txn name field target) = Unit {0}
IsOfTransaction (Put txn name value) = Unit {0}
IsOfTransaction (New txn page) = Unit {0}
IsOfTransaction (Abort txn) = Unit {0}
IsOfTransaction call = ⊥

-- they and the calls that write to the disk
abbrev pub IsOfStore : Call → Type 0
IsOfStore (Commit txn) = Unit {0}
IsOfStore (Sweep page) = Unit {0}
IsOfStore call = IsOfTransaction call

-- the calls on the cut that write nothing
abbrev pub IsOfCut : Call → Type 0
IsOfCut OpenCut = Unit {0}
IsOfCut (Copy page) = Unit {0}
IsOfCut EndCut = Unit {0}
IsOfCut DropCut = Unit {0}
IsOfCut call = ⊥

abbrev pub is_of_cut : Call → Bool
is_of_cut OpenCut = true
is_of_cut (Copy page) = true
is_of_cut EndCut = true
is_of_cut DropCut = true
is_of_cut call = false

-- the calls that are built
abbrev pub IsBuilt : Call → Type 0
IsBuilt call = IsOfStore call ⊎ IsOfCut call

-- what a reply doesn't tell: for a disk fault the disk's count
abbrev pub note_of : Reply → ℕ → Note
note_of (Refused DiskFault) count = faults count
note_of reply count = nothing

-- a call of the one caller with its reply, and the disk's count of faults as it ended
abbrev pub event_of : Call → Reply → ℕ → Event
event_of call reply count = record {
  entry =
      record { lane = 1; call = call; reply = reply };
  note = note_of reply count;
}

-- how often a call on the cut reads or frees in a frame at most: a sweep that frees does both
abbrev pub most_steps : Call → Reply → Option ℕ
most_steps OpenCut reply = Some 0
most_steps (Copy page) reply = Some 1
most_steps (Sweep page) (Freed slots) = Some (if slots == 0 then 1 else 2)
most_steps (Sweep page) reply = Some 1
most_steps EndCut reply = Some 0
most_steps DropCut reply = Some 0
most_steps call reply = None

abbrev pub TakesSteps : Call → Reply → ℕ → ℕ → Type 0
TakesSteps call reply old new = IfSome (most_steps call reply) (λ most. new ≤ old + most)
