-- The events of the chronicle, as events of the store's model.
use Rattle.std.specs.Prelude.{◌≡◌, ℕ, Bool, true, false, Option, List, map, unwrap_or}
use Rattle.object_graph.specs.declared.calls.Call.{Call}
use Rattle.object_graph.specs.declared.calls.Call.TheVariants.{Reopen}
use Rattle.object_graph.specs.declared.calls.Entry.{Entry}
use Rattle.object_graph.specs.declared.calls.Reply.{Reply}
use Rattle.object_graph.specs.declared.calls.Reply.TheVariants.{Refused}
use Rattle.object_graph.specs.declared.calls.Refusal.TheVariants.{DiskFault}
use Rattle.object_graph.specs.Members.{In}
use Rattle.store_model.specs.Worlds as model
use Rattle.cut_builder.specs.CutParts.{ClosedParts}
use Rattle.store_desk.specs.declared.event.Event.{Event}
use Rattle.store_desk.specs.declared.event.Note.{Note}
use Rattle.store_desk.specs.declared.event.Note.TheVariants.{Nothing, Faults, Images, Marks, Found}

-- a note, without the images that it keeps
abbrev pub note_in : Note → model.Note
note_in Nothing = model.nothing
note_in (Faults count) = model.faults count
note_in (Images given) = model.images
note_in (Marks cut) = model.marks cut
note_in (Found names) = model.found names.value

abbrev pub told : Event → model.Event
told e = record { entry = e.entry; note = note_in e.note }

-- the history that a chronicle is
abbrev pub history : List Event → List model.Event
history chronicle = map told chronicle

-- a lane's call with its reply
abbrev pub entry : ℕ → Call → Reply → Entry
entry lane call reply = record { lane = lane; call = call; reply = reply }

-- the note keeps the images and born slots of this cut
abbrev pub Keeps : Note → ClosedParts → Type 0
Keeps (Images given) cut = given.value ≡ cut
Keeps note cut = ⊥

-- the closing of this cut is among the events
pub record HasClosing (chronicle : List Event) (cut : ClosedParts) : Type 0 where
  pub event : Event
  pub is_in : In event chronicle
  pub keeps : Keeps event.note cut

-- the note of a call that gives nothing out, by the disk's count that broke the store, if one did
abbrev pub plain_note : Reply → Option ℕ → Note
plain_note (Refused DiskFault) broken = Faults (unwrap_or broken 0)
plain_note reply broken = Nothing

abbrev pub is_reopening : Call → Bool
is_reopening Reopen = true
is_reopening call = false
