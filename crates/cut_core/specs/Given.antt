-- The closing of a cut and its marks: events, and what was given out.
use Rattle.std.specs.Prelude.{◌≡◌, ℕ, ◌≤◌, false, List, Option, Result, Ok, Err, IfSome, IsSomeAnd}
use Rattle.object_graph.specs.declared.calls.Phase.TheVariants as phase
use Rattle.object_graph.specs.declared.calls.Call.{Call}
use Rattle.object_graph.specs.declared.calls.Call.TheVariants.{Close, Mark}
use Rattle.object_graph.specs.declared.calls.Reply.{Reply}
use Rattle.object_graph.specs.declared.calls.Reply.TheVariants.{Done, Refused}
use Rattle.object_graph.specs.declared.calls.Refusal.{Refusal}
use Rattle.store_model.specs.Causes.{is_phase}
use Rattle.store_model.specs.Replies.{AllowsReply}
use Rattle.store_model.specs.Steps.{after_reply}
use Rattle.store_model.specs.Worlds.{World, Event, Note, nothing, images, marks}
use Rattle.cut_model.specs.CutPages.{CutPage}
use Rattle.cut_model.specs.Standing.{CutBeside, IsCopying}
use Rattle.cut_builder.specs.CutParts.{ClosedParts, MarkedParts}
use Rattle.cut_core.specs.Holding.{Holds, phase_of, beside_stage}
use Rattle.cut_core.specs.declared.held.Held.{Held}

-- ---- events

abbrev pub closed_reply : Result ClosedParts Refusal → Reply
closed_reply (Ok cut) = Done
closed_reply (Err why) = Refused why

-- a closing keeps what it gave out
abbrev pub closed_note : Result ClosedParts Refusal → Note
closed_note (Ok cut) = images
closed_note (Err why) = nothing

-- the closing of the one caller, with its answer
abbrev pub close_event : Result ClosedParts Refusal → Event
close_event answer = record {
  entry =
      record { lane = 1; call = Close; reply = closed_reply answer };
  note = closed_note answer;
}

abbrev pub marked_reply : Result (Unit {0}) (MarkedParts × Refusal) → Reply
marked_reply (Ok done) = Done
marked_reply (Err back) = Refused back.1

-- marks by so many workers, of the cut of this number, or none where marking found no memory
abbrev pub mark_event : ℕ → Option ℕ → Reply → Event
mark_event workers number reply = record {
  entry =
      record { lane = 1; call = Mark workers; reply = reply };
  note = marks number;
}

-- ---- what was given out

-- this is the world's cut, with images and born slots that are sound for the world
abbrev pub IsCutOf : World → ClosedParts → Type 0
IsCutOf w cut = IsSomeAnd w.cut (λ opened. (opened.number ≡ cut.number) × IsCopying w opened cut.pages)

-- where the present cut has this number, it is closed, and these are the images and born slots that it gave out
pub record HasGiven (w : World) (b : CutBeside) (number : ℕ) (pages : List CutPage) : Type 0 where
  pub before : number ≤ w.last_cut
  pub same : IfSome w.cut (λ cut. cut.number ≡ number → (is_phase cut.phase phase.Copying ≡ false) × (b.pages ≡ pages))

-- so it is with what is held
pub record HeldGiven (held : Held) (number : ℕ) (pages : List CutPage) : Type 0 where
  pub before : number ≤ held.last_cut
  pub same : IfSome held.cut (λ cut. cut.number ≡ number → (is_phase (phase_of cut.stage) phase.Copying ≡ false)
      × ((beside_stage cut.stage).pages ≡ pages))

-- what was given out stays so
abbrev pub KeepsGiven : Held → Held → Type 0
KeepsGiven old new = (number : ℕ) (pages : List CutPage) → HeldGiven old number pages → HeldGiven new number pages

-- marks of the present cut are of what it gave out
abbrev pub AreOfTheCut : World → CutBeside → MarkedParts → Type 0
AreOfTheCut w b marked = IfSome w.cut (λ cut. cut.number ≡ marked.cut.number → marked.cut.pages ≡ b.pages)

-- a call on the cut was answered as the model allows, and what is held is the cut of the next world
pub record CutAnswers (new : Held) (w : World) (call : Call) (note : Note) (reply : Reply) : Type 0 where
  pub allowed : AllowsReply w call note reply
  pub holds : Holds new (after_reply w call note reply)
