-- The course of a cut, from its opening to its end.
use Rattle.std.specs.Prelude.{◌≡◌, ◌≢◌, ℕ, ◌<◌, Some, List, ◌∷◌, ◌++◌}
use Rattle.object_graph.specs.declared.calls.Call.{Call}
use Rattle.object_graph.specs.declared.calls.Call.TheVariants.{Copy, HandIn, Close, Mark, Sweep, EndCut, DropCut, Reopen}
use Rattle.object_graph.specs.declared.calls.Reply.TheVariants.{Done, Refused}
use Rattle.object_graph.specs.declared.calls.Refusal.TheVariants.{DiskFault}
use Rattle.object_graph.specs.Members.{In}
use Rattle.store_model.specs.Worlds.{Event, marks}

-- no fault, and no call that takes the cut away
pub record IsUndisturbing (e : Event) : Type 0 where
  pub no_fault : e.entry.reply ≢ Refused DiskFault
  pub no_end : e.entry.call ≡ EndCut → e.entry.reply ≢ Done
  pub no_drop : e.entry.call ≢ DropCut
  pub no_reopening : e.entry.call ≢ Reopen

-- a copy of this page for the cut of this number
abbrev pub IsCopyOf : ℕ → ℕ → Call → Type 0
IsCopyOf number page (Copy p) = p ≡ page
IsCopyOf number page (HandIn p n seen) = (p ≡ page) × (n ≡ number)
IsCopyOf number page _ = ⊥

-- a copy of each page, then the closing, then the marks of this cut, then a sweep of each page; other calls between
-- them
pub record RunsThrough (number pages : ℕ) (events : List Event) : Type 0 where
  pub copies : List Event
  pub closing : Event
  pub gap : List Event
  pub marking : Event
  pub sweeps : List Event
  pub workers : ℕ
  pub is : events ≡ copies ++ (closing ∷ (gap ++ marking ∷ sweeps))
  pub copied : (page : ℕ) → page < pages → (e : Event) × In e copies × IsCopyOf number page e.entry.call
  pub closed : closing.entry.call ≡ Close
  pub marked : (marking.entry.call ≡ Mark workers) × (marking.note ≡ marks (Some number))
  pub swept : (page : ℕ) → page < pages → (e : Event) × In e sweeps × (e.entry.call ≡ Sweep page)
