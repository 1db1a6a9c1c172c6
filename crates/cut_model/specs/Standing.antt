-- What stands beside a world: its cut, in each phase.
use Rattle.std.specs.Prelude.{◌≡◌, ℕ, ◌<◌, List, [], ◌∷◌, length, replicate, slice_index_or, is_some, MatchOption}
use Rattle.object_graph.specs.NameParts.{NameParts}
use Rattle.object_graph.specs.declared.calls.Phase.{Phase}
use Rattle.object_graph.specs.declared.calls.Phase.TheVariants.{Copying, Closed, Sweeping}
use Rattle.object_graph.specs.declared.calls.Call.{Call}
use Rattle.object_graph.specs.declared.calls.Call.TheVariants.{OpenCut, Close}
use Rattle.object_graph.specs.declared.calls.Reply.{Reply}
use Rattle.object_graph.specs.declared.calls.Reply.TheVariants.{Refused}
use Rattle.object_graph.specs.ObjectParts.{ObjectParts}
use Rattle.store_model.specs.Worlds.{World, OpenedCut, Event, starts}
use Rattle.store_model.specs.Steps.{next}
use Rattle.object_graph.specs.Members.{In}
use Rattle.store_model.specs.Causes.{has_page}
use Rattle.store_model.specs.Lawful.{KeepsLost, IsLawful}
use Rattle.store_model.specs.States.{state_of}
use Rattle.cut_model.specs.States.{KeepsOpening}
use Rattle.cut_model.specs.CutPages.{CutPage, bare_page, cut_graph}
use Rattle.cut_model.specs.Sound.{IsSafeObject, IsSound}
use Rattle.cut_model.specs.Changes.{ChangesBy}
use Rattle.cut_model.specs.Doomed.{KeepsDoomed}

-- while it is copied, a cut is sound
pub record IsCopying (w : World) (cut : OpenedCut) (pages : List CutPage) : Type 0 where
  pub keeps : KeepsOpening w cut.opening
  pub all : length pages ≡ w.pages
  pub sound : IsSound (state_of w) cut.opening pages
  pub copied : (page : ℕ) → page < w.pages
      → is_some (slice_index_or pages page bare_page).copy ≡ has_page cut.copied page
  pub unswept : cut.swept ≡ []

-- what is kept beside a world: what its cut has of each page and, from the closing on, where the marks start
pub record CutBeside : Type 0 where
  pub pages : List CutPage
  pub starts : List NameParts

-- from the closing on, what its images doom is safe to free, and all that was lost is doomed or freed
pub record IsGiven (w : World) (cut : OpenedCut) (b : CutBeside) : Type 0 where
  pub keeps : KeepsLost w cut.opening
  pub all : length b.pages ≡ w.pages
  pub doomed : KeepsDoomed w cut.opening b.starts b.pages cut.swept
  pub safe : (o : ObjectParts) → In o (cut_graph b.pages) → IsSafeObject cut.opening o

abbrev pub IsInPhase : World → OpenedCut → Phase → CutBeside → Type 0
IsInPhase w cut Copying b = IsCopying w cut b.pages
IsInPhase w cut Closed b = IsGiven w cut b
IsInPhase w cut Sweeping b = IsGiven w cut b

abbrev pub IsCutStanding : World → CutBeside → OpenedCut → Type 0
IsCutStanding w b cut = IsInPhase w cut cut.phase b

-- the world is lawful, and this is what its cut is
pub record IsStanding (w : World) (b : CutBeside) : Type 0 where
  pub lawful : IsLawful w
  pub cut : MatchOption w.cut (Unit {0}) (IsCutStanding w b)

-- as nothing is copied yet
abbrev pub nothing_copied : ℕ → CutBeside
nothing_copied pages = record { pages = replicate pages bare_page; starts = [] }

-- the marks start where the paths start as the cut closes
abbrev pub starts_after : World → Call → List NameParts → List NameParts
starts_after w Close from = starts w
starts_after w _ from = from

-- what an event does to the cut
abbrev pub TurnsIn : World → OpenedCut → Phase → Call → CutBeside → CutBeside → Type 0
TurnsIn w cut Copying call b after = ChangesBy w cut.opening call b.pages after.pages
    × (after.starts ≡ starts_after w call b.starts)
TurnsIn w cut Closed call b after = after ≡ b
TurnsIn w cut Sweeping call b after = after ≡ b

abbrev pub TurnsBeside : World → Call → CutBeside → CutBeside → OpenedCut → Type 0
TurnsBeside w call b after cut = TurnsIn w cut cut.phase call b after

abbrev pub TurnsOf : World → Call → CutBeside → CutBeside → Type 0
TurnsOf w OpenCut b after = after ≡ nothing_copied w.pages
TurnsOf w call b after = MatchOption w.cut (after ≡ b) (TurnsBeside w call b after)

abbrev pub Turns : World → Call → Reply → CutBeside → CutBeside → Type 0
Turns w call (Refused why) b after = after ≡ b
Turns w call reply b after = TurnsOf w call b after

-- from event to event
abbrev pub TurnsThrough : World → CutBeside → List Event → CutBeside → Type 0
TurnsThrough w b [] last = last ≡ b
TurnsThrough w b (e ∷ events) last = (after : CutBeside) × Turns w e.entry.call e.entry.reply b after
    × TurnsThrough (next w e) after events last
