-- Chronicles from a world on.
use Rattle.std.specs.Prelude.{◌≢◌, ◌⊎◌, ℕ, List, [], ◌∷◌, Option, is_some, IsTrue}
use Rattle.std.specs.List.{AllByRecursion}
use Rattle.object_graph.specs.declared.calls.Call.TheVariants.{Reopen}
use Rattle.store_model.specs.Worlds as model
use Rattle.store_model.specs.Worlds.{World}
use Rattle.store_model.specs.Histories.{IsLegal}
use Rattle.store_model.specs.Steps.{next}
use Rattle.cut_builder.specs.CutParts.{ClosedParts}
use Rattle.cut_core.specs.Given.{IsCutOf}
use Rattle.store_desk.specs.Events.{told, history, Keeps}
use Rattle.store_desk.specs.declared.event.Event.{Event}
use Rattle.store_desk.specs.declared.event.Note.{Note}

-- The disk tells its content, or the store wasn't opened again: else nobody knows what the reopening found.
abbrev pub IsKnown : Option (List ℕ) → List model.Event → Type 0
IsKnown content events = IsTrue (is_some content) ⊎ AllByRecursion (λ (e : model.Event). e.entry.call ≢ Reopen) events

-- what a closing keeps is the world's cut, and sound for the world
abbrev pub KeepsCut : World → Note → Type 0
KeepsCut w note = (cut : ClosedParts) → Keeps note cut → IsCutOf w cut

abbrev pub KeepCuts : World → List Event → Type 0
KeepCuts w [] = Unit {0}
KeepCuts w (e ∷ chronicle) = KeepsCut w e.note × KeepCuts (next w (told e)) chronicle

-- a legal history, in which each closing keeps the cut of the world before it
pub record IsChronicle (w : World) (chronicle : List Event) : Type 0 where
  pub legal : IsLegal w (history chronicle)
  pub cuts : KeepCuts w chronicle
