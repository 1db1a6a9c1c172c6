-- What a legal history promises of what it frees.
use Rattle.std.specs.Prelude.{◌≡◌, ℕ, false, not, List, [], ◌∷◌, ◌++◌, IsTrue}
use Rattle.std.specs.List.{AllByRecursion}
use Rattle.object_graph.specs.NameParts.{NameParts}
use Rattle.object_graph.specs.Graphs.{has_object}
use Rattle.object_graph.specs.declared.calls.Call.TheVariants.{OpenCut, EndCut}
use Rattle.object_graph.specs.declared.calls.Reply.TheVariants.{Done, Cut}
use Rattle.store_model.specs.Worlds.{World, Event, is_freed, IsReached, IsOutOfReach}
use Rattle.store_model.specs.Histories.{after}
use Rattle.store_machine.specs.Calls.{takes_cut}

-- At each moment of the history all that is freed by then, in a reply or as a reopening found, is out of reach of the
-- root and of each open
-- transaction.
abbrev pub IsSafe : World → List Event → Type 0
IsSafe w history = (done later : List Event) (name : NameParts) → history ≡ done ++ later
    → IsTrue (is_freed (after w done) name) → IsOutOfReach (after w done) name

-- the object is committed and unfreed, and the root doesn't lead to it
pub record IsUnreached (w : World) (name : NameParts) : Type 0 where
  pub there : IsTrue (has_object w.graph name)
  pub unfreed : IsTrue (not (is_freed w name))
  pub unreached : ¬ IsReached w name

-- a part of a history from the reply that opened a cut up to the one that its end is done, with no reply between that
-- takes the cut away
pub record IsWholeCut (events : List Event) : Type 0 where
  pub opening : Event
  pub during : List Event
  pub ending : Event
  pub is : events ≡ opening ∷ during ++ ending ∷ []
  pub number : ℕ
  pub opens : (opening.entry.call ≡ OpenCut) × (opening.entry.reply ≡ Cut number)
  pub stays : AllByRecursion (λ (e : Event). takes_cut e.entry.call e.entry.reply ≡ false) during
  pub ends : (ending.entry.call ≡ EndCut) × (ending.entry.reply ≡ Done)

-- All that was out of reach as a cut opened is freed as the cut ends.
abbrev pub IsCollected : World → List Event → Type 0
IsCollected w history = (before cut later : List Event) (name : NameParts) → history ≡ before ++ (cut ++ later)
    → IsWholeCut cut
    → IsUnreached (after w before) name → IsTrue (is_freed (after w (before ++ cut)) name)
