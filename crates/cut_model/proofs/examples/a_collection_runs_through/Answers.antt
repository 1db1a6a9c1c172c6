use Rattle.std.proofs.Common.{◌≡◌, ℕ, zero, suc, ◌<◌, List, [], ◌∷◌, refl, inl, inr, Some, arith}
use Rattle.object_graph.specs.declared.calls.Call.TheVariants.{Copy, Close, Mark, Sweep}
use Rattle.object_graph.specs.declared.calls.Reply.TheVariants.{Done, Freed}
use Rattle.object_graph.specs.Members.{In}
use Rattle.store_model.specs.Worlds.{Event, images, marks}
use Rattle.store_model.specs.Examples.{said, noted}
use Rattle.cut_model.specs.Courses.{IsCopyOf}
use Rattle.cut_model.proofs.examples.a_collection_runs_through.Goals as goal

abbrev copies : List Event
copies = said (Copy 0) Done ∷ said (Copy 1) Done ∷ []

abbrev sweeps : List Event
sweeps = said (Sweep 0) (Freed 0) ∷ said (Sweep 1) (Freed 0) ∷ []

copied : (page : ℕ) → page < 2 → (e : Event) × In e copies × IsCopyOf 1 page e.entry.call
copied zero low = (said (Copy 0) Done, inl refl, refl)
copied (suc zero) low = (said (Copy 1) Done, inr (inl refl), refl)
copied (suc (suc n)) low = absurd (omega (arith, low))

swept : (page : ℕ) → page < 2 → (e : Event) × In e sweeps × (e.entry.call ≡ Sweep page)
swept zero low = (said (Sweep 0) (Freed 0), inl refl, refl)
swept (suc zero) low = (said (Sweep 1) (Freed 0), inr (inl refl), refl)
swept (suc (suc n)) low = absurd (omega (arith, low))

pub returns-clause-runs : goal.returns-clause-runs
returns-clause-runs c = record {
  copies = copies;
  closing = noted images Close Done;
  gap = [];
  marking = noted (marks (Some 1)) (Mark 2) Done;
  sweeps = sweeps;
  workers = 2;
  is = refl;
  copied = copied;
  closed = refl;
  marked = (refl, refl);
  swept = swept;
}

pub returns-clause-undisturbed : goal.returns-clause-undisturbed
returns-clause-undisturbed c = (
  record { no_fault = λ q. cc; no_end = λ q p. cc; no_drop = λ q. cc; no_reopening = λ q. cc },
  (
    record { no_fault = λ q. cc; no_end = λ q p. cc; no_drop = λ q. cc; no_reopening = λ q. cc },
    (
      record { no_fault = λ q. cc; no_end = λ q p. cc; no_drop = λ q. cc; no_reopening = λ q. cc },
      (
        record { no_fault = λ q. cc; no_end = λ q p. cc; no_drop = λ q. cc; no_reopening = λ q. cc },
        (
          record { no_fault = λ q. cc; no_end = λ q p. cc; no_drop = λ q. cc; no_reopening = λ q. cc },
          (record { no_fault = λ q. cc; no_end = λ q p. cc; no_drop = λ q. cc; no_reopening = λ q. cc }, tt),
        ),
      ),
    ),
  ),
)
