-- Runs in parts, and runs by the model.
use Rattle.std.proofs.Common.{◌≡◌, ◌≢◌, ap, ◌∙◌, subst, Bool, true, false, ⊎_elim, List, [], ◌∷◌, ◌++◌}
use Rattle.std.specs.List.{AllByRecursion}
use Rattle.object_graph.specs.declared.calls.Call.TheVariants.{Reopen}
use Rattle.store_model.specs.Worlds.{World, Event}
use Rattle.store_model.specs.Replies.{Allows}
use Rattle.store_model.specs.Steps.{next}
use Rattle.store_model.specs.Histories.{after, IsLegal, HavePresentMarks}
use Rattle.store_machine.specs.Acts.{StepsTo, RunsTo, IsLegalRun, ReopensAnew}

-- no event opens the store again
abbrev pub NoneReopens : List Event → Type 0
NoneReopens history = AllByRecursion (λ (e : Event). e.entry.call ≢ Reopen) history

pub runs_join : (told : Bool) (w v u : World) (history part : List Event) → RunsTo told w history v → RunsTo told v part u → RunsTo told w (history ++ part) u
runs_join told w v u [] part r s = subst (λ (x : World). RunsTo told x part u) r s
runs_join told w v u (e ∷ history) part r s = (r.0, r.1, runs_join told r.0 v u history part r.2 s)

-- an event that isn't a reopening over a disk that doesn't tell is by the model
by_model : (told : Bool) (w to : World) (e : Event) → (told ≡ false → e.entry.call ≢ Reopen) → StepsTo told w e to → Allows w e × (to ≡ next w e)
by_model told w to e other s = ⊎_elim (λ m. m) (λ (o : (told ≡ false) × ReopensAnew w e to). absurd (other o.0 o.1.call)) s.is

pub legal_run : (told : Bool) (w last : World) (history : List Event) → (told ≡ false → NoneReopens history) → RunsTo told w history last → IsLegalRun w history last
legal_run told w last [] other r = record { legal = tt; is_run = record { lane = tt; marks = tt }; last_is = r }
legal_run told w last (e ∷ history) other r =
    let m = by_model told w r.0 e (λ f. (other f).0) r.1 in
    let ih = legal_run told r.0 last history (λ f. (other f).1) r.2 in
    record {
      legal = (m.0, subst (λ (x : World). IsLegal x history) m.1 ih.legal);
      is_run = record {
        lane = (r.1.lane, ih.is_run.lane);
        marks = (r.1.marks, subst (λ (x : World). HavePresentMarks x history) m.1 ih.is_run.marks);
      };
      last_is = ih.last_is ∙ ap (λ x. after x history) m.1;
    }

true_not_false : (b : Bool) → b ≡ true → b ≡ false → ⊥
true_not_false b t f = absurd cc

-- where the disk tells, each run is legal
pub told_run : (told : Bool) (w last : World) (history : List Event) → told ≡ true → RunsTo told w history last → IsLegalRun w history last
told_run told w last history is r = legal_run told w last history (λ f. absurd (true_not_false told is f)) r
