-- Histories with one more event and in two parts, and the first events of what a line makes.
use Rattle.std.proofs.Common.{◌≡◌, ◌≢◌, ℕ, Bool, true, false, not, ◌==◌, List, [], ◌∷◌, ◌++◌, map, Option, Some, None, refl, sym, ap, ◌∙◌, append-nil}
use Rattle.std.specs.Option.{option_map, unwrap_or, MatchOption, IfSome, IsSomeAnd}
use Rattle.std.proofs.lemmas.Bool.{eq-eqb}
use Rattle.object_graph.specs.declared.calls.Phase.TheVariants.{Closed}
use Rattle.std.specs.List.{AllByRecursion}
use Rattle.std.specs.Prelude.{MatchBool}
use Rattle.object_graph.specs.declared.calls.Call.{Call}
use Rattle.object_graph.specs.declared.calls.Call.TheVariants.{Mark}
use Rattle.object_graph.specs.declared.calls.Refusal.{Refusal}
use Rattle.object_graph.specs.declared.calls.Refusal.TheVariants.{NoCut, WrongPhase, OtherCut, Broken}
use Rattle.object_graph.specs.declared.calls.Reply.TheVariants.{Done, Refused}
use Rattle.store_model.specs.Causes.{first_met, first_refusal, when, broken, wrong_phase, wrong_marks, marks_number}
use Rattle.store_model.specs.Replies.{AllowsReply}
use Rattle.store_model.specs.Worlds.{World, OpenedCut, Note, nothing, Event}
use Rattle.store_model.specs.Steps.{next}
use Rattle.store_model.specs.Histories.{after, IsLegal, HasPresentMarks, HavePresentMarks, IsScriptRun, Makes, Starts, is_refused}

pub after-append : (w : World) (events more : List Event) → after w (events ++ more) ≡ after (after w events) more
after-append w [] more = refl
after-append w (e ∷ events) more = after-append (next w e) events more

pub IsLegal-append : (w : World) (events more : List Event) → IsLegal w events → IsLegal (after w events) more → IsLegal w (events ++ more)
IsLegal-append w [] more h k = k
IsLegal-append w (e ∷ events) more h k = (h.0, IsLegal-append (next w e) events more h.1 k)

pub IsLegal-parts : (w : World) (events more : List Event) → IsLegal w (events ++ more) → IsLegal w events × IsLegal (after w events) more
IsLegal-parts w [] more h = (tt, h)
IsLegal-parts w (e ∷ events) more h =
    let r = IsLegal-parts (next w e) events more h.1 in
    ((h.0, r.0), r.1)

-- marks that are none, or of the cut that is there, aren't refused as those of another cut
pub present_marks : (w : World) (workers number : ℕ) (note : Note) → HasPresentMarks w (Mark workers) note → ¬ AllowsReply w (Mark workers) note (Refused (OtherCut number))
present_marks w workers number note present = λ may.
    no_cause (first_refusal w (Mark workers) note) (met w.cut (marks_number note) present) may
  where
    no_cause : (o : Option Refusal) → o ≢ Some (OtherCut number) → MatchOption o (false ≡ true) (λ first. OtherCut number ≡ first) → ⊥
    no_cause None h may = cc
    no_cause (Some first) h may = h (ap (λ (r : Refusal). Some r) (sym may))

    other : (o : Option Refusal) (rest : List (Option Refusal)) → o ≢ Some (OtherCut number) → first_met rest ≢ Some (OtherCut number) → first_met (o ∷ rest) ≢ Some (OtherCut number)
    other None rest a b = b
    other (Some why) rest a b = a

    broken_is : (o : Option ℕ) → option_map (λ count. Broken count) o ≢ Some (OtherCut number)
    broken_is None e = cc
    broken_is (Some n) e = cc

    when_is : (b : Bool) (why : Refusal) → why ≢ OtherCut number → when b why ≢ Some (OtherCut number)
    when_is true why h e = h (let z : why ≡ OtherCut number = cc in z)
    when_is false why h e = cc

    given : (cut : OpenedCut) (given : Option ℕ) → IfSome given (λ n. cut.number ≡ n) → wrong_marks cut given ≢ Some (OtherCut number)
    given cut None h e = cc
    given cut (Some n) h e = let z : (cut.number == n) ≡ true = eq-eqb cut.number n h in
        let f : wrong_marks cut (Some n) ≡ None = ap (λ b. when (not b) (OtherCut cut.number)) z in cc

    met : (o : Option OpenedCut) (marks : Option ℕ) → IfSome marks (λ n. IsSomeAnd o (λ cut. cut.number ≡ n))
        → first_met (broken w ∷ unwrap_or (option_map (λ cut. wrong_phase cut Closed ∷ wrong_marks cut marks ∷ []) o) (Some NoCut ∷ [])) ≢ Some (OtherCut number)
    met None marks h = other (broken w) _ (broken_is w.broken) (other (Some NoCut) [] (λ e. cc) (λ e. cc))
    met (Some cut) None h = other (broken w) _ (broken_is w.broken) (other (wrong_phase cut Closed) _ (when_is _ (WrongPhase cut.phase) (λ e. cc)) (other (wrong_marks cut None) [] (λ e. cc) (λ e. cc)))
    met (Some cut) (Some n) h = other (broken w) _ (broken_is w.broken) (other (wrong_phase cut Closed) _ (when_is _ (WrongPhase cut.phase) (λ e. cc)) (other (wrong_marks cut (Some n)) [] (given cut (Some n) h) (λ e. cc)))

-- a run in two parts
lanes_append : (events more : List Event) → AllByRecursion (λ e. e.entry.lane ≡ 1) events → AllByRecursion (λ e. e.entry.lane ≡ 1) more → AllByRecursion (λ e. e.entry.lane ≡ 1) (events ++ more)
lanes_append [] more a b = b
lanes_append (e ∷ events) more a b = (a.0, lanes_append events more a.1 b)

lanes_parts : (events more : List Event) → AllByRecursion (λ e. e.entry.lane ≡ 1) (events ++ more)
    → AllByRecursion (λ e. e.entry.lane ≡ 1) events × AllByRecursion (λ e. e.entry.lane ≡ 1) more
lanes_parts [] more h = (tt, h)
lanes_parts (e ∷ events) more h = let r = lanes_parts events more h.1 in ((h.0, r.0), r.1)

marks_append : (w : World) (events more : List Event) → HavePresentMarks w events → HavePresentMarks (after w events) more → HavePresentMarks w (events ++ more)
marks_append w [] more a b = b
marks_append w (e ∷ events) more a b = (a.0, marks_append (next w e) events more a.1 b)

marks_parts : (w : World) (events more : List Event) → HavePresentMarks w (events ++ more) → HavePresentMarks w events × HavePresentMarks (after w events) more
marks_parts w [] more h = (tt, h)
marks_parts w (e ∷ events) more h = let r = marks_parts (next w e) events more h.1 in ((h.0, r.0), r.1)

pub IsRun-append : (w : World) (events more : List Event) → IsScriptRun w events → IsScriptRun (after w events) more → IsScriptRun w (events ++ more)
IsRun-append w events more a b = record { lane = lanes_append events more a.lane b.lane; marks = marks_append w events more a.marks b.marks }

pub IsRun-parts : (w : World) (events more : List Event) → IsScriptRun w (events ++ more) → IsScriptRun w events × IsScriptRun (after w events) more
IsRun-parts w events more h =
    let l = lanes_parts events more h.lane in
    let m = marks_parts w events more h.marks in
    (record { lane = l.0; marks = m.0 }, record { lane = l.1; marks = m.1 })

-- ---- the first events of what a line makes

-- calls that are answered as done
abbrev done_by : Call → Event
done_by call = record { entry = record { lane = 1; call = call; reply = Done }; note = nothing }

all_made : (calls : List Call) → Makes calls (map done_by calls) []
all_made [] = refl
all_made (call ∷ calls) = (refl, all_made calls)

none_after : (events more : List Event) → events ++ more ≡ [] → events ≡ []
none_after [] more h = refl
none_after (e ∷ events) more h = cc

either_to : {A B C D : Type 0} (b : Bool) → (A → C) → (B → D) → MatchBool b A B → MatchBool b C D
either_to true f g x = f x
either_to false f g x = g x

goes_on : (calls : List Call) (events : List Event) (b : Bool) → (Starts calls events → (more : List Event) × Makes calls (events ++ more) []) → MatchBool b (events ≡ []) (Starts calls events)
    → (more : List Event) × MatchBool b (events ++ more ≡ []) (Makes calls (events ++ more) [])
goes_on calls events true further h = ([], append-nil events ∙ h)
goes_on calls events false further h = further h

pub starts_goes_on : (calls : List Call) (events : List Event) → Starts calls events → (more : List Event) × Makes calls (events ++ more) []
starts_goes_on calls [] h = (map done_by calls, all_made calls)
starts_goes_on [] (e ∷ events) h = absurd h
starts_goes_on (call ∷ calls) (e ∷ events) h =
    let r = goes_on calls events (is_refused e.entry.reply) (starts_goes_on calls events) h.1 in
    (r.0, (h.0, r.1))

pub made_starts : (calls : List Call) (events more : List Event) → Makes calls (events ++ more) [] → Starts calls events
made_starts calls [] more h = tt
made_starts [] (e ∷ events) more h = cc
made_starts (call ∷ calls) (e ∷ events) more h = (h.0, either_to (is_refused e.entry.reply) (none_after events more) (made_starts calls events more) h.1)
