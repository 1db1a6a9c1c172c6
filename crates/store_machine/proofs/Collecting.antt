-- A line of several calls, call by call.
use Rattle.std.proofs.Common.{◌≡◌, refl, sym, ap, ◌∙◌, subst, ℕ, ◌+◌, ◌<◌, ⊎_elim, Bool, true, false, List, [], ◌∷◌, ◌++◌, length, get_or, drop, append_assoc, append-nil, Some, None}
use Rattle.std.specs.Prelude.{slice_get, MatchBool}
use Rattle.std.proofs.lemmas.List.{drop_more, drop_all}
use Rattle.std.proofs.lemmas.Option.{slice_get_within, slice_get_cases, get_or_from_slice_get}
use Rattle.object_graph.specs.declared.calls.Call.{Call}
use Rattle.store_model.specs.Worlds.{Event}
use Rattle.store_model.specs.Histories.{Makes, Starts, is_refused}
use Rattle.store_machine.specs.Collecting.{HasMade}

-- the call at a place stands first in what is left
left_at : (calls : List Call) (place : ℕ) (call : Call) → slice_get calls place ≡ Some call → drop place calls ≡ call ∷ drop (place + 1) calls
left_at calls place call at =
    drop_more calls place call (slice_get_within calls place call at) ∙ ap (λ c. c ∷ drop (place + 1) calls) (get_or_from_slice_get calls place call call at)

pub made_none : (calls : List Call) → HasMade calls 0 []
made_none calls = record { makes = λ more m. m; starts = λ more s. s }

goes_on : (A B : Type 0) (b : Bool) → b ≡ false → B → MatchBool b A B
goes_on A B true is x = absurd cc
goes_on A B false is x = x

stops : (A B : Type 0) (b : Bool) → b ≡ true → A → MatchBool b A B
stops A B true is x = x
stops A B false is x = absurd cc

module _ (calls : List Call) (place : ℕ) (history : List Event) (call : Call) (e : Event) (made : HasMade calls place history) (at : slice_get calls place ≡ Some call) (is : e.entry.call ≡ call) where
  joined : (more : List Event) → (history ++ e ∷ []) ++ more ≡ history ++ e ∷ more
  joined more = append_assoc history (e ∷ []) more

  -- one more call that isn't refused
  pub made_more : is_refused e.entry.reply ≡ false → HasMade calls (place + 1) (history ++ e ∷ [])
  made_more given = record {
    makes = λ more m. subst (λ (h : List Event). Makes calls h []) (sym (joined more))
        (made.makes (e ∷ more) (subst (λ (left : List Call). Makes left (e ∷ more) []) (sym (left_at calls place call at)) (is, goes_on (more ≡ []) (Makes (drop (place + 1) calls) more []) (is_refused e.entry.reply) given m)));
    starts = λ more s. subst (λ (h : List Event). Starts calls h) (sym (joined more))
        (made.starts (e ∷ more) (subst (λ (left : List Call). Starts left (e ∷ more)) (sym (left_at calls place call at)) (is, goes_on (more ≡ []) (Starts (drop (place + 1) calls) more) (is_refused e.entry.reply) given s)));
  }

  -- one that is refused ends the line
  pub made_last : is_refused e.entry.reply ≡ true → Makes calls (history ++ e ∷ []) []
  made_last refused = made.makes (e ∷ []) (subst (λ (left : List Call). Makes left (e ∷ []) []) (sym (left_at calls place call at)) (is, stops (◌≡◌ {A = List Event} [] []) (Makes (drop (place + 1) calls) [] []) (is_refused e.entry.reply) refused refl))

  either : (b : Bool) → MatchBool b (◌≡◌ {A = List Event} [] []) (Starts (drop (place + 1) calls) [])
  either true = refl
  either false = tt

  -- with it the line was begun
  pub made_begun : Starts calls (history ++ e ∷ [])
  made_begun = made.starts (e ∷ []) (subst (λ (left : List Call). Starts left (e ∷ [])) (sym (left_at calls place call at)) (is, either (is_refused e.entry.reply)))

no_more : (calls : List Call) (place : ℕ) → slice_get calls place ≡ None → drop place calls ≡ []
no_more calls place none =
    ⊎_elim (λ (some : (call : Call) × (place < length calls) × (slice_get calls place ≡ Some call) × (get_or calls place call ≡ call)). absurd (let e : slice_get calls place ≡ Some some.0 = some.2 in cc))
    (λ past. drop_all place calls past.0) (slice_get_cases calls place).1

-- no call is left
pub made_all : (calls : List Call) (place : ℕ) (history : List Event) → HasMade calls place history → slice_get calls place ≡ None → Makes calls history []
made_all calls place history made none =
    subst (λ (h : List Event). Makes calls h []) (append-nil history)
    (made.makes [] (subst (λ (left : List Call). Makes left [] []) (sym (no_more calls place none)) refl))
