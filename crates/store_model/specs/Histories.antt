-- Histories, and which histories follow a script.
use Rattle.std.specs.Prelude.{◌≡◌, ℕ, Bool, true, false, List, [], ◌∷◌, ◌++◌, map, MatchBool, IfSome, IsSomeAnd}
use Rattle.std.specs.List.{AllByRecursion}
use Rattle.object_graph.specs.declared.calls.Call.{Call}
use Rattle.object_graph.specs.declared.calls.Call.TheVariants.{OpenCut, Copy, Close, Mark, Sweep, EndCut}
use Rattle.object_graph.specs.declared.calls.Reply.{Reply}
use Rattle.object_graph.specs.declared.calls.Reply.TheVariants.{Refused}
use Rattle.object_graph.specs.Slots.{below}
use Rattle.store_model.specs.Worlds.{World, Event, Note}
use Rattle.store_model.specs.Causes.{marks_number}
use Rattle.store_model.specs.Replies.{Allows}
use Rattle.store_model.specs.Steps.{next}

-- the world after a history
abbrev pub after : World → List Event → World
after w [] = w
after w (e ∷ events) = after (next w e) events

-- each event is allowed in the world after those before it
abbrev pub IsLegal : World → List Event → Type 0
IsLegal w [] = Unit {0}
IsLegal w (e ∷ events) = Allows w e × IsLegal (next w e) events

-- the calls of a collection, over a store of so many pages
abbrev pub collection : ℕ → ℕ → List Call
collection pages workers =
    (OpenCut ∷ map (λ page. Copy page) (below pages)) ++ (Close ∷ Mark workers
    ∷ map (λ page. Sweep page) (below pages)) ++ EndCut ∷ []

abbrev pub is_refused : Reply → Bool
is_refused (Refused why) = true
is_refused _ = false

-- the events begin with these calls, up to the first that is refused, and the rest is left
abbrev pub Makes : List Call → List Event → List Event → Type 0
Makes [] events rest = events ≡ rest
Makes (call ∷ calls) [] rest = ⊥
Makes (call ∷ calls) (e ∷ events) rest = (e.entry.call ≡ call)
    × MatchBool (is_refused e.entry.reply) (events ≡ rest) (Makes calls events rest)

-- the events are the first ones of such a line's, all of them perhaps
abbrev pub Starts : List Call → List Event → Type 0
Starts calls [] = Unit {0}
Starts [] (e ∷ events) = ⊥
Starts (call ∷ calls) (e ∷ events) = (e.entry.call ≡ call)
    × MatchBool (is_refused e.entry.reply) (events ≡ []) (Starts calls events)

-- the events are those of these lists of calls, one for each line, in order
abbrev pub Follows : List (List Call) → List Event → Type 0
Follows [] events = events ≡ []
Follows (calls ∷ lines) events = (rest : List Event) × Makes calls events rest × Follows lines rest

-- marks are none, or those of the cut that is there
abbrev pub HasPresentMarks : World → Call → Note → Type 0
HasPresentMarks w (Mark workers) note =
    IfSome (marks_number note) (λ number. IsSomeAnd w.cut (λ cut. cut.number ≡ number))
HasPresentMarks w _ note = Unit {0}

-- each mark of the history gives such marks
abbrev pub HavePresentMarks : World → List Event → Type 0
HavePresentMarks w [] = Unit {0}
HavePresentMarks w (e ∷ events) = HasPresentMarks w e.entry.call e.note × HavePresentMarks (next w e) events

-- the events of one script: all are of lane 1, and each mark gives marks of the cut that is there
pub record IsScriptRun (w : World) (events : List Event) : Type 0 where
  pub lane : AllByRecursion (λ e. e.entry.lane ≡ 1) events
  pub marks : HavePresentMarks w events
