-- How far the events of a line serve what it asks for.
use Rattle.std.specs.Prelude.{◌≡◌, ◌⊎◌, ℕ, Bool, true, false, List, [], ◌∷◌, ◌++◌, MatchBool, Result, Ok, Err, IfSome}
use Rattle.std.specs.List.{AllByRecursion}
use Rattle.object_graph.specs.declared.calls.Call.{Call}
use Rattle.object_graph.specs.declared.calls.Call.TheVariants.{Copy, HandIn, Mark, Sweep}
use Rattle.object_graph.specs.declared.memory.Memory.{Memory}
use Rattle.store_model.specs.Causes.{marks_number}
use Rattle.store_model.specs.Histories.{is_refused}
use Rattle.store_model.specs.Lanes.{WorldEvent, Wish, Grants, Serves, FollowsLane, IsOwnLine, ClosedCut}
use Rattle.script_lang.specs.declared.line.LaneLine.{LaneLine}
use Rattle.store_lanes.specs.LaneScripts.{wishes_of, lines_of_lane}
use Rattle.store_lanes.specs.declared.collect.OnPage.{OnPage}
use Rattle.store_lanes.specs.declared.collect.OnPage.TheVariants as on_page

-- the events are the first ones of such a line's, all of them perhaps
abbrev pub ServesFront : List Wish → List WorldEvent → Type 0
ServesFront wishes [] = Unit {0}
ServesFront [] (m ∷ ms) = ⊥
ServesFront (wish ∷ wishes) (m ∷ ms) = Grants wish m.event.entry.call
    × MatchBool (is_refused m.event.entry.reply) (ms ≡ []) (ServesFront wishes ms)

-- they are all of them, unless there was no room for one
abbrev pub ServesBy : List Wish → List WorldEvent → Result (Unit {0}) Memory → Type 0
ServesBy wishes ms (Ok done) = Serves wishes ms []
ServesBy wishes ms (Err memory) = ServesFront wishes ms

-- a lane has begun the next of its lines, or it hasn't
abbrev pub Begins : ℕ → ℕ → List LaneLine → List WorldEvent → Type 0
Begins pages lane [] begun = begun ≡ []
Begins pages lane (s ∷ future) begun = (begun ≡ [])
    ⊎ ((s.lane ≡ lane) × ServesFront (wishes_of pages s.line) begun × IsOwnLine begun)

-- the events of a lane follow its lines that are past, and after them perhaps a part of the next
pub record FollowsTo (pages lane : ℕ) (past future : List LaneLine) (ms : List WorldEvent) : Type 0 where
  pub done : List WorldEvent
  pub begun : List WorldEvent
  pub split : ms ≡ done ++ begun
  pub follows : FollowsLane (lines_of_lane pages lane past) done
  pub begins : Begins pages lane future begun

-- ---- a line on its way

-- the call on a page
abbrev pub call_on : OnPage → ℕ → Call
call_on on_page.Copy page = Copy page
call_on on_page.Sweep page = Sweep page

-- the events are those of the first calls, of which none was refused, and these calls are left
abbrev pub Passes : List Call → List Call → List WorldEvent → Type 0
Passes calls left [] = calls ≡ left
Passes [] left (m ∷ ms) = ⊥
Passes (call ∷ calls) left (m ∷ ms) = (m.event.entry.call ≡ call) × (is_refused m.event.entry.reply ≡ false)
    × Passes calls left ms

-- the events are those of the first calls, and the last of them was refused
abbrev pub Ends : List Call → List WorldEvent → Type 0
Ends [] ms = ⊥
Ends (call ∷ calls) [] = ⊥
Ends (call ∷ calls) (m ∷ ms) = (m.event.entry.call ≡ call)
    × MatchBool (is_refused m.event.entry.reply) (ms ≡ []) (Ends calls ms)

-- all calls were made; or one was refused; or there was no room for one
abbrev pub Outcome : List Call → List WorldEvent → Result Bool Memory → Type 0
Outcome calls ms (Ok true) = Passes calls [] ms
Outcome calls ms (Ok false) = Ends calls ms
Outcome calls ms (Err memory) = (left : List Call) × Passes calls left ms

-- ---- marks of a line's own cut

-- neither a copy that is handed in nor marks
abbrev pub is_plain : Call → Bool
is_plain (HandIn page cut seen) = false
is_plain (Mark workers) = false
is_plain call = true

-- marks are none, or those of the cut that the line closed
pub record GivesOwn (line : List WorldEvent) (m : WorldEvent) : Type 0 where
  pub workers : ℕ
  pub call : m.event.entry.call ≡ Mark workers
  pub closed : IfSome (marks_number m.event.note) (ClosedCut line)

abbrev pub IsOwnIn : List WorldEvent → WorldEvent → Type 0
IsOwnIn line m = (is_plain m.event.entry.call ≡ true) ⊎ GivesOwn line m

abbrev pub IsOwnPart : List WorldEvent → Type 0
IsOwnPart line = AllByRecursion (IsOwnIn line) line

-- whether all was done is nothing to the line
abbrev pub without_bool : Result Bool Memory → Result (Unit {0}) Memory
without_bool (Ok b) = Ok tt
without_bool (Err e) = Err e
