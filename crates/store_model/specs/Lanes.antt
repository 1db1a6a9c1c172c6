-- Histories of several lanes: what the lines of each lane make of them.
use Rattle.std.specs.Prelude.{◌≡◌, ℕ, ◌≤◌, ◌==◌, List, [], ◌∷◌, ◌++◌, map, filter, MatchBool, IfSome, IsSomeAnd}
use Rattle.std.specs.List.{AllByRecursion}
use Rattle.object_graph.specs.declared.calls.Call.{Call}
use Rattle.object_graph.specs.declared.calls.Call.TheVariants.{OpenCut, HandIn, Close, Mark, Sweep, EndCut}
use Rattle.object_graph.specs.declared.calls.Reply.{Reply}
use Rattle.object_graph.specs.declared.calls.Reply.TheVariants.{Cut}
use Rattle.object_graph.specs.Slots.{below}
use Rattle.object_graph.specs.Members.{In}
use Rattle.store_model.specs.Worlds.{World, Event}
use Rattle.store_model.specs.Causes.{marks_number}
use Rattle.store_model.specs.Steps.{next}
use Rattle.store_model.specs.Histories.{is_refused}

-- an event, and the world before it
pub record WorldEvent : Type 0 where
  pub world : World
  pub event : Event

abbrev pub world_events : World → List Event → List WorldEvent
world_events w [] = []
world_events w (e ∷ events) = record { world = w; event = e } ∷ world_events (next w e) events

-- the events of a lane
abbrev pub events_of_lane : ℕ → List WorldEvent → List WorldEvent
events_of_lane lane ms = filter (λ m. m.event.entry.lane == lane) ms

-- what a line of a lane asks for: one call, or that a copy of a page is handed in
pub data Wish : Type 0 where
  one_call : Call → Wish
  copy_of : ℕ → Wish

-- a whole collection of a lane
abbrev pub lane_collection : ℕ → ℕ → List Wish
lane_collection pages workers =
    (one_call OpenCut ∷ map copy_of (below pages)) ++ (one_call Close ∷ one_call (Mark workers)
    ∷ map (λ page. one_call (Sweep page)) (below pages)) ++ one_call EndCut ∷ []

-- the call does what was asked for
abbrev pub Grants : Wish → Call → Type 0
Grants (one_call wished) call = call ≡ wished
Grants (copy_of page) (HandIn p number seen) = p ≡ page
Grants (copy_of page) _ = ⊥

-- the events are those of these wishes, up to the first call that is refused, and the rest is left
abbrev pub Serves : List Wish → List WorldEvent → List WorldEvent → Type 0
Serves [] part rest = part ≡ rest
Serves (wish ∷ wishes) [] rest = ⊥
Serves (wish ∷ wishes) (m ∷ ms) rest = Grants wish m.event.entry.call
    × MatchBool (is_refused m.event.entry.reply) (ms ≡ rest) (Serves wishes ms rest)

-- the cut that a reply opened is no later than this one
abbrev pub IsNoLater : Reply → ℕ → Type 0
IsNoLater (Cut opened) number = opened ≤ number
IsNoLater _ number = Unit {0}

-- a copy that is handed in is of no earlier cut than those that its line opened, and of none to come
abbrev pub HandsInOwn : List WorldEvent → WorldEvent → Call → Type 0
HandsInOwn line m (HandIn page number seen) = AllByRecursion
    (λ before. IsNoLater before.event.entry.reply number) line × (number ≤ m.world.last_cut)
HandsInOwn line m _ = Unit {0}

-- the cut of this number was there as the line closed it
abbrev pub ClosedCut : List WorldEvent → ℕ → Type 0
ClosedCut line number = (c : WorldEvent) × In c line × (c.event.entry.call ≡ Close)
    × IsSomeAnd c.world.cut (λ cut. cut.number ≡ number)

-- marks are none, or those of the cut that the line closed
abbrev pub MarksOwn : List WorldEvent → WorldEvent → Call → Type 0
MarksOwn line m (Mark workers) = IfSome (marks_number m.event.note) (ClosedCut line)
MarksOwn line m _ = Unit {0}

-- a line's events hand in copies and give marks of its own cut
abbrev pub IsOwnLine : List WorldEvent → Type 0
IsOwnLine line = AllByRecursion (λ m. HandsInOwn line m m.event.entry.call × MarksOwn line m m.event.entry.call) line

-- the events of a lane are those of its lines, in order
abbrev pub FollowsLane : List (List Wish) → List WorldEvent → Type 0
FollowsLane [] ms = ms ≡ []
FollowsLane (wishes ∷ lines) ms =
    (line : List WorldEvent) × (rest : List WorldEvent) × (ms ≡ line ++ rest) × Serves wishes line [] × IsOwnLine line
    × FollowsLane lines rest
