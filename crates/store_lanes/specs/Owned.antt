-- The parts of a history that are of the lanes, as seats own them.
use Rattle.std.specs.Prelude.{◌≡◌, ℕ, ◌+◌, ◌<◌, ◌≤◌, Bool, true, false, ◌&&◌, ◌||◌, ◌==◌, cond, List, [], ◌∷◌, ◌++◌, length, slice_get, Some}
use Rattle.store_model.specs.Worlds.{World, Event}
use Rattle.store_model.specs.Lanes.{WorldEvent, world_events}
use Rattle.turn_lock.specs.Lists.{StartsWith}
use Rattle.store_desk.specs.Events.{history}
use Rattle.store_desk.specs.Seats.{AtDesk}

-- a place is among these
abbrev pub has : ℕ → List ℕ → Bool
has p [] = false
has p (x ∷ xs) = (x == p) || has p xs

-- the events of a lane at these places, of those that stand from a place on
abbrev pub part : List ℕ → ℕ → ℕ → List WorldEvent → List WorldEvent
part own lane at [] = []
part own lane at (m ∷ ms) = cond (has at own && (m.event.entry.lane == lane)) (m
    ∷ part own lane (at + 1) ms) (part own lane (at + 1) ms)

-- what a seat has as its own has been seen, and is of the lanes from the first to the last
pub record OwnsLanes (w : World) (first last : ℕ) (own : List ℕ) (events : List Event) : Type 0 where
  pub below : (p : ℕ) → has p own ≡ true → p < length events
  pub lanes : (p : ℕ) (m : WorldEvent) → has p own ≡ true → slice_get (world_events w events) p ≡ Some m
      → (first ≤ m.event.entry.lane) × (m.event.entry.lane ≤ last)

-- so it is of a seat
abbrev pub SeatOwns : {D : Type 0} → World → ℕ → ℕ → AtDesk D → Type 0
SeatOwns w first last seat = OwnsLanes w first last seat.own (history seat.seen)

-- a seat's own events of a lane
abbrev pub own_part : {D : Type 0} → World → ℕ → AtDesk D → List WorldEvent
own_part w lane seat = part seat.own lane 0 (world_events w (history seat.seen))

-- a lane's seat has these events more
pub record Added {D : Type 0} (w : World) (lane : ℕ) (old new : AtDesk D) (made : List WorldEvent) : Type 0 where
  pub begins : StartsWith new.seen old.seen
  pub owns : SeatOwns w lane lane old → SeatOwns w lane lane new
  pub parts : SeatOwns w lane lane old → own_part w lane new ≡ own_part w lane old ++ made

-- turn, start and parts of a seat stay
pub record SameSeat {D : Type 0} (old new : AtDesk D) : Type 0 where
  pub turn : new.turn ≡ old.turn
  pub start : new.start ≡ old.start
  pub parts : new.parts ≡ old.parts
