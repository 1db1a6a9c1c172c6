-- What the lanes did, as their seats know it.
use Rattle.std.specs.Prelude.{◌≡◌, ◌≢◌, ℕ, ◌≤◌, Bool, true, false, List, [], ◌∷◌, ◌++◌, Option, Some, None, Result, Ok, Err, IsTrue}
use Rattle.object_graph.specs.declared.calls.Call.{Call}
use Rattle.object_graph.specs.declared.calls.Call.TheVariants.{Close, Mark}
use Rattle.object_graph.specs.declared.memory.Memory.{Memory}
use Rattle.disk_trait.specs.declared.disk.Disk.{Ghosts as DiskOf}
use Rattle.store_model.specs.Lanes.{WorldEvent, FollowsLane, IsOwnLine, ClosedCut as HasClosed}
use Rattle.cut_builder.specs.CutParts.{ClosedParts}
use Rattle.cut_core.specs.Seen.{Seen}
use Rattle.script_lang.specs.declared.line.Line.{Line}
use Rattle.script_lang.specs.declared.line.Line.TheVariants.{One, Collect, Note}
use Rattle.script_lang.specs.declared.line.LaneLine.{LaneLine}
use Rattle.script_lang.specs.Script.{SaysInLane}
use Rattle.store_desk.specs.Appended.{IsTaken}
use Rattle.store_desk.specs.Chronicles.{IsKnown}
use Rattle.store_desk.specs.Events.{history, HasClosing}
use Rattle.store_desk.specs.Seats.{AtDesk}
use Rattle.store_lanes.specs.LaneScripts.{SayInLanes, wishes_of, lines_of_lane}
use Rattle.store_lanes.specs.Owned.{SeatOwns, own_part, Added}
use Rattle.store_lanes.specs.Served.{Outcome, Passes, ServesBy, FollowsTo, is_plain, IsOwnPart}

-- the line is one that a lane runs by itself
abbrev pub IsRun : Line → Type 0
IsRun (One call) = IsTaken call × (is_plain call ≡ true)
IsRun (Collect workers) = Unit {0}
IsRun Note = ⊥

-- what the line of these bytes asks a lane for, and nothing else; or it is none of the lane
abbrev pub IsFor : ℕ → List ℕ → Option Line → Type 0
IsFor lane bytes (Some line) = IsRun line
    × ((s : LaneLine) → SaysInLane bytes s.lane s.line → (s.lane ≡ lane) × (s.line ≡ line))
IsFor lane bytes None = (s : LaneLine) → SaysInLane bytes s.lane s.line → s.lane ≢ lane

-- What follows speaks of a desk over a disk with these members, which was made with a core.
module _ {D : Type 0} (disks : DiskOf D) (first : Seen D) where
  -- where it is known what the reopenings found
  abbrev pub ReopeningsKnown : AtDesk D → Type 0
  ReopeningsKnown seat = IsKnown (disks.content first.disk) (history seat.seen)

  -- ---- calls of a line

  -- some calls of a line were made
  pub record PartRan (lane : ℕ) (calls : List Call) (old new : AtDesk D) (result : Result Bool Memory) : Type 0 where
    pub made : List WorldEvent
    pub added : Added first.world lane old new made
    pub outcome : Outcome calls made result
    pub own : ReopeningsKnown new → IsOwnPart made

  -- the cut was closed and went out
  pub record WentOut (lane : ℕ) (old new : AtDesk D) (cut : ClosedParts) : Type 0 where
    pub made : List WorldEvent
    pub added : Added first.world lane old new made
    pub passes : Passes (Close ∷ []) [] made
    pub own : IsOwnPart made
    pub closing : HasClosing new.seen cut
    pub closed : ReopeningsKnown new → HasClosed made cut.number

  -- so it was, or the closing was refused, or there was no room
  abbrev pub ClosingRan : ℕ → AtDesk D → AtDesk D → Result (Option ClosedParts) Memory → Type 0
  ClosingRan lane old new (Ok (Some cut)) = WentOut lane old new cut
  ClosingRan lane old new (Ok None) = PartRan lane (Close ∷ []) old new (Ok false)
  ClosingRan lane old new (Err memory) = PartRan lane (Close ∷ []) old new (Err memory)

  -- marks of this cut were given, or none
  pub record MarksRan (lane workers number : ℕ) (old new : AtDesk D) (result : Result Bool Memory) : Type 0 where
    pub made : List WorldEvent
    pub added : Added first.world lane old new made
    pub outcome : Outcome (Mark workers ∷ []) made result
    pub own : (before : List WorldEvent) → IsOwnPart before → HasClosed before number → IsOwnPart (before ++ made)

  -- ---- lines

  -- the line was run, or there was no room for one of its calls
  pub record LineServed (lane : ℕ) (line : Line) (old new : AtDesk D) (result : Result (Unit {0}) Memory) : Type 0 where
    pub made : List WorldEvent
    pub added : Added first.world lane old new made
    pub own : ReopeningsKnown new → IsOwnLine made
    pub serves : ServesBy (wishes_of first.world.pages line) made result

  -- ---- lanes

  -- of what the lines say a part was run by a lane, and the lines of the rest are left
  pub record LaneStands (left : List (List ℕ)) (lane : ℕ) (seat : AtDesk D) (said : List LaneLine) : Type 0 where
    pub past : List LaneLine
    pub future : List LaneLine
    pub split : said ≡ past ++ future
    pub ahead : SayInLanes left future
    pub follows : ReopeningsKnown seat
        → FollowsLane (lines_of_lane first.world.pages lane past) (own_part first.world lane seat)

  -- a lane on its way
  pub record LaneGoes (all left : List (List ℕ)) (lane : ℕ) (seat : AtDesk D) : Type 0 where
    pub owns : SeatOwns first.world lane lane seat
    pub goes : (said : List LaneLine) → SayInLanes all said → LaneStands left lane seat said

  -- a lane's own events follow some of its lines, and all of them where it went to the end
  pub record Went (lane : ℕ) (whole : Bool) (seat : AtDesk D) (said : List LaneLine) : Type 0 where
    pub past : List LaneLine
    pub future : List LaneLine
    pub split : said ≡ past ++ future
    pub ended : IsTrue whole → future ≡ []
    pub follows : ReopeningsKnown seat → FollowsTo first.world.pages lane past future (own_part first.world lane seat)

  -- so it is of each of some lanes, whatever the lines say
  pub record LanesRan (all : List (List ℕ)) (low high : ℕ) (whole : Bool) (seat : AtDesk D) : Type 0 where
    pub owns : SeatOwns first.world low high seat
    pub each : (lane : ℕ) → low ≤ lane → lane ≤ high → (said : List LaneLine) → SayInLanes all said
        → Went lane whole seat said
