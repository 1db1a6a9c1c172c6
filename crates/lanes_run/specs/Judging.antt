-- Lines that are judged, on the way.
use Rattle.std.specs.Prelude.{◌≡◌, ◌⊎◌, ℕ, ◌+◌, ◌≤◌, ◌<◌, List, [], ◌∷◌, ◌++◌, length, Option, Result, Ok, Err}
use Rattle.std.specs.Io.KnownBytes.{Consumes}
use Rattle.script_lang.specs.declared.line.LaneLine.{LaneLine}
use Rattle.script_lang.specs.declared.line.TheConstants.{LINE_LIMIT}
use Rattle.script_lang.specs.Script.{lines_of, SaysInLane}
use Rattle.script_lang.specs.Words.{Without}
use Rattle.store_lanes.specs.LaneScripts.{SayInLanes}
use Rattle.store_run.specs.Lines.{AreWholeLines}
use Rattle.store_run.specs.Pieces.{whole_lines}
use Rattle.store_run.specs.declared.status.Status.{Status}
use Rattle.store_run.specs.declared.status.Status.TheVariants.{BadLine, TooLong}
use Rattle.lanes_run.specs.Asked.{line_entries, entries_asked}
use Rattle.lanes_run.specs.Judged.{IsBadInLanes, AreRight, RefusedBy}
use Rattle.lanes_run.specs.declared.judging.TheConstants.{MOST_ENTRIES}
use Rattle.lanes_run.specs.declared.judging.Tally.{Tally}
use Rattle.lanes_run.specs.declared.reading.Script.{Script}

-- ---- a line

-- the line says something, and was counted with the entries that it asks for
pub record LineCounted (pages : ℕ) (bytes : List ℕ) (before now : Tally) : Type 0 where
  pub said : LaneLine
  pub says : SaysInLane bytes said.lane said.line
  pub lines_is : now.lines ≡ before.lines + 1
  pub entries_is : now.entries ≡ before.entries + line_entries pages said.line

abbrev pub LineJudged : ℕ → List ℕ → Tally → Result Tally Status → Type 0
LineJudged pages bytes before (Ok now) = LineCounted pages bytes before now
LineJudged pages bytes before (Err (BadLine line column)) = IsBadInLanes bytes column × (line ≡ before.lines + 1)
LineJudged pages bytes before (Err status) = ⊥

-- ---- lines

-- the whole lines at the front of some bytes were counted, and this is left
pub record FrontCounted (pages : ℕ) (bytes : List ℕ) (before now : Tally) (rest : List ℕ) : Type 0 where
  pub front : List ℕ
  pub lines : List (List ℕ)
  pub said : List LaneLine
  pub whole : bytes ≡ front ++ rest
  pub are : AreWholeLines front lines
  pub says : SayInLanes lines said
  pub lines_is : now.lines ≡ before.lines + length lines
  pub entries_is : now.entries ≡ before.entries + entries_asked pages said

-- a line among them is bad: a whole one, or one that is too long already
pub record LanesFrontBad (bytes : List ℕ) (before : Tally) (line column : ℕ) : Type 0 where
  pub front : List ℕ
  pub rest : List ℕ
  pub good : List (List ℕ)
  pub bad : List ℕ
  pub said : List LaneLine
  pub whole : bytes ≡ front ++ rest
  pub lines : lines_of front ≡ good ++ bad ∷ []
  pub within : length bad ≤ length bytes
  pub judged : (whole_lines front ≡ good ++ bad ∷ []) ⊎ ((rest ≡ []) × (LINE_LIMIT < length bad))
  pub says : SayInLanes good said
  pub is_bad : IsBadInLanes bad column
  pub line_is : line ≡ before.lines + length good + 1

abbrev pub LanesFrontStopped : List ℕ → Tally → Status → Type 0
LanesFrontStopped bytes before (BadLine line column) = LanesFrontBad bytes before line column
LanesFrontStopped bytes before status = ⊥

-- the whole lines of some bytes were judged, and so many bytes are left
abbrev pub FrontJudged : ℕ → List ℕ → Tally → Result (Tally × ℕ) Status → Type 0
FrontJudged pages bytes before (Ok end) = (rest : List ℕ) × FrontCounted pages bytes before end.0 rest
    × Without 10 rest × (length rest ≡ end.1)
FrontJudged pages bytes before (Err status) = LanesFrontStopped bytes before status

-- the same of a piece: what is left is an unended line that isn't too long
pub record PieceCounted (pages : ℕ) (bytes : List ℕ) (before now : Tally) (rest : List ℕ) : Type 0 where
  pub front : FrontCounted pages bytes before now rest
  pub unended : Without 10 rest
  pub short : length rest ≤ LINE_LIMIT

abbrev pub PieceJudged : ℕ → List ℕ → Tally → List ℕ → Result Tally Status → Type 0
PieceJudged pages bytes before rest (Ok now) = PieceCounted pages bytes before now rest
PieceJudged pages bytes before rest (Err status) = LanesFrontStopped bytes before status

-- ---- the end of input

-- an unended line was counted, if there was one
pub record LastCounted (pages : ℕ) (bytes : List ℕ) (before now : Tally) : Type 0 where
  pub said : List LaneLine
  pub says : SayInLanes (lines_of bytes) said
  pub entries_is : now.entries ≡ before.entries + entries_asked pages said

-- it is bad
pub record LastBad (bytes : List ℕ) (before : Tally) (line column : ℕ) : Type 0 where
  pub one : lines_of bytes ≡ bytes ∷ []
  pub is_bad : IsBadInLanes bytes column
  pub line_is : line ≡ before.lines + 1

abbrev pub LastJudged : ℕ → List ℕ → Tally → Result Tally Status → Type 0
LastJudged pages bytes before (Ok now) = LastCounted pages bytes before now
LastJudged pages bytes before (Err (BadLine line column)) = LastBad bytes before line column
LastJudged pages bytes before (Err status) = ⊥

-- so many entries are asked for in all, which aren't too many; or they are
abbrev pub EndJudged : ℕ → List ℕ → Tally → Result ℕ Status → Type 0
EndJudged pages bytes before (Ok entries) = (now : Tally) × LastCounted pages bytes before now
    × (entries ≡ now.entries) × (now.entries ≤ MOST_ENTRIES)
EndJudged pages bytes before (Err TooLong) = (now : Tally) × LastCounted pages bytes before now
    × (MOST_ENTRIES < now.entries)
EndJudged pages bytes before (Err (BadLine line column)) = LastBad bytes before line column
EndJudged pages bytes before (Err status) = ⊥

-- ---- the whole

-- a script was read that is right, and asks for so many entries
pub record ScriptRight (pages : ℕ) (left_before left_now : Option (List ℕ)) (bytes : List ℕ)
    (entries : ℕ) : Type 0 where
  pub consumed : Consumes left_before left_now bytes
  pub said : List LaneLine
  pub right : AreRight pages bytes left_now said
  pub entries_is : entries ≡ entries_asked pages said

-- it is refused
pub record ScriptRefused (status : Status) (pages : ℕ) (left_before left_now : Option (List ℕ)) : Type 0 where
  pub taken : List ℕ
  pub consumed : Consumes left_before left_now taken
  pub said : List LaneLine
  pub refused : RefusedBy status pages taken left_now said

abbrev pub BytesRead : ℕ → Option (List ℕ) → Option (List ℕ) → List ℕ → Result ℕ Status → Type 0
BytesRead pages left_before left_now bytes (Ok entries) = ScriptRight pages left_before left_now bytes entries
BytesRead pages left_before left_now bytes (Err status) = ScriptRefused status pages left_before left_now

abbrev pub ScriptRead : ℕ → Option (List ℕ) → Option (List ℕ) → Result Script Status → Type 0
ScriptRead pages left_before left_now
    (Ok script) = ScriptRight pages left_before left_now script.bytes.items script.entries
ScriptRead pages left_before left_now (Err status) = ScriptRefused status pages left_before left_now
