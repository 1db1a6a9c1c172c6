-- How a script of lanes is judged. Of all that can be wrong what counts at the earliest byte is told: a bad line
-- counts at its 201st byte, and a
-- shorter one at its line end or at the end of input.
use Rattle.std.specs.Prelude.{◌≡◌, ◌⊎◌, ℕ, ◌≤◌, ◌<◌, List, [], ◌∷◌, ◌++◌, length, Option}
use Rattle.std.specs.Io.KnownBytes.{IsAtEnd}
use Rattle.script_lang.specs.declared.line.LaneLine.{LaneLine}
use Rattle.script_lang.specs.declared.line.TheConstants.{LINE_LIMIT}
use Rattle.script_lang.specs.Script.{lines_of, SaysInLane, InLanes, IsBadAt}
use Rattle.script_lang.specs.Words.{Without}
use Rattle.store_lanes.specs.LaneScripts.{SayInLanes}
use Rattle.store_run.specs.Pieces.{whole_lines}
use Rattle.store_run.specs.Ran.{StopsAtLine}
use Rattle.store_run.specs.declared.pieces.TheConstants.{SCRIPT_LIMIT}
use Rattle.store_run.specs.declared.status.Status.{Status}
use Rattle.store_run.specs.declared.status.Status.TheVariants.{BadLine, TooLong, ReadFault, Memory}
use Rattle.lanes_run.specs.Asked.{entries_asked}
use Rattle.lanes_run.specs.declared.judging.TheConstants.{MOST_ENTRIES}

-- the line says nothing in lanes, and this is the column of its first wrong place
pub record IsBadInLanes (bytes : List ℕ) (column : ℕ) : Type 0 where
  pub outside : (s : LaneLine) → SaysInLane bytes s.lane s.line → ⊥
  pub wrong_at : IsBadAt InLanes bytes column

-- the lines before a first bad one say this
pub record HasBadLine (taken : List ℕ) (left : Option (List ℕ)) (said : List LaneLine) (line column : ℕ) : Type 0 where
  pub within : length taken ≤ SCRIPT_LIMIT
  pub good : List (List ℕ)
  pub bad : List ℕ
  pub stops : StopsAtLine taken left good bad line
  pub says : SayInLanes good said
  pub is_bad : IsBadInLanes bad column

-- No bad line counts among these bytes: the whole lines say this, and what stands behind them isn't too long for a
-- line.
pub record AreGoodSoFar (bytes : List ℕ) (said : List LaneLine) : Type 0 where
  pub within : length bytes ≤ SCRIPT_LIMIT
  pub front : List ℕ
  pub rest : List ℕ
  pub split : bytes ≡ front ++ rest
  pub whole : whole_lines front ≡ lines_of front
  pub unended : Without 10 rest
  pub short : length rest ≤ LINE_LIMIT
  pub says : SayInLanes (lines_of front) said

-- no bad line counts up to the last byte that a script may have, and there is a byte more
pub record GoBeyond (taken : List ℕ) (said : List LaneLine) : Type 0 where
  pub bytes : List ℕ
  pub byte : ℕ
  pub split : taken ≡ bytes ++ byte ∷ []
  pub full : length bytes ≡ SCRIPT_LIMIT
  pub good : AreGoodSoFar bytes said

-- all was read, and the lines say this
pub record AreWhole (taken : List ℕ) (left : Option (List ℕ)) (said : List LaneLine) : Type 0 where
  pub at_end : IsAtEnd left
  pub within : length taken ≤ SCRIPT_LIMIT
  pub says : SayInLanes (lines_of taken) said

-- and they ask for few enough entries, over a store of so many pages
pub record AreRight (pages : ℕ) (taken : List ℕ) (left : Option (List ℕ)) (said : List LaneLine) : Type 0 where
  pub all : AreWhole taken left said
  pub few : entries_asked pages said ≤ MOST_ENTRIES

-- or for too many
pub record AskTooMuch (pages : ℕ) (taken : List ℕ) (left : Option (List ℕ)) (said : List LaneLine) : Type 0 where
  pub all : AreWhole taken left said
  pub many : MOST_ENTRIES < entries_asked pages said

-- why a script is refused
abbrev pub RefusedBy : Status → ℕ → List ℕ → Option (List ℕ) → List LaneLine → Type 0
RefusedBy (BadLine line column) pages taken left said = HasBadLine taken left said line column
RefusedBy TooLong pages taken left said = GoBeyond taken said ⊎ AskTooMuch pages taken left said
RefusedBy ReadFault pages taken left said = AreGoodSoFar taken said
RefusedBy Memory pages taken left said = AreGoodSoFar taken said
RefusedBy status pages taken left said = ⊥
