-- Scripts of several lanes: what their lines say, and what each lane is asked for.
use Rattle.std.specs.Prelude.{◌≡◌, ℕ, ◌≤◌, ◌==◌, cond, List, [], ◌∷◌, map}
use Rattle.std.specs.List.{AllByRecursion}
use Rattle.store_model.specs.Histories.{collection}
use Rattle.store_model.specs.Lanes.{Wish, one_call}
use Rattle.script_lang.specs.declared.line.Line.{Line}
use Rattle.script_lang.specs.declared.line.Line.TheVariants.{One, Collect, Note}
use Rattle.script_lang.specs.declared.line.LaneLine.{LaneLine}
use Rattle.script_lang.specs.Script.{SaysInLane}

-- what the lines say, each in its turn
abbrev pub SayInLanes : List (List ℕ) → List LaneLine → Type 0
SayInLanes [] said = said ≡ []
SayInLanes (line ∷ lines) [] = ⊥
SayInLanes (line ∷ lines) (s ∷ said) = SaysInLane line s.lane s.line × SayInLanes lines said

-- the lines are of no lane beyond this
abbrev pub EndAtLane : ℕ → List (List ℕ) → Type 0
EndAtLane last lines = (said : List LaneLine) → SayInLanes lines said
    → AllByRecursion (λ (s : LaneLine). s.lane ≤ last) said

-- what a line of a lane asks for, over a store of so many pages
abbrev pub wishes_of : ℕ → Line → List Wish
wishes_of pages Note = []
wishes_of pages (One call) = one_call call ∷ []
wishes_of pages (Collect workers) = map one_call (collection pages workers)

-- what the lines of one lane ask for
abbrev pub lines_of_lane : ℕ → ℕ → List LaneLine → List (List Wish)
lines_of_lane pages lane [] = []
lines_of_lane pages lane (s ∷ said) = cond (s.lane == lane) (wishes_of pages s.line
    ∷ lines_of_lane pages lane said) (lines_of_lane pages lane said)
