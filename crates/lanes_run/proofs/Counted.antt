-- Lines of lanes that are judged.
use Rattle.std.proofs.Common.{◌≡◌, refl, sym, ap, ◌∙◌, subst, ℕ, ◌+◌, ◌*◌, ◌^◌, ◌≤◌, ◌<◌, inl, inr, List, [], ◌∷◌, ◌++◌, length, append_assoc, append-nil, arith, length-append}
use Rattle.std.specs.Prelude.{Result, Ok, Err}
use Rattle.script_lang.specs.declared.line.Line.{Line}
use Rattle.script_lang.specs.declared.line.Line.TheVariants.{One, Collect, Note}
use Rattle.script_lang.specs.declared.line.BadLine.{BadLine as WrongLine}
use Rattle.script_lang.specs.declared.line.LaneLine.{LaneLine}
use Rattle.script_lang.specs.declared.line.TheConstants.{LINE_LIMIT}
use Rattle.script_lang.specs.Script.{lines_of, SaysInLane, InLanes, IsBadAt}
use Rattle.script_lang.specs.Words.{SplitsAt, Without}
use Rattle.store_lanes.specs.LaneScripts.{SayInLanes}
use Rattle.store_run.specs.declared.status.Status.{Status}
use Rattle.store_run.specs.declared.status.Status.TheVariants.{BadLine}
use Rattle.store_run.proofs.WholeLines.{one_whole, none_whole, whole_join, lines_are, whole_are, unended_line}
use Rattle.lanes_run.specs.Asked.{line_entries, entries_asked}
use Rattle.lanes_run.specs.Judged.{IsBadInLanes}
use Rattle.lanes_run.specs.Judging.{LineCounted, LineJudged, FrontCounted, LanesFrontBad, LanesFrontStopped, LastCounted, LastJudged}
use Rattle.lanes_run.specs.declared.judging.Tally.{Tally}

-- ---- what lines say, and ask for

pub say_join : (lines others : List (List ℕ)) (said more : List LaneLine) → SayInLanes lines said → SayInLanes others more → SayInLanes (lines ++ others) (said ++ more)
say_join [] others said more s t = subst (λ (l : List LaneLine). SayInLanes others (l ++ more)) (sym s) t
say_join (line ∷ lines) others [] more s t = absurd s
say_join (line ∷ lines) others (x ∷ said) more s t = (s.0, say_join lines others said more s.1 t)

pub say_one : (line : List ℕ) (s : LaneLine) → SaysInLane line s.lane s.line → SayInLanes (line ∷ []) (s ∷ [])
say_one line s says = (says, refl)

say_length : (lines : List (List ℕ)) (said : List LaneLine) → SayInLanes lines said → length said ≡ length lines
say_length [] said s = ap length s
say_length (line ∷ lines) [] s = absurd s
say_length (line ∷ lines) (x ∷ said) s = let h = say_length lines said s.1 in omega (arith, h)

pub asked_join : (pages : ℕ) (said more : List LaneLine) → entries_asked pages (said ++ more) ≡ entries_asked pages said + entries_asked pages more
asked_join pages [] more = omega arith
asked_join pages (s ∷ said) more = let h = asked_join pages said more in omega (arith, h)

pub asked_one : (pages : ℕ) (s : LaneLine) → entries_asked pages (s ∷ []) ≡ line_entries pages s.line
asked_one pages s = omega arith

-- no line asks for more than a collection over the largest count of pages
pub line_bound : (pages : ℕ) (line : Line) → pages < 2 ^ 32 → line_entries pages line ≤ 8589934594
line_bound pages Note few = omega arith
line_bound pages (One call) few = omega arith
line_bound pages (Collect workers) few = let two : 2 ^ 32 ≡ 4294967296 = refl in omega (arith, few, two)

asked_bound : (pages : ℕ) (said : List LaneLine) → pages < 2 ^ 32 → entries_asked pages said ≤ length said * 8589934594
asked_bound pages [] few = omega arith
asked_bound pages (s ∷ said) few = let h = asked_bound pages said few in let k = line_bound pages s.line few in omega (arith, h, k)

pub lines_bound : (pages : ℕ) (lines : List (List ℕ)) (said : List LaneLine) → pages < 2 ^ 32 → SayInLanes lines said → entries_asked pages said ≤ length lines * 8589934594
lines_bound pages lines said few s = let h = asked_bound pages said few in let k = say_length lines said s in omega (arith, h, k)

-- ---- a line that is too long

too_long : (line : List ℕ) → LINE_LIMIT < length line → (lane : ℕ) (meaning : Line) → SaysInLane line lane meaning → ⊥
too_long line long lane Note says = absurd (omega (arith, long, says.0))
too_long line long lane (One call) says = absurd (omega (arith, long, says.0))
too_long line long lane (Collect workers) says = absurd (omega (arith, long, says.0))

pub long_bad : (line : List ℕ) → LINE_LIMIT < length line → IsBadInLanes line (LINE_LIMIT + 1)
long_bad line long = record {
  outside = λ s says. too_long line long s.lane s.line says;
  wrong_at = record { long = λ over. refl; short = λ few. absurd (omega (arith, long, few)) };
}

-- ---- the lines at the front of some bytes

pub front_start : (pages : ℕ) (bytes : List ℕ) (t : Tally) → FrontCounted pages bytes t t bytes
front_start pages bytes t = record { front = []; lines = []; said = []; whole = refl; are = none_whole; says = refl; lines_is = omega arith; entries_is = omega arith }

whole_more : (bytes front rest line after : List ℕ) → bytes ≡ front ++ rest → rest ≡ line ++ 10 ∷ after → bytes ≡ (front ++ (line ++ 10 ∷ [])) ++ after
whole_more bytes front rest line after whole split =
    whole ∙ (ap (λ x. front ++ x) (split ∙ sym (append_assoc line (10 ∷ []) after)) ∙ sym (append_assoc front (line ++ 10 ∷ []) after))

pub front_more : (pages : ℕ) (bytes rest line after : List ℕ) (before mid now : Tally) → FrontCounted pages bytes before mid rest → SplitsAt 10 rest line after → LineCounted pages line mid now
    → FrontCounted pages bytes before now after
front_more pages bytes rest line after before mid now x s y = record {
  front = x.front ++ (line ++ 10 ∷ []);
  lines = x.lines ++ line ∷ [];
  said = x.said ++ y.said ∷ [];
  whole = whole_more bytes x.front rest line after x.whole s.whole;
  are = whole_join x.front (line ++ 10 ∷ []) x.lines (line ∷ []) x.are (one_whole line s.without);
  says = say_join x.lines (line ∷ []) x.said (y.said ∷ []) x.says (say_one line y.said y.says);
  lines_is = omega (arith, x.lines_is, y.lines_is, length-append x.lines (line ∷ []));
  entries_is = omega (arith, x.entries_is, y.entries_is, asked_join pages x.said (y.said ∷ []), asked_one pages y.said);
}

within : (bytes front rest bad after : List ℕ) → bytes ≡ front ++ rest → rest ≡ bad ++ after → length bad ≤ length bytes
within bytes front rest bad after whole split = omega (arith, ap length whole, length-append front rest, ap length split, length-append bad after)

front_bad : (pages : ℕ) (bytes rest bad after : List ℕ) (before mid : Tally) (line column : ℕ) → FrontCounted pages bytes before mid rest → SplitsAt 10 rest bad after
    → IsBadInLanes bad column → line ≡ mid.lines + 1 → LanesFrontBad bytes before line column
front_bad pages bytes rest bad after before mid line column x s is_bad line_is =
    let are = whole_join x.front (bad ++ 10 ∷ []) x.lines (bad ∷ []) x.are (one_whole bad s.without) in
    record {
      front = x.front ++ (bad ++ 10 ∷ []);
      rest = after;
      good = x.lines;
      bad = bad;
      said = x.said;
      whole = whole_more bytes x.front rest bad after x.whole s.whole;
      lines = lines_are (x.front ++ (bad ++ 10 ∷ [])) (x.lines ++ bad ∷ []) are;
      within = within bytes x.front rest bad (10 ∷ after) x.whole s.whole;
      judged = inl (whole_are (x.front ++ (bad ++ 10 ∷ [])) (x.lines ++ bad ∷ []) are);
      says = x.says;
      is_bad = is_bad;
      line_is = omega (arith, line_is, x.lines_is);
    }

pub front_stops : (pages : ℕ) (bytes rest line after : List ℕ) (before mid : Tally) (status : Status) → FrontCounted pages bytes before mid rest → SplitsAt 10 rest line after
    → LineJudged pages line mid (Err status) → LanesFrontStopped bytes before status
front_stops pages bytes rest line after before mid (BadLine l column) x s y = front_bad pages bytes rest line after before mid l column x s y.0 y.1
front_stops pages bytes rest line after before mid _ x s y = absurd y

-- what is left is too long for a line already
pub front_too_long : (pages : ℕ) (bytes rest : List ℕ) (before now : Tally) → FrontCounted pages bytes before now rest → Without 10 rest → LINE_LIMIT < length rest
    → LanesFrontBad bytes before (now.lines + 1) (LINE_LIMIT + 1)
front_too_long pages bytes rest before now x without long = record {
  front = bytes;
  rest = [];
  good = x.lines;
  bad = rest;
  said = x.said;
  whole = sym (append-nil bytes);
  lines = ap lines_of x.whole ∙ (x.are.lines_then rest ∙ ap (λ l. x.lines ++ l) (unended_line rest (omega (arith, long)) without));
  within = within bytes x.front rest rest [] x.whole (sym (append-nil rest));
  judged = inr (refl, long);
  says = x.says;
  is_bad = long_bad rest long;
  line_is = omega (arith, x.lines_is);
}

-- ---- a line, counted or not

-- a line that isn't read
pub unread_bad : (bytes : List ℕ) (r : Result LaneLine WrongLine) (e : WrongLine) → r ≡ Err e → ((s : LaneLine) → SaysInLane bytes s.lane s.line → r ≡ Ok s) → IsBadAt InLanes bytes e.column
    → IsBadInLanes bytes e.column
unread_bad bytes r e is only at = record {
  outside = λ s says. let z : ◌≡◌ {A = Result LaneLine WrongLine} (Ok s) (Err e) = sym (only s says) ∙ is in cc;
  wrong_at = at;
}

pub line_counted : (pages : ℕ) (line : List ℕ) (before : Tally) (s : LaneLine) (count : ℕ) → SaysInLane line s.lane s.line → count ≡ line_entries pages s.line
    → LineCounted pages line before (record { lines = before.lines + 1; entries = before.entries + count })
line_counted pages line before s count says is = record { said = s; says = says; lines_is = refl; entries_is = ap (λ n. before.entries + n) is }

pub counted_bound : (pages : ℕ) (line : List ℕ) (before now : Tally) → pages < 2 ^ 32 → LineCounted pages line before now → before.entries ≤ before.lines * 8589934594 → now.entries ≤ now.lines * 8589934594
counted_bound pages line before now few x bound = let k = line_bound pages x.said.line few in omega (arith, x.lines_is, x.entries_is, k, bound)

-- ---- the last line

no_bytes : (line : List ℕ) → length line ≡ 0 → lines_of line ≡ []
no_bytes [] e = refl
no_bytes (b ∷ line) e = absurd (omega arith)

pub last_none : (pages : ℕ) (line : List ℕ) (t : Tally) → length line ≡ 0 → LastCounted pages line t t
last_none pages line t none = record {
  said = [];
  says = subst (λ (l : List (List ℕ)). SayInLanes l []) (sym (no_bytes line none)) refl;
  entries_is = omega arith;
}

pub last_judged : (pages : ℕ) (line : List ℕ) (before : Tally) (result : Result Tally Status) → lines_of line ≡ line ∷ [] → LineJudged pages line before result → LastJudged pages line before result
last_judged pages line before (Ok now) one x = record {
  said = x.said ∷ [];
  says = subst (λ (l : List (List ℕ)). SayInLanes l (x.said ∷ [])) (sym one) (say_one line x.said x.says);
  entries_is = x.entries_is ∙ ap (λ n. before.entries + n) (sym (asked_one pages x.said));
}
last_judged pages line before (Err (BadLine l column)) one x = record { one = one; is_bad = x.0; line_is = x.1 }
last_judged pages line before (Err _) one x = absurd x
