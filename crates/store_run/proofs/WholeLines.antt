-- Whole lines, and lines without their end.
use Rattle.std.proofs.Common.{◌≡◌, refl, sym, ap, ◌∙◌, subst, ℕ, ◌+◌, ◌<◌, inl, inr, List, [], ◌∷◌, ◌++◌, length, append_assoc, append-nil, arith, length-append}
use Rattle.std.specs.Prelude.{◌≢◌}
use Rattle.std.specs.List.{AllByRecursion}
use Rattle.std.proofs.lemmas.List.Elements.{recursion_from_All}
use Rattle.std.proofs.lemmas.Bool.{ne_eqb}
use Rattle.script_lang.specs.declared.line.Line.{Line}
use Rattle.script_lang.specs.declared.line.Line.TheVariants.{One, Collect, Note}
use Rattle.script_lang.specs.declared.line.TheConstants.{LINE_LIMIT}
use Rattle.script_lang.specs.Script.{lines_of, onto_first, Says, InScripts, IsBadAt, PartsLine}
use Rattle.script_lang.specs.Words.{SplitsAt, Without}
use Rattle.store_run.specs.BadLines.{IsBad}
use Rattle.store_run.specs.Pieces.{whole_lines, onto_whole}
use Rattle.store_run.specs.Lines.{AreWholeLines}

-- ---- a line with its end

lines_split : (front rest : List ℕ) → AllByRecursion (λ x. x ≢ 10) front → lines_of (front ++ 10 ∷ rest) ≡ front ∷ lines_of rest
lines_split [] rest w = refl
lines_split (b ∷ front) rest w = rw (ne_eqb b 10 w.0) (ap (onto_first b) (lines_split front rest w.1))

whole_split : (front rest : List ℕ) → AllByRecursion (λ x. x ≢ 10) front → whole_lines (front ++ 10 ∷ rest) ≡ front ∷ whole_lines rest
whole_split [] rest w = refl
whole_split (b ∷ front) rest w = rw (ne_eqb b 10 w.0) (ap (onto_whole b) (whole_split front rest w.1))

pub one_whole : (line : List ℕ) → Without 10 line → AreWholeLines (line ++ 10 ∷ []) (line ∷ [])
one_whole line without =
    let w = recursion_from_All (λ x. x ≢ 10) line without in
    record {
      lines_then = λ more. ap lines_of (append_assoc line (10 ∷ []) more) ∙ lines_split line more w;
      whole_then = λ more. ap whole_lines (append_assoc line (10 ∷ []) more) ∙ whole_split line more w;
      few = omega (arith, length-append line (10 ∷ []));
    }

pub none_whole : AreWholeLines [] []
none_whole = record { lines_then = λ more. refl; whole_then = λ more. refl; few = omega arith }

pub whole_join : (front more : List ℕ) (lines others : List (List ℕ)) → AreWholeLines front lines → AreWholeLines more others → AreWholeLines (front ++ more) (lines ++ others)
whole_join front more lines others x y = record {
  lines_then = λ rest. ap lines_of (append_assoc front more rest) ∙ (x.lines_then (more ++ rest) ∙ (ap (λ l. lines ++ l) (y.lines_then rest) ∙ sym (append_assoc lines others (lines_of rest))));
  whole_then = λ rest. ap whole_lines (append_assoc front more rest) ∙ (x.whole_then (more ++ rest) ∙ (ap (λ l. lines ++ l) (y.whole_then rest) ∙ sym (append_assoc lines others (whole_lines rest))));
  few = omega (arith, length-append front more, length-append lines others, x.few, y.few);
}

pub lines_are : (front : List ℕ) (lines : List (List ℕ)) → AreWholeLines front lines → lines_of front ≡ lines
lines_are front lines x = ap lines_of (sym (append-nil front)) ∙ (x.lines_then [] ∙ append-nil lines)

pub whole_are : (front : List ℕ) (lines : List (List ℕ)) → AreWholeLines front lines → whole_lines front ≡ lines
whole_are front lines x = ap whole_lines (sym (append-nil front)) ∙ (x.whole_then [] ∙ append-nil lines)

-- the first line ends there, unless the bytes are this line
pub splits_there : (bytes line rest : List ℕ) → PartsLine bytes line rest → (length line ≡ length bytes → ⊥) → SplitsAt 10 bytes line rest
splits_there bytes line rest (inl s) other = s
splits_there bytes line rest (inr u) other = absurd (other (ap length u.1))

pub unended_there : (bytes line rest : List ℕ) → PartsLine bytes line rest → length line ≡ length bytes → Without 10 bytes
unended_there bytes line rest (inl s) same = absurd (omega (arith, same, ap length s.whole, length-append line (10 ∷ rest)))
unended_there bytes line rest (inr u) same = u.0

-- ---- a line without its end

last_line : (b : ℕ) (bytes : List ℕ) → AllByRecursion (λ x. x ≢ 10) (b ∷ bytes) → lines_of (b ∷ bytes) ≡ (b ∷ bytes) ∷ []
last_line b [] w = rw (ne_eqb b 10 w.0) refl
last_line b (c ∷ bytes) w = rw (ne_eqb b 10 w.0) (ap (onto_first b) (last_line c bytes w.1))

pub unended_line : (bytes : List ℕ) → 0 < length bytes → Without 10 bytes → lines_of bytes ≡ bytes ∷ []
unended_line [] some w = absurd (omega arith)
unended_line (b ∷ bytes) some w = last_line b bytes (recursion_from_All (λ x. x ≢ 10) (b ∷ bytes) w)

-- ---- a front with a whole line reaches into the piece behind an unended line

onto_none : (b : ℕ) (lines : List (List ℕ)) → lines ≡ [] → onto_whole b lines ≡ []
onto_none b lines e = ap (onto_whole b) e

same_head : (b c : ℕ) (xs ys : List ℕ) → ◌≡◌ {A = List ℕ} (b ∷ xs) (c ∷ ys) → c ≡ b
same_head b c xs ys e = cc

same_tail : (b c : ℕ) (xs ys : List ℕ) → ◌≡◌ {A = List ℕ} (b ∷ xs) (c ∷ ys) → xs ≡ ys
same_tail b c xs ys e = cc

nothing_whole : (front : List ℕ) → front ≡ [] → whole_lines front ≡ []
nothing_whole front e = ap whole_lines e

reaches : (line more front rest : List ℕ) → AllByRecursion (λ x. x ≢ 10) line → line ++ more ≡ front ++ rest → (whole_lines front ≡ [] → ⊥) → length line < length front
reaches [] more [] rest w e some = absurd (some refl)
reaches [] more (c ∷ front) rest w e some = omega arith
reaches (b ∷ line) more [] rest w e some = absurd (some refl)
reaches (b ∷ line) more (c ∷ front) rest w e some =
    let head : c ≡ b = same_head b c (line ++ more) (front ++ rest) e in
    let skip : whole_lines front ≡ [] → whole_lines (c ∷ front) ≡ [] = λ none. subst (λ (x : ℕ). whole_lines (x ∷ front) ≡ []) (sym head) (rw (ne_eqb b 10 w.0) (onto_none b (whole_lines front) none)) in
    let ih = reaches line more front rest w.1 (same_tail b c (line ++ more) (front ++ rest) e) (λ none. some (skip none)) in
    omega (arith, ih)

pub little_left : (line more front rest : List ℕ) → Without 10 line → line ++ more ≡ front ++ rest → (whole_lines front ≡ [] → ⊥) → length rest < length more
little_left line more front rest without e some =
    let lt = reaches line more front rest (recursion_from_All (λ x. x ≢ 10) line without) e some in
    let same : length line + length more ≡ length front + length rest = sym (length-append line more) ∙ (ap length e ∙ length-append front rest) in
    omega (arith, lt, same)

-- ---- a line that is too long

pub too_long : (line : List ℕ) → LINE_LIMIT < length line → (meaning : Line) → Says line meaning → ⊥
too_long line long Note says = absurd (omega (arith, long, says.0))
too_long line long (One call) says = absurd (omega (arith, long, says.0))
too_long line long (Collect workers) says = absurd (omega (arith, long, says.0))

too_long_at : (line : List ℕ) → LINE_LIMIT < length line → IsBadAt InScripts line (LINE_LIMIT + 1)
too_long_at line long = record { long = λ over. refl; short = λ few. absurd (omega (arith, long, few)) }

pub long_bad : (line : List ℕ) → LINE_LIMIT < length line → IsBad line (LINE_LIMIT + 1)
long_bad line long = record { outside = λ meaning says. too_long line long meaning says; wrong_at = too_long_at line long }
