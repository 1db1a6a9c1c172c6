-- For how many entries the lines of lanes ask.
use Rattle.std.specs.Prelude.{◌≡◌, ℕ, ◌+◌, ◌*◌, List, [], ◌∷◌, codes}
use Rattle.script_lang.specs.declared.line.Line.{Line}
use Rattle.script_lang.specs.declared.line.Line.TheVariants.{One, Collect, Note}
use Rattle.script_lang.specs.declared.line.LaneLine.{LaneLine}

-- a line, over a store of so many pages
abbrev pub line_entries : ℕ → Line → ℕ
line_entries pages Note = 0
line_entries pages (One call) = 1
line_entries pages (Collect workers) = 2 * pages + 4

-- all lines
abbrev pub entries_asked : ℕ → List LaneLine → ℕ
entries_asked pages [] = 0
entries_asked pages (s ∷ said) = line_entries pages s.line + entries_asked pages said

-- the words of the command
abbrev pub AreLanes : List (List ℕ) → Type 0
AreLanes words = words ≡ codes "lanes" ∷ []
