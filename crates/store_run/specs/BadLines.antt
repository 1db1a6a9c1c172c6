-- Lines outside the grammar.
use Rattle.std.specs.Prelude.{ℕ, List}
use Rattle.script_lang.specs.declared.line.Line.{Line}
use Rattle.script_lang.specs.Script.{Says, InScripts, IsBadAt}

-- the line says nothing, and this is the column of its first wrong place
pub record IsBad (bytes : List ℕ) (column : ℕ) : Type 0 where
  pub outside : (meaning : Line) → Says bytes meaning → ⊥
  pub wrong_at : IsBadAt InScripts bytes column
