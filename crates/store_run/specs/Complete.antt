-- Scripts that are run to their end where nothing fails.
use Rattle.std.specs.Prelude.{◌≡◌, ◌⊎◌, ℕ, ◌≤◌, List, length}
use Rattle.script_lang.specs.declared.line.Line.{Line}
use Rattle.script_lang.specs.Script.{lines_of}
use Rattle.store_run.specs.Following.{SayInTurn}
use Rattle.store_run.specs.declared.pieces.TheConstants.{SCRIPT_LIMIT}
use Rattle.store_run.specs.declared.status.Status.{Status}
use Rattle.store_run.specs.declared.status.Status.TheVariants.{Done, Memory}

-- not too long, and each line is in the grammar
pub record IsScript (script : List ℕ) : Type 0 where
  pub within : length script ≤ SCRIPT_LIMIT
  pub meanings : List Line
  pub say : SayInTurn (lines_of script) meanings

abbrev pub IsDoneOrMemory : Status → Type 0
IsDoneOrMemory status = (status ≡ Done) ⊎ (status ≡ Memory)
