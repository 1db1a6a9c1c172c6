use Rattle.std.proofs.Common.{ℕ, ◌<◌, get_or}
use Rattle.redo_journal.specs.Record.{numbers_of}
use Rattle.redo_journal.proofs.replay.place_of.Given as goal

abbrev pub invariant-loop-at : goal.invariant-loop-at
invariant-loop-at l = (i : ℕ) → i < l.at → get_or (numbers_of l.images) i 0 < l.number
