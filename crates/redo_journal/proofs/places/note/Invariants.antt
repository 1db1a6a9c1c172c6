use Rattle.std.proofs.Common.{◌≡◌, ◌++◌, take}
use Rattle.std.specs.Prelude.{vec_capacity}
use Rattle.redo_journal.specs.Places.{places_of}
use Rattle.redo_journal.proofs.places.note.Given as goal

abbrev pub invariant-loop-i : goal.invariant-loop-i
invariant-loop-i l = record {
  noted : l.places.items ≡ l.fn.places.items ++ places_of l.from (take l.i l.images);
  reserved : vec_capacity l.places ≡ vec_capacity l.fn.places;
}
