use Rattle.std.proofs.Common.{◌≡◌, ◌+◌, ◌*◌, ◌++◌, ◌∷◌, length, take}
use Rattle.std.specs.List.{AllByRecursion, flat_map}
use Rattle.std.specs.Int.{w32, to_be_bytes}
use Rattle.redo_journal.specs.Record.{ReadsBack, image_bytes, kind_byte}
use Rattle.redo_journal.proofs.spelling.put_record.Given as goal
use Rattle.redo_journal.specs.declared.sizes.TheConstants.{IMAGE_SIZE}

abbrev pub invariant-loop-i : goal.invariant-loop-i
invariant-loop-i l = record {
  front : take (5 + IMAGE_SIZE * l.i) l.out ≡ kind_byte l.fn.kind ∷ (to_be_bytes w32 (length l.images) ++ flat_map image_bytes (take l.i l.images));
  long : length l.out ≡ length l.fn.out;
  again : AllByRecursion ReadsBack (take l.i l.images);
}
