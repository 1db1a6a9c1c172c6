use Rattle.std.proofs.Common.{◌≡◌, ◌*◌, take}
use Rattle.std.specs.List.{AllByRecursion, flat_map}
use Rattle.page_image.specs.Spelling.{page_bytes}
use Rattle.redo_journal.specs.Record.{ReadsBack}
use Rattle.recovery.proofs.blocks.spell.Given as goal

abbrev pub invariant-pages : goal.invariant-pages
invariant-pages l = record {
  bytes : take (1024 * l.at) l.out ≡ flat_map page_bytes (take l.at l.pages);
  back : AllByRecursion ReadsBack (take l.at l.pages);
}
