use Rattle.std.proofs.Common.{◌≡◌, ◌+◌, ℕ, List, length}
use Rattle.disk_trait.specs.Disk.{piece}
use Rattle.object_graph.specs.Slots.{below}
use Rattle.redo_journal.specs.Homes.{home_start}
use Rattle.redo_journal.specs.Record.{numbers_of}
use Rattle.recovery.specs.Reading.{AreFirstPages, IsAhead}
use Rattle.recovery.proofs.homes.read_homes_in.Given as goal

abbrev pub invariant-homes : goal.invariant-homes
invariant-homes l = record {
  ahead : IsAhead l.images l.next (length l.pages.items);
  more : length l.pages.items ≡ length l.fn.pages.items + l.at;
  read : (file : List ℕ) → l.bytes ≡ piece (home_start (length l.fn.pages.items)) (length l.bytes) file → AreFirstPages l.images file l.fn.pages.items → AreFirstPages l.images file l.pages.items;
  numbered : numbers_of l.fn.pages.items ≡ below (length l.fn.pages.items) → numbers_of l.pages.items ≡ below (length l.pages.items);
}
