use Rattle.std.proofs.Common.{◌≡◌, ◌-◌, ◌≤◌, length, vec_len}
use Rattle.std.specs.Prelude.{IfSome}
use Rattle.disk_trait.specs.DiskFacts.{OnlyReads}
use Rattle.object_graph.specs.Slots.{below}
use Rattle.redo_journal.specs.Record.{numbers_of}
use Rattle.recovery.specs.Reading.{AreFirstPages, IsAhead}
use Rattle.recovery.proofs.pages.read_pages.Given as goal

abbrev pub invariant-pieces : goal.invariant-pieces
invariant-pieces g l = record {
  ahead : IsAhead l.images l.next (length l.pages.items);
  few : length l.pages.items ≤ l.count;
  read : IfSome (g.D.Disk.content l.fn.disk) (λ c. AreFirstPages l.images c l.pages.items);
  numbered : numbers_of l.pages.items ≡ below (length l.pages.items);
  calm : g.D.Disk.fault_count l.disk ≡ g.D.Disk.fault_count l.fn.disk;
  reads : OnlyReads g.D.Disk l.fn.disk l.disk;
}

abbrev pub decreases-pieces : goal.decreases-pieces
decreases-pieces g l = l.count - vec_len l.pages
