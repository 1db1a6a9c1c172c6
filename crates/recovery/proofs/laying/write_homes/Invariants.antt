use Rattle.std.proofs.Common.{◌≡◌, ◌-◌, ◌≤◌, length, take}
use Rattle.std.specs.List.{AllByRecursion, flat_map}
use Rattle.disk_trait.specs.DiskFacts.{KeepsDisk}
use Rattle.page_image.specs.Spelling.{page_bytes}
use Rattle.redo_journal.specs.Homes.{home_start}
use Rattle.redo_journal.specs.Record.{ReadsBack}
use Rattle.recovery.specs.Writing.{Extends}
use Rattle.recovery.proofs.laying.write_homes.Given as goal

abbrev pub invariant-pieces : goal.invariant-pieces
invariant-pieces g l = record {
  few : l.done ≤ length l.pages;
  front : Extends (home_start 0) (home_start l.done) (flat_map page_bytes (take l.done l.pages)) (g.D.Disk.content l.fn.disk) (g.D.Disk.content l.disk);
  back : AllByRecursion ReadsBack (take l.done l.pages);
  calm : g.D.Disk.fault_count l.disk ≡ g.D.Disk.fault_count l.fn.disk;
  keeps : KeepsDisk g.D.Disk l.fn.disk l.disk;
}

abbrev pub decreases-pieces : goal.decreases-pieces
decreases-pieces g l = length l.pages - l.done
