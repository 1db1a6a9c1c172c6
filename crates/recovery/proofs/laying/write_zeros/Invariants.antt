use Rattle.std.proofs.Common.{◌≡◌, ◌+◌, ◌*◌, replicate}
use Rattle.disk_trait.specs.DiskFacts.{KeepsDisk}
use Rattle.recovery.specs.Writing.{Extends}
use Rattle.recovery.proofs.laying.write_zeros.Given as goal

abbrev pub invariant-pieces : goal.invariant-pieces
invariant-pieces g l = record {
  front : Extends l.at (l.at + 65536 * l.piece) (replicate (65536 * l.piece) 0) (g.D.Disk.content l.fn.disk) (g.D.Disk.content l.disk);
  calm : g.D.Disk.fault_count l.disk ≡ g.D.Disk.fault_count l.fn.disk;
  keeps : KeepsDisk g.D.Disk l.fn.disk l.disk;
}
