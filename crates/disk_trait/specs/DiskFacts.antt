-- What runs of calls do to a disk, whatever disk it is.
use Rattle.std.specs.Prelude.{◌≡◌, ◌⊎◌, ℕ, ◌≤◌, List}
use Rattle.disk_trait.specs.Causes.{SameTold}
use Rattle.disk_trait.specs.Disk.{SameImages}
use Rattle.disk_trait.specs.declared.disk.Disk.{Ghosts as DiskOf}

-- A crash at any moment since old leaves a content that has P.
pub record LeavesOnly {D : Type 0} (disks : DiskOf D) (old new : D) (P : List ℕ → Type 0) : Type 0 where
  pub later : disks.moment old ≤ disks.moment new
  pub each : (c : List ℕ) → disks.left_since new (disks.moment old) c → P c
  -- for a run that began earlier
  pub before : (t : ℕ) (c : List ℕ) → t ≤ disks.moment old → disks.left_since new t c → disks.left_since old t c ⊎ P c

-- The calls only read: what a read gives and what a crash may leave are as before, and a crash at any moment since old
-- leaves what a crash at old might have left.
pub record OnlyReads {D : Type 0} (disks : DiskOf D) (old new : D) : Type 0 where
  pub content : disks.content new ≡ disks.content old
  pub images : SameImages (disks.may_leave old) (disks.may_leave new)
  pub size : disks.size new ≡ disks.size old
  pub any_moment : LeavesOnly disks old new (disks.may_leave old)

-- The disk is as long as before, it tells its content where it did before, and its count of faults hasn't fallen.
pub record KeepsDisk {D : Type 0} (disks : DiskOf D) (old new : D) : Type 0 where
  pub size : disks.size new ≡ disks.size old
  pub told : SameTold (disks.content old) (disks.content new)
  pub later : disks.fault_count old ≤ disks.fault_count new
