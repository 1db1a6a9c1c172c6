-- What the core keeps.
use Rattle.disk_trait.specs.declared.disk.Disk.{Ghosts as DiskOf}
use Rattle.store_model.specs.Worlds.{World}
use Rattle.cut_core.specs.Standing.{Stands}
use Rattle.cut_core.specs.Holding.{Holds}
use Rattle.cut_core.specs.declared.store.Store.{Store}
use Rattle.cut_core.specs.declared.held.Held.{Held}

-- the store stands for the world, and what is held is the world's cut
pub record StandsWithCut {D : Type 0} (disks : DiskOf D) (store : Store D) (held : Held) (w : World) : Type 0 where
  pub stands : Stands disks store w
  pub holds : Holds held w
