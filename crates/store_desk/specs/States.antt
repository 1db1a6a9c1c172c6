-- What contracts see of the value behind the turn, and what is true of it whenever the turn is free.
use Rattle.std.specs.Prelude.{◌≡◌, ℕ, List, None, IfSome, is_some, IsTrue}
use Rattle.disk_trait.specs.declared.disk.Disk.{Ghosts as DiskOf}
use Rattle.disk_trait.specs.Causes.{Rose}
use Rattle.disk_trait.specs.DiskFacts.{LeavesOnly, KeepsDisk}
use Rattle.store_model.specs.Faults.{FaultsAscend}
use Rattle.store_model.specs.Histories.{after}
use Rattle.image_model.specs.Stands.{StandsForWorld}
use Rattle.cut_builder.specs.CutParts.{ClosedParts}
use Rattle.cut_core.specs.Given.{HasGiven}
use Rattle.cut_core.specs.Seen.{Seen}
use Rattle.store_machine.specs.Acts.{StandsForFront}
use Rattle.store_machine.specs.Faults.{NoneFailed}
use Rattle.store_desk.specs.Chronicles.{IsKnown, IsChronicle}
use Rattle.store_desk.specs.Events.{history, HasClosing}
use Rattle.store_desk.specs.declared.event.Event.{Event}

-- the core as the desk was made and as it stands, the chronicle between, and for how many further entries there is room
pub record DeskParts (D : Type 0) : Type 0 where
  pub start : Seen D
  pub core : Seen D
  pub chronicle : List Event
  pub spare : ℕ

-- The chronicle is one from the first world, the core stands for the world after it, and each crash since then left the
-- world after some first events of it. Of each cut that was given out the core knows the images.
pub record IsKept {D : Type 0} (disks : DiskOf D) (start core : Seen D) (chronicle : List Event) : Type 0 where
  pub told : IsKnown (disks.content start.disk) (history chronicle) → IsChronicle start.world chronicle
  pub leads : IsKnown (disks.content start.disk) (history chronicle)
      → core.world ≡ after start.world (history chronicle)
  pub pages : core.world.pages ≡ start.world.pages
  pub given : (cut : ClosedParts) → HasClosing chronicle cut → HasGiven core.world core.beside cut.number cut.pages
  pub keeps : KeepsDisk disks start.disk core.disk
  pub any_moment : IfSome (disks.content start.disk)
      (λ _. LeavesOnly disks start.disk core.disk (StandsForFront start.world (history chronicle)))
  pub now : IfSome (disks.content core.disk) (λ _. (file : List ℕ) → disks.may_leave core.disk file
      → StandsForWorld file core.world)
  pub faults : FaultsAscend (disks.fault_count start.disk) (disks.fault_count core.disk) (history chronicle)
  pub calm : NoneFailed (history chronicle) → disks.fault_count core.disk ≡ disks.fault_count start.disk
  pub cause : start.world.broken ≡ None → IsTrue (is_some core.world.broken)
      → Rose (disks.fault_count start.disk) (disks.fault_count core.disk)

-- so it is of the state
abbrev pub IsKeptIn : {D : Type 0} → DiskOf D → DeskParts D → Type 0
IsKeptIn disks s = IsKept disks s.start s.core s.chronicle
