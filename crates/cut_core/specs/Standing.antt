-- Which world the store stands for.
use Rattle.std.specs.Prelude.{◌≡◌, ℕ, ◌+◌, ◌≤◌, List, None, IfSome}
use Rattle.disk_trait.specs.Disk.{Only}
use Rattle.disk_trait.specs.DiskFacts.{LeavesOnly}
use Rattle.disk_trait.specs.declared.disk.Disk.{Ghosts as DiskOf}
use Rattle.redo_journal.specs.Homes.{store_size}
use Rattle.redo_journal.specs.Journals.{JournalParts}
use Rattle.store_model.specs.Worlds.{World, Event}
use Rattle.store_model.specs.Replies.{Allows}
use Rattle.store_model.specs.Steps.{next}
use Rattle.store_model.specs.Lawful.{IsLawful}
use Rattle.image_model.specs.Stands.{StandsForWorld, IsStoreOf}
use Rattle.transactions.specs.Standing.{AreTransactionsOf}
use Rattle.cut_core.specs.Seen.{StandsForEither}
use Rattle.cut_core.specs.Holding.{Holds}
use Rattle.cut_core.specs.declared.held.Held.{Held}
use Rattle.cut_core.specs.declared.store.Store.{Store}

-- The disk that tells these bytes keeps the world: what a crash now may leave stands for it. Unless the world is
-- broken nothing is unsynced, and the bytes are those of the journal's store.
pub record KeepsWorld (journal : JournalParts) (may_leave : List ℕ → Type 0) (w : World) (file : List ℕ) : Type 0 where
  pub stands : (image : List ℕ) → may_leave image → StandsForWorld image w
  pub synced : w.broken ≡ None → Only file may_leave
  pub own : w.broken ≡ None → IsStoreOf journal file

-- The store stands for the world. Of its cut it says nothing.
pub record Stands {D : Type 0} (disks : DiskOf D) (store : Store D) (w : World) : Type 0 where
  pub lawful : IsLawful w
  pub transactions : AreTransactionsOf store.transactions w
  pub commits : store.commits ≡ w.commits
  pub broken : store.broken ≡ w.broken
  pub long : store_size w.pages ≤ disks.size store.disk
  pub pages : w.broken ≡ None → store.journal.pages ≡ w.pages
  pub counted : w.broken ≡ None → w.commits ≡ store.journal.base + store.journal.commits
  pub disk : IfSome (disks.content store.disk) (KeepsWorld store.journal (disks.may_leave store.disk) w)

-- the event may happen in the world, and the store stands for the next
pub record Steps {D : Type 0} (disks : DiskOf D) (new : Store D) (e : Event) (w : World) : Type 0 where
  pub allowed : Allows w e
  pub stands : Stands disks new (next w e)

-- so it is in each world for which the store stood, with what it held of the cut
abbrev pub StepsWell : {D : Type 0} → DiskOf D → Store D → Held → Store D → Event → Type 0
StepsWell {D} disks old held new e = (w : World) → Stands disks old w → Holds held w → Steps disks new e w

-- and a crash at any moment of the call leaves that world or the next
abbrev pub CrashesWell : {D : Type 0} → DiskOf D → Store D → Held → Store D → Event → Type 0
CrashesWell {D} disks old held new e =
    (w : World) → Stands disks old w → Holds held w
    → IfSome (disks.content old.disk) (λ file. LeavesOnly disks old.disk new.disk (StandsForEither w (next w e)))
