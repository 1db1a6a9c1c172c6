-- Records that are written, and the state for which the disk stands.
use Rattle.std.specs.Prelude.{◌⊎◌, ℕ, List, map}
use Rattle.disk_trait.specs.Disk.{Only}
use Rattle.page_image.specs.Pages.{PageParts}
use Rattle.page_buffer.specs.Frames.{frame_at}
use Rattle.redo_journal.specs.Journals.{JournalParts}
use Rattle.store_model.specs.States.{State}
use Rattle.image_model.specs.Stands.{StandsFor, IsStoreOf}
use Rattle.transactions.specs.Tables.{entry_of, pages_in}
use Rattle.transactions.specs.Standing.{TransactionsParts}

-- ---- the disk

-- nothing is unsynced, the bytes are those of the journal's store, and stand for the state
pub record KeepsState (journal : JournalParts) (may_leave : List ℕ → Type 0) (s : State) (file : List ℕ) : Type 0 where
  pub synced : Only file may_leave
  pub own : IsStoreOf journal file
  pub stands : StandsFor file journal.pages s

-- a crash leaves the one state or the other
abbrev pub StandsForOneOf : ℕ → State → State → List ℕ → Type 0
StandsForOneOf pages s t file = StandsFor file pages s ⊎ StandsFor file pages t

-- ---- the pages of a commit

-- the pages that a transaction wrote, as it sees them
abbrev pub images_written : TransactionsParts → ℕ → List PageParts
images_written s txn = map (λ page. (frame_at s.frames page).current) (pages_in (entry_of s.table txn))
