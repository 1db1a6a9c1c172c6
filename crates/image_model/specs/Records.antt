-- What a record does to the state for which a store file stands.
use Rattle.std.specs.Prelude.{◌≡◌, ℕ, ◌+◌, ◌<◌, false, List, [], ◌∷◌, Option, Some, None}
use Rattle.std.specs.List.{AllByRecursion}
use Rattle.object_graph.specs.SlotParts.{SlotParts}
use Rattle.page_image.specs.Pages.{PageParts}
use Rattle.redo_journal.specs.Record.{RecordParts, commits_of}
use Rattle.redo_journal.specs.Replays.{last_image, has_image}
use Rattle.redo_journal.specs.declared.kind.Kind.TheVariants.{Commit, Sweep}
use Rattle.store_model.specs.Worlds.{World, Transaction, view}
use Rattle.store_model.specs.Causes.{has_page}
use Rattle.store_model.specs.Images.{shown_in, shown}
use Rattle.store_model.specs.Steps.{swept}
use Rattle.store_model.specs.States.{State, shown_by}
use Rattle.image_model.specs.Stands.{IsState}

-- the slots of an image, or those from before
abbrev pub slots_or : List SlotParts → Option PageParts → List SlotParts
slots_or old None = old
slots_or old (Some p) = p.slots

-- each page named takes its last image, and the others stay
abbrev pub TakesImages : ℕ → List PageParts → State → State → Type 0
TakesImages pages images s t = (page : ℕ) → page < pages
    → shown_by t page ≡ slots_or (shown_by s page) (last_image images page)

-- the state after a record: one that a store may have, with the record's images, and counted where it is a commit
pub record IsAfterRecord (pages : ℕ) (new : RecordParts) (s t : State) : Type 0 where
  pub images : TakesImages pages new.images s t
  pub commits : t.commits ≡ s.commits + commits_of new.kind
  pub state : IsState pages t

-- the images are those of the pages that the transaction wrote, as its view has them
pub record AreOfCommit (w : World) (t : Transaction) (images : List PageParts) : Type 0 where
  pub shows : AllByRecursion (λ p. p.slots ≡ shown_in w (view w t) p.number) images
  pub all : (page : ℕ) → has_image images page ≡ false → has_page t.pages_written page ≡ false

-- a commit's record, and a sweep's
abbrev pub commit_record : List PageParts → RecordParts
commit_record images = record { kind = Commit; images = images }

abbrev pub sweep_record : PageParts → RecordParts
sweep_record image = record { kind = Sweep; images = image ∷ [] }

-- the image is that of a page from which these slots were freed
pub record IsOfSweep (w : World) (page slots : ℕ) (image : PageParts) : Type 0 where
  pub number : image.number ≡ page
  pub shows : image.slots ≡ shown (swept w page slots) page
