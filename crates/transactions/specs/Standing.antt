-- Which world the open transactions stand for.
use Rattle.std.specs.Prelude.{◌≡◌, ℕ, ◌<◌, Bool, true, false, Option, Some, None, List, [], map, reverse, length, slice_get, IsTrue}
use Rattle.std.specs.Map.{keys_of}
use Rattle.object_graph.specs.SlotParts.{SlotParts}
use Rattle.object_graph.specs.ObjectParts.{ObjectParts}
use Rattle.store_model.specs.Worlds.{World, Transaction, fields_of, find_transaction, transaction, view}
use Rattle.store_model.specs.Causes.{has_page}
use Rattle.store_model.specs.Images.{shown_in}
use Rattle.store_model.specs.Lawful.{HaveFields, IsLawful}
use Rattle.page_image.specs.Pages.{PageParts}
use Rattle.page_buffer.specs.Frames.{clean_frame, frame_at}
use Rattle.page_buffer.specs.declared.frame.Frame.{Frame}
use Rattle.page_locks.specs.Holding.{LockTable, numbers, shares, excludes}
use Rattle.transactions.specs.Tables.{OpenParts, Entries, entry_of, HaveSamePages, HaveSameNames}

-- the images of pages, as a world shows them
abbrev pub page_images : List PageParts → List (List SlotParts)
page_images pages = map (λ p. p.slots) pages

-- each page has the number of its place
abbrev pub AreNumbered : List PageParts → Type 0
AreNumbered pages = (page : ℕ) (p : PageParts) → slice_get pages page ≡ Some p → p.number ≡ page

-- what contracts see: the table, the locks and the frames
pub record TransactionsParts : Type 0 where
  pub table : Entries
  pub locks : LockTable
  pub frames : List Frame

-- the numbers of a world's open transactions, in the order in which they began
abbrev pub open_numbers : World → List ℕ
open_numbers w = reverse (map (λ t. t.number) w.transactions)

-- the transaction wrote the page
abbrev pub wrote : World → ℕ → ℕ → Bool
wrote w txn page = has_page (transaction w txn).pages_written page

-- an entry has what its transaction knows and wrote
pub record IsEntry (e : OpenParts) (t : Transaction) : Type 0 where
  pub known : HaveSameNames e.known t.known
  pub written : HaveSamePages e.written t.pages_written

abbrev pub AreAlike : Option OpenParts → Option Transaction → Type 0
AreAlike None None = Unit {0}
AreAlike None (Some t) = ⊥
AreAlike (Some e) None = ⊥
AreAlike (Some e) (Some t) = IsEntry e t

-- the table has an entry for each open transaction
pub record IsTable (w : World) (table : Entries) : Type 0 where
  pub numbers : keys_of table ≡ open_numbers w
  pub each : (txn : ℕ) → AreAlike (entry_of table txn) (find_transaction w txn)

-- the locks are the pages read, shared, and the pages written, exclusive
pub record AreLocks (w : World) (locks : LockTable) : Type 0 where
  pub pages : locks.pages ≡ w.pages
  pub admitted : numbers locks.held ≡ open_numbers w
  pub shared : (txn page : ℕ) → shares locks.held txn page ≡ has_page (transaction w txn).pages_read page
  pub exclusive : (txn page : ℕ) → excludes locks.held txn page ≡ wrote w txn page

-- the image of a page as a graph has it
abbrev pub image_in : World → List ObjectParts → ℕ → PageParts
image_in w graph page = record { number = page; slots = shown_in w graph page }

-- The frame of a page: the committed image shows the graph. Where a transaction wrote the page, the frame is dirty
-- and the current image shows that transaction's view. Else it is clean, with equal images.
pub record IsFrameOf (w : World) (page : ℕ) (frame : Frame) : Type 0 where
  pub before : frame.before ≡ image_in w w.graph page
  pub current : (txn : ℕ) → IsTrue (wrote w txn page) → frame.current ≡ image_in w (view w (transaction w txn)) page
  pub dirty : (txn : ℕ) → IsTrue (wrote w txn page) → frame.dirty ≡ true
  pub clean : ((txn : ℕ) → wrote w txn page ≡ false) → frame ≡ clean_frame frame.before

-- the frames of all pages, among them the pages written
pub record AreFramesOf (w : World) (frames : List Frame) : Type 0 where
  pub count : length frames ≡ w.pages
  pub written : (txn page : ℕ) → IsTrue (wrote w txn page) → page < w.pages
  pub each : (page : ℕ) → page < w.pages → IsFrameOf w page (frame_at frames page)

-- the transactions stand for the world
pub record AreTransactionsOf (s : TransactionsParts) (w : World) : Type 0 where
  pub fields : HaveFields (fields_of w) w.graph
  pub table : IsTable w s.table
  pub locks : AreLocks w s.locks
  pub frames : AreFramesOf w s.frames

-- a lawful world that isn't broken, for which they stand
pub record IsReady (s : TransactionsParts) (w : World) : Type 0 where
  pub lawful : IsLawful w
  pub sound : w.broken ≡ None
  pub stands : AreTransactionsOf s w

abbrev pub IsReadyForSome : TransactionsParts → Type 0
IsReadyForSome s = (w : World) × IsReady s w

-- nothing that transactions see differs: the pages, the graph, what was freed and who is open
pub record IsSameToThem (w v : World) : Type 0 where
  pub pages : v.pages ≡ w.pages
  pub graph : v.graph ≡ w.graph
  pub freed : v.freed ≡ w.freed
  pub transactions : v.transactions ≡ w.transactions

-- with no transaction open, the worlds show the same images
pub record ShowsTheSame (w v : World) : Type 0 where
  pub pages : v.pages ≡ w.pages
  pub fields : HaveFields (fields_of v) v.graph
  pub idle : w.transactions ≡ []
  pub idle_too : v.transactions ≡ []
  pub each : (page : ℕ) → page < w.pages → shown_in v v.graph page ≡ shown_in w w.graph page
