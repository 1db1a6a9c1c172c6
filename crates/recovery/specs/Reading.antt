-- What a reader of the homes answers, beside what their bytes say.
use Rattle.std.specs.Prelude.{◌≡◌, ⊤, ℕ, ◌+◌, ◌≤◌, List, [], ◌∷◌, drop, length, Result, Ok, Err}
use Rattle.object_graph.specs.Slots.{below}
use Rattle.page_image.specs.Pages.{PageParts}
use Rattle.redo_journal.specs.Replays.{image_among}
use Rattle.image_model.specs.Opening.{or_home, each_of}
use Rattle.recovery.specs.declared.faults.OpenFault.{OpenFault}
use Rattle.recovery.specs.declared.faults.OpenFault.TheVariants.{DiskFault, NotAStore, Damaged, Memory}

-- a place is that of the first wrong field; a fault of the disk and want of memory say nothing of the bytes
abbrev pub IsFaultIn : {Y : Type 0} → Result Y ℕ → OpenFault → Type 0
IsFaultIn read DiskFault = ⊤
IsFaultIn read NotAStore = ⊥
IsFaultIn read (Damaged at) = read ≡ Err at
IsFaultIn read Memory = ⊤

-- a reader gives what reading gives
abbrev pub Gives : {X : Type 0} → Result X ℕ → Result X OpenFault → Type 0
Gives read (Ok x) = read ≡ Ok x
Gives read (Err fault) = IsFaultIn read fault

-- ---- the images of the journal and the homes

-- the image of a page among these, or what stands at its home
abbrev pub page_in : List PageParts → List ℕ → ℕ → Result PageParts ℕ
page_in images file page = or_home (image_among images page) page file

-- these are the first pages of the file, as its homes and these images have them
abbrev pub AreFirstPages : List PageParts → List ℕ → List PageParts → Type 0
AreFirstPages images file pages = each_of (page_in images file) (below (length pages)) ≡ Ok pages

-- a page at this place is wrong, or an earlier one
abbrev pub IsWrongPage : List PageParts → List ℕ → ℕ → ℕ → Type 0
IsWrongPage images file count at = each_of (page_in images file) (below count) ≡ Err at

-- pages from this one on, ascending
abbrev pub AreFrom : ℕ → List PageParts → Type 0
AreFrom page [] = ⊤
AreFrom page (p ∷ ps) = (page ≤ p.number) × AreFrom (p.number + 1) ps

-- of these images those of the pages from this one on stand from this place on, ascending
pub record IsAhead (images : List PageParts) (next page : ℕ) : Type 0 where
  pub from : AreFrom page (drop next images)
  pub same : (other : ℕ) → page ≤ other → image_among (drop next images) other ≡ image_among images other
