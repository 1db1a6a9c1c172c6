-- What an event does to the pages of a cut that is copied.
use Rattle.std.specs.Prelude.{◌≡◌, ℕ, ◌+◌, ◌<◌, Bool, true, false, ◌||◌, ◌⊎◌, None, List, length, slice_index_or, slice_set, is_some, IsTrue}
use Rattle.std.specs.List.{list_any}
use Rattle.object_graph.specs.SlotParts.{SlotParts}
use Rattle.object_graph.specs.Slots.{has_slot}
use Rattle.object_graph.specs.declared.calls.Call.{Call}
use Rattle.object_graph.specs.declared.calls.Call.TheVariants.{Commit, Copy, HandIn, Sweep, Reopen}
use Rattle.object_graph.specs.declared.calls.Reply.{Reply}
use Rattle.object_graph.specs.declared.calls.Reply.TheVariants.{Refused}
use Rattle.object_graph.specs.Graphs.{is_at}
use Rattle.store_model.specs.Worlds.{World, Transaction, Opening, transaction, view}
use Rattle.store_model.specs.Causes.{has_page}
use Rattle.store_model.specs.Images.{shown_in}
use Rattle.store_model.specs.States.{state_of}
use Rattle.cut_model.specs.CutPages.{CopyParts, CutPage, bare_page, with_copy, with_commit, with_born}
use Rattle.cut_model.specs.Sound.{IsFitCopy}
use Rattle.cut_model.specs.Frames.{copy_now}

-- the slots of a page in which a transaction made objects are born too
abbrev pub IsMade : Transaction → ℕ → ℕ → ℕ → Type 0
IsMade t page born after = (slot : ℕ) → has_slot after slot ≡ (has_slot born slot || list_any (is_at page slot) t.own)

-- a written page of a cut after a commit: it has its after-image, or, where it has no image yet, it may stay without
-- one
abbrev pub IsPageAfter : List SlotParts → ℕ → ℕ → CutPage → CutPage → Type 0
IsPageAfter image moment born p after =
    (after ≡ with_commit image moment born p) ⊎ ((p.copy ≡ None) × (p.after ≡ None) × (after ≡ with_born born p))

-- a cut after a commit: the pages that were written, and the others as they were
pub record IsCutAfter (w : World) (t : Transaction) (pages after : List CutPage) : Type 0 where
  pub all : length after ≡ length pages
  pub others : (page : ℕ) → has_page t.pages_written page ≡ false
      → slice_index_or after page bare_page ≡ slice_index_or pages page bare_page
  pub made : ℕ → ℕ
  pub is_made : (page : ℕ) → has_page t.pages_written page ≡ true
      → IsMade t page (slice_index_or pages page bare_page).born (made page)
  pub written : (page : ℕ) → page < length pages → has_page t.pages_written page ≡ true
      → IsPageAfter (shown_in w (view w t) page) (w.commits + 1) (made page) (slice_index_or pages page bare_page)
      (slice_index_or after page bare_page)

-- each page that a commit wrote has an after-image
abbrev pub GivesImagesBy : World → Call → List CutPage → Type 0
GivesImagesBy w (Commit t) after =
    (page : ℕ) → page < length after → has_page (transaction w t).pages_written page ≡ true
    → IsTrue (is_some (slice_index_or after page bare_page).after)
GivesImagesBy w _ after = Unit {0}

abbrev pub GivesImages : World → Call → Reply → List CutPage → Type 0
GivesImages w call (Refused why) after = Unit {0}
GivesImages w call reply after = GivesImagesBy w call after

-- a copy of a page is added
abbrev pub Adds : ℕ → CopyParts → List CutPage → List CutPage → Type 0
Adds page c pages after = (page < length pages)
    × (after ≡ slice_set pages page (with_copy c (slice_index_or pages page bare_page)))

-- what a call that is answered does
abbrev pub ChangesBy : World → Opening → Call → List CutPage → List CutPage → Type 0
ChangesBy w opening (Commit t) pages after = IsCutAfter w (transaction w t) pages after
ChangesBy w opening (Copy page) pages after = Adds page (copy_now w page) pages after
ChangesBy w opening (HandIn page number seen) pages after = (c : CopyParts)
    × IsFitCopy (state_of w) opening page (slice_index_or pages page bare_page) c × Adds page c pages after
ChangesBy w opening _ pages after = after ≡ pages

abbrev pub Changes : World → Opening → Call → Reply → List CutPage → List CutPage → Type 0
Changes w opening call (Refused why) pages after = after ≡ pages
Changes w opening call reply pages after = ChangesBy w opening call pages after

-- the call may change what is freed, or end a cut
abbrev pub ends_copying : Call → Bool
ends_copying (Sweep page) = true
ends_copying Reopen = true
ends_copying _ = false
