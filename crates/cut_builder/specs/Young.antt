-- Cuts all of whose objects are the first of their places, as the tests make them.
use Rattle.std.specs.Prelude.{◌≡◌, ℕ, ◌+◌, ◌≤◌, true, List, length, slice_index_or, IfSome}
use Rattle.object_graph.specs.Members.{In}
use Rattle.object_graph.specs.SlotParts.{SlotParts}
use Rattle.page_image.specs.Slots.{fresh_slot}
use Rattle.page_image.specs.declared.page_copy.PageCopy.{PageCopy}
use Rattle.cut_model.specs.CutPages.{CutPage, images_of}
use Rattle.cut_builder.specs.CutParts.{CutParts, page_in_cut, IsOfItsPage, IsLater}

abbrev pub IsYoung : List SlotParts → Type 0
IsYoung image = (slot : ℕ) → (slice_index_or image slot fresh_slot).in_use ≡ true
    → (slice_index_or image slot fresh_slot).generation ≡ 1

pub record AreYoung (pages : List CutPage) : Type 0 where
  pub each : (page : ℕ) (image : List SlotParts) → In image (images_of (page_in_cut pages page)) → IsYoung image

-- a cut of so many pages, of young objects, after so many commits
pub record IsYoungCut (cut : CutParts) (pages commits : ℕ) : Type 0 where
  pub count : length cut.pages ≡ pages
  pub started : cut.start ≤ commits
  pub young : AreYoung cut.pages
  pub early : (page : ℕ) → IsLater (commits + 1) (page_in_cut cut.pages page)

-- a copy after so many commits: both images are of its page, and young
pub record IsYoungCopy (c : PageCopy) (commits : ℕ) : Type 0 where
  pub moment : c.moment ≡ commits
  pub number : IsOfItsPage c
  pub current : IsYoung c.current.slots
  pub before : IfSome c.before (λ p. IsYoung p.slots)
