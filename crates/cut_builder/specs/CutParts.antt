-- What contracts see of a cut.
use Rattle.std.specs.Prelude.{◌≡◌, ℕ, ◌<◌, ◌==◌, true, false, Option, Some, None, List, [], ◌∷◌, length, slice_index_or, slice_set, option_map, IfSome, if◌then◌else◌}
use Rattle.std.specs.Option.{is_some}
use Rattle.object_graph.specs.NameParts.{NameParts}
use Rattle.object_graph.specs.Names.{root_name}
use Rattle.object_graph.specs.SlotParts.{SlotParts}
use Rattle.object_graph.specs.ObjectParts.{ObjectParts}
use Rattle.object_graph.specs.Members.{In}
use Rattle.page_image.specs.Pages.{PageParts}
use Rattle.page_image.specs.declared.page_copy.PageCopy.{PageCopy}
use Rattle.cut_model.specs.CutPages.{CopyParts, CutPage, bare_page, cut_graph}
use Rattle.cut_model.specs.Doomed.{AreMarks}

-- its number, the number of commits as it opened, and what it has of each page
pub record CutParts : Type 0 where
  pub number : ℕ
  pub start : ℕ
  pub pages : List CutPage

-- a closed cut
pub record ClosedParts : Type 0 where
  pub number : ℕ
  pub pages : List CutPage

-- a closed cut and the marked slots of each page
pub record MarkedParts : Type 0 where
  pub cut : ClosedParts
  pub marks : List ℕ

-- where the paths to what is marked start
abbrev pub cut_starts : ClosedParts → List NameParts
cut_starts cut = root_name ∷ []

-- what a cut has of a page
abbrev pub page_in_cut : List CutPage → ℕ → CutPage
page_in_cut pages page = slice_index_or pages page bare_page

-- a cut with another page in place of one
abbrev pub with_cut_page : CutParts → ℕ → CutPage → CutParts
with_cut_page cut page p = record cut { pages = slice_set cut.pages page p }

-- the marked slots of a page
abbrev pub marks_of : List ℕ → ℕ → ℕ
marks_of marks page = slice_index_or marks page 0

-- a copy of a page as a cut keeps it
abbrev pub copied_of : PageCopy → CopyParts
copied_of c = record {
  current = c.current.slots;
  before = option_map
      (λ (p : PageParts). p.slots) c.before;
  moment = c.moment;
}

-- both images of a copy are of its page
abbrev pub IsOfItsPage : PageCopy → Type 0
IsOfItsPage c = (c.current.number ≡ c.page) × IfSome c.before (λ p. p.number ≡ c.page)

-- a place is in use under one name in all images, and place (0, 0) under the root's
pub record HasOneNameEach (pages : List CutPage) : Type 0 where
  pub once : (a b : ObjectParts) → In a (cut_graph pages) → In b (cut_graph pages) → a.name.page ≡ b.name.page
      → a.name.slot ≡ b.name.slot → a.name ≡ b.name
  pub root : (o : ObjectParts) → In o (cut_graph pages) → o.name.page ≡ 0 → o.name.slot ≡ 0 → o.name ≡ root_name

-- the moment is later than those of the page's copy and after-image
abbrev pub IsLater : ℕ → CutPage → Type 0
IsLater moment p = IfSome p.copy (λ c. c.moment < moment) × IfSome p.after (λ a. a.moment < moment)

-- each page has a copy
abbrev pub AreCopied : List CutPage → Type 0
AreCopied pages = (page : ℕ) → page < length pages → is_some (page_in_cut pages page).copy ≡ true

-- the least page without a copy
pub record IsFirstUncopied (pages : List CutPage) (page : ℕ) : Type 0 where
  pub within : page < length pages
  pub uncopied : is_some (page_in_cut pages page).copy ≡ false
  pub least : (before : ℕ) → before < page → is_some (page_in_cut pages before).copy ≡ true

-- an image of a page: 0 the current one, 1 the one before, 2 the one after
abbrev pub before_of : Option CopyParts → Option (List SlotParts)
before_of None = None
before_of (Some c) = c.before

abbrev pub image_of : CutPage → ℕ → Option (List SlotParts)
image_of p which =
    if which == 0 then option_map (λ c. c.current) p.copy
    else (if which == 1 then before_of p.copy else (if which == 2 then option_map (λ a. a.image) p.after else None))

-- an image as a page of this number
abbrev pub as_page : ℕ → List SlotParts → PageParts
as_page page slots = record { number = page; slots = slots }

-- the sets are exactly the marks
abbrev pub HasExactMarks : MarkedParts → Type 0
HasExactMarks m = AreMarks (cut_starts m.cut) m.cut.pages (marks_of m.marks)
