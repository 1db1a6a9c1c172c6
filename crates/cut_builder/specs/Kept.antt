-- What is kept of the pages of a cut, as the cut's model has it.
use Rattle.std.specs.Prelude.{◌≡◌, ℕ, ◌<◌, ◌≤◌, Option, Some, None, List, length, map, slice_index_or, option_map, IfSome, if◌then◌else◌, nat_lt}
use Rattle.std.specs.List.{range_with_len}
use Rattle.object_graph.specs.declared.limits.TheConstants.{MOST_PAGES}
use Rattle.page_image.specs.Pages.{PageParts}
use Rattle.page_image.specs.declared.page_copy.PageCopy.{PageCopy}
use Rattle.cut_model.specs.CutPages.{CopyParts, AfterImage, CutPage}
use Rattle.cut_builder.specs.declared.column.KeptImage.{KeptImage}
use Rattle.cut_builder.specs.CutParts.{HasOneNameEach, AreCopied}

-- what stands at a page
abbrev pub kept_at : List (Option KeptImage) → ℕ → Option KeptImage
kept_at images page = slice_index_or images page None

-- a copy whose before-image is kept beside it
abbrev pub copy_of : Option KeptImage → KeptImage → CopyParts
copy_of before current = record {
  current = current.image.slots;
  before = option_map
      (λ (i : KeptImage). i.image.slots) before;
  moment = current.moment;
}

abbrev pub change_of : KeptImage → AfterImage
change_of after = record { image = after.image.slots; moment = after.moment }

abbrev pub cut_page_of : Option KeptImage → Option KeptImage → Option KeptImage → ℕ → CutPage
cut_page_of current before after born = record {
  copy = option_map
      (copy_of before) current;
  after = option_map change_of after;
  born = born;
}

-- the current images, the before-images, the after-images and what was born, page by page
pub record Kept : Type 0 where
  pub current : List (Option KeptImage)
  pub before : List (Option KeptImage)
  pub after : List (Option KeptImage)
  pub born : List ℕ

-- what a cut has of a page
abbrev pub cut_page_at : Kept → ℕ → CutPage
cut_page_at k page =
    let born = slice_index_or k.born page 0 in
    cut_page_of (kept_at k.current page) (kept_at k.before page) (kept_at k.after page) born

abbrev pub cut_pages_of : Kept → List CutPage
cut_pages_of k = map (cut_page_at k) (range_with_len 0 (length k.born))

-- the before-image of a copy, as it is kept
abbrev pub before_kept : PageCopy → Option KeptImage
before_kept c = option_map (λ (p : PageParts). record { image = p; moment = c.moment }) c.before

-- an after-image that stays beside a copy of this moment
abbrev pub kept_later : ℕ → Option KeptImage → Option KeptImage
kept_later moment None = None
kept_later moment (Some a) = if nat_lt moment a.moment then Some a else None

-- an image for each of so many pages, if any, of its number
pub record AreOn (pages : ℕ) (images : List (Option KeptImage)) : Type 0 where
  pub count : length images ≡ pages
  pub each : (page : ℕ) → IfSome (kept_at images page) (λ i. i.image.number ≡ page)

-- the images are of their pages, and no before-image stands alone
pub record AreKeptImages (k : Kept) : Type 0 where
  pub current : AreOn (length k.born) k.current
  pub before : AreOn (length k.born) k.before
  pub after : AreOn (length k.born) k.after
  pub beside : (page : ℕ) → kept_at k.current page ≡ None → kept_at k.before page ≡ None

-- what each cut keeps
pub record AreKept (pages : List CutPage) : Type 0 where
  pub some : 0 < length pages
  pub few : length pages ≤ MOST_PAGES
  pub names : HasOneNameEach pages

-- what each closed cut keeps
pub record AreClosed (pages : List CutPage) : Type 0 where
  pub kept : AreKept pages
  pub copied : AreCopied pages
