-- What the bytes of a page keep, and how they are changed.
use Rattle.std.specs.Prelude.{◌≡◌, ℕ, ◌+◌, ◌*◌, List, ◌++◌, take, drop, length}
use Rattle.object_graph.specs.declared.names.TheConstants.{OBJECT_FIELDS}
use Rattle.page_image.specs.Pages.{PageParts, IsPage}
use Rattle.page_image.specs.Fields.{page_of}
use Rattle.page_image.specs.Spelling.{page_bytes}

-- the page that the bytes say
unfoldable pub page_said : List ℕ → PageParts
page_said bytes = page_of bytes

-- the bytes are the spelling of a page
pub record IsImage (bytes : List ℕ) : Type 0 where
  pub page : IsPage (page_said bytes)
  pub spelled : page_bytes (page_said bytes) ≡ bytes

-- the bytes with a piece in place of those from a place on
abbrev pub overwritten : List ℕ → ℕ → List ℕ → List ℕ
overwritten bytes at piece = take at bytes ++ (piece ++ drop (at + length piece) bytes)

-- the bytes of a slot
abbrev pub slot_size : ℕ
slot_size = 16 + 8 * OBJECT_FIELDS
