-- Images that lie one after another, and the cells of their pages.
use Rattle.std.specs.Prelude.{◌≡◌, ℕ, ◌+◌, ◌<◌, ◌≤◌, Option, Some, None, List, [], ◌∷◌, length, map, slice_get, slice_index_or}
use Rattle.object_graph.specs.declared.limits.TheConstants.{MOST_PAGES}
use Rattle.cut_builder.specs.declared.column.KeptImage.{KeptImage}
use Rattle.cut_builder.specs.declared.column.Cell.{Cell}
use Rattle.cut_builder.specs.declared.column.Cell.TheVariants.{Never, Holds, Empty}

-- the place that a page has had since its first image
abbrev pub place_of : Cell → Option ℕ
place_of Never = None
place_of (Holds place) = Some place
place_of (Empty place) = Some place

-- what stands at a cell
abbrev pub at_cell : List KeptImage → Cell → Option KeptImage
at_cell images Never = None
at_cell images (Holds place) = slice_get images place
at_cell images (Empty place) = None

-- what stands at each page, by its cell
abbrev pub at_cells : List KeptImage → List Cell → List (Option KeptImage)
at_cells images cells = map (at_cell images) cells

-- the cell of a page
abbrev pub cell_at : List Cell → ℕ → Cell
cell_at cells page = slice_index_or cells page Never

-- how many pages have a place
abbrev pub placed : List Cell → ℕ
placed [] = 0
placed (Never ∷ cells) = placed cells
placed (Holds place ∷ cells) = placed cells + 1
placed (Empty place ∷ cells) = placed cells + 1

-- each of so many places is of one page, as many pages have one, and there is room for the others
pub record AreCells (places capacity : ℕ) (cells : List Cell) : Type 0 where
  pub within : (page place : ℕ) → place_of (cell_at cells page) ≡ Some place → place < places
  pub once : (a b place : ℕ) → place_of (cell_at cells a) ≡ Some place → place_of (cell_at cells b) ≡ Some place → a ≡ b
  pub count : places ≡ placed cells
  pub room : length cells ≤ capacity
  pub few : length cells ≤ MOST_PAGES
