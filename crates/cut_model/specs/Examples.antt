-- Small cuts that compute: a page that is copied while it is dirty, and a pointer that moves.
use Rattle.std.specs.Prelude.{ℕ, None, List, [], ◌∷◌, take}
use Rattle.object_graph.specs.NameParts.{NameParts}
use Rattle.store_model.specs.Worlds.{World, Opening, fresh_world, transaction, view}
use Rattle.store_model.specs.Images.{shown_in}
use Rattle.store_model.specs.Steps.{opening_of}
use Rattle.store_model.specs.Histories.{after}
use Rattle.store_model.specs.Examples.{name_of, a_dirty_copy_outlives_an_abort, a_moved_pointer_is_seen}
use Rattle.cut_model.specs.CutPages.{CopyParts, CutPage, bare_page, with_copy, with_commit}
use Rattle.cut_model.specs.Frames.{copy_now}

-- ---- a dirty copy

-- the world of the worked script after so many of its events
abbrev pub dirty_at : ℕ → World
dirty_at n = after (fresh_world 2) (take n a_dirty_copy_outlives_an_abort)

abbrev pub dirty_opening : Opening
dirty_opening = opening_of (dirty_at 4)

-- the root's only target
abbrev pub linked : NameParts
linked = name_of 1 0 1

-- page 0 is copied while a transaction has taken the root's reference away, page 1 after its abort
abbrev pub dirty_cut : List CutPage
dirty_cut = with_copy (copy_now (dirty_at 7) 0) bare_page ∷ with_copy (copy_now (dirty_at 9) 1) bare_page ∷ []

-- the same, with the copy of page 0 without its before-image
abbrev pub without_before : CopyParts → CopyParts
without_before c = record c { before = None }

abbrev pub lossy_cut : List CutPage
lossy_cut = with_copy (without_before (copy_now (dirty_at 7) 0)) bare_page
    ∷ with_copy (copy_now (dirty_at 9) 1) bare_page ∷ []

-- ---- a moved pointer

abbrev pub moved_at : ℕ → World
moved_at n = after (fresh_world 3) (take n a_moved_pointer_is_seen)

abbrev pub moved_opening : Opening
moved_opening = opening_of (moved_at 6)

-- the target of the pointer that moves from page 1 to page 0
abbrev pub target : NameParts
target = name_of 2 0 1

-- page 0 is copied before the commit that moves the pointer, and has that commit's after-image; the others are copied
-- after it
abbrev pub moved_cut : List CutPage
moved_cut =
    with_commit (shown_in (moved_at 13) (view (moved_at 13) (transaction (moved_at 13) 2)) 0) 2 0
    (with_copy (copy_now (moved_at 7) 0) bare_page)
    ∷ with_copy (copy_now (moved_at 14) 1) bare_page ∷ with_copy (copy_now (moved_at 15) 2) bare_page ∷ []

-- the same without the after-image
abbrev pub stale_cut : List CutPage
stale_cut = with_copy (copy_now (moved_at 7) 0) bare_page ∷ with_copy (copy_now (moved_at 14) 1) bare_page
    ∷ with_copy (copy_now (moved_at 15) 2) bare_page ∷ []
