-- How images come to their cells.
use Rattle.std.proofs.Common.{◌≡◌, ℕ, zero, suc, ◌+◌, ◌<◌, ◌≤◌, ◌≢◌, Option, Some, None, List, [], ◌∷◌, ◌++◌, replicate, length, get_or, set, refl, sym, subst, ap, ◌∙◌, arith, length-set, length-append}
use mathlib.Core.Logic.{dite}
use native.Mathlib.Decide.{ℕ_discrete}
use Rattle.std.proofs.lemmas.List.{length-map, length-replicate, set-get_or, get_or-set_same, get_or-set_other, get_or_append_left, get_or_default, get_or_read, same_lists}
use Rattle.std.proofs.lemmas.Option.{slice_get-get_or}
use Rattle.std.proofs.Math.ListN.{get_or-map}
use Rattle.std.proofs.Math.Seq.{get_or-append_seam}
use Rattle.object_graph.specs.declared.limits.TheConstants.{MOST_PAGES}
use Rattle.cut_model.proofs.Openings.{get-replicate_same}
use Rattle.cut_builder.specs.declared.column.KeptImage.{KeptImage}
use Rattle.cut_builder.specs.declared.column.Cell.{Cell}
use Rattle.cut_builder.specs.declared.column.Cell.TheVariants.{Never, Holds, Empty}
use Rattle.cut_builder.specs.Cells.{place_of, at_cell, at_cells, cell_at, placed, AreCells}

-- a cell that was read is that of the page
pub cell_of : (cells : List Cell) (page : ℕ) (read : Cell) → page < length cells → read ≡ get_or cells page read → cell_at cells page ≡ read
cell_of cells page read within is = sym (get_or_read cells page read within is Never)

-- what stands at a page
pub at_page : (images : List KeptImage) (cells : List Cell) (page : ℕ) (cell : Cell) → cell_at cells page ≡ cell → get_or (at_cells images cells) page None ≡ at_cell images cell
at_page images cells page cell is = get_or-map (at_cell images) cells page Never ∙ ap (at_cell images) is

pub length-at : (images : List KeptImage) (cells : List Cell) → length (at_cells images cells) ≡ length cells
length-at images cells = length-map cells (at_cell images)

-- two lists of as many pages are the same where the same stands at each
same_columns : (xs ys : List (Option KeptImage)) → length xs ≡ length ys → ((k : ℕ) → get_or xs k None ≡ get_or ys k None) → xs ≡ ys
same_columns xs ys long same = same_lists xs ys long (λ k d h.
    get_or_default xs k d None h ∙ (same k ∙ get_or_default ys k None d (omega (arith, long, h))))

-- the page has another cell, and what stands at the others is as before
cell_changed : (images more : List KeptImage) (cells : List Cell) (page : ℕ) (cell : Cell) (x : Option KeptImage) → page < length cells → at_cell more cell ≡ x
    → ((k : ℕ) → k ≢ page → at_cell more (cell_at cells k) ≡ at_cell images (cell_at cells k)) → at_cells more (set cells page cell) ≡ set (at_cells images cells) page x
cell_changed images more cells page cell x within is others =
    let after : List Cell = set cells page cell in
    let long = length-at images cells in
    let inner : page < length (at_cells images cells) = omega (arith, long, within) in
    same_columns (at_cells more after) (set (at_cells images cells) page x)
    (length-at more after ∙ (length-set cells page cell ∙ sym (length-set (at_cells images cells) page x ∙ long))) (λ k.
    dite (ℕ_discrete k page)
    (λ e. subst (λ (j : ℕ). get_or (at_cells more after) j None ≡ get_or (set (at_cells images cells) page x) j None) (sym e)
    (at_page more after page cell (get_or-set_same cells page cell Never within) ∙ (is ∙ sym (get_or-set_same (at_cells images cells) page x None inner))))
    (λ n. at_page more after k (cell_at cells k) (get_or-set_other cells page k cell Never n)
    ∙ (others k n ∙ sym (get_or-set_other (at_cells images cells) page k x None n ∙ at_page images cells k (cell_at cells k) refl))))

-- another image at a place changes no other cell
other_cell : (images : List KeptImage) (place : ℕ) (x : KeptImage) (cell : Cell) → ((p : ℕ) → place_of cell ≡ Some p → p < length images) → place_of cell ≢ Some place
    → at_cell (set images place x) cell ≡ at_cell images cell
other_cell images place x Never within n = refl
other_cell images place x (Empty other) within n = refl
other_cell images place x (Holds other) within n =
    let low = within other refl in
    let long = length-set images place x in
    slice_get-get_or (set images place x) other x (omega (arith, low, long))
    ∙ (ap (λ (i : KeptImage). Some i) (get_or-set_other images place other x x (λ e. n (ap (λ (p : ℕ). Some p) e))) ∙ sym (slice_get-get_or images other x low))

-- an image comes to the place of its page
pub replaced : (images : List KeptImage) (capacity : ℕ) (cells : List Cell) (page place : ℕ) (x : KeptImage) → AreCells (length images) capacity cells → page < length cells
    → place_of (cell_at cells page) ≡ Some place → at_cells (set images place x) (set cells page (Holds place)) ≡ set (at_cells images cells) page (Some x)
replaced images capacity cells page place x are within is =
    let low = are.within page place is in
    let long = length-set images place x in
    cell_changed images (set images place x) cells page (Holds place) (Some x) within
    (slice_get-get_or (set images place x) place x (omega (arith, low, long)) ∙ ap (λ (i : KeptImage). Some i) (get_or-set_same images place x x low))
    (λ k n. other_cell images place x (cell_at cells k) (are.within k) (λ e. n (are.once k page place e is)))

-- the image of a page is left
pub emptied : (images : List KeptImage) (cells : List Cell) (page place : ℕ) → page < length cells → at_cells images (set cells page (Empty place)) ≡ set (at_cells images cells) page None
emptied images cells page place within = cell_changed images images cells page (Empty place) None within refl (λ k n. refl)

-- an image that comes last changes no cell
earlier_cell : (images : List KeptImage) (x : KeptImage) (cell : Cell) → ((p : ℕ) → place_of cell ≡ Some p → p < length images) → at_cell (images ++ x ∷ []) cell ≡ at_cell images cell
earlier_cell images x Never within = refl
earlier_cell images x (Empty place) within = refl
earlier_cell images x (Holds place) within =
    let low = within place refl in
    let long = length-append images (x ∷ []) in
    slice_get-get_or (images ++ x ∷ []) place x (omega (arith, low, long))
    ∙ (ap (λ (i : KeptImage). Some i) (get_or_append_left images (x ∷ []) x place low) ∙ sym (slice_get-get_or images place x low))

-- an image comes to the next place, of a page that had none
pub placed_last : (images : List KeptImage) (capacity : ℕ) (cells : List Cell) (page : ℕ) (x : KeptImage) → AreCells (length images) capacity cells → page < length cells
    → at_cells (images ++ x ∷ []) (set cells page (Holds (length images))) ≡ set (at_cells images cells) page (Some x)
placed_last images capacity cells page x are within =
    let long = length-append images (x ∷ []) in
    cell_changed images (images ++ x ∷ []) cells page (Holds (length images)) (Some x) within
    (slice_get-get_or (images ++ x ∷ []) (length images) x (omega (arith, long)) ∙ ap (λ (i : KeptImage). Some i) (get_or-append_seam images x [] x))
    (λ k n. earlier_cell images x (cell_at cells k) (are.within k))

-- how many pages have a place
placed_few : (cells : List Cell) → placed cells ≤ length cells
placed_few [] = omega arith
placed_few (Never ∷ cells) = let h = placed_few cells in omega (arith, h)
placed_few (Holds place ∷ cells) = let h = placed_few cells in omega (arith, h)
placed_few (Empty place ∷ cells) = let h = placed_few cells in omega (arith, h)

first_more : (cell : Cell) (place : ℕ) (cells : List Cell) → place_of cell ≡ None → placed (Holds place ∷ cells) ≡ placed (cell ∷ cells) + 1
first_more Never place cells none = refl
first_more (Holds other) place cells none = cc
first_more (Empty other) place cells none = cc

first_same : (cell new : Cell) (place : ℕ) (cells : List Cell) → place_of cell ≡ Some place → place_of new ≡ Some place → placed (new ∷ cells) ≡ placed (cell ∷ cells)
first_same Never new place cells is also = cc
first_same (Holds other) Never place cells is also = cc
first_same (Holds other) (Holds p) place cells is also = refl
first_same (Holds other) (Empty p) place cells is also = refl
first_same (Empty other) Never place cells is also = cc
first_same (Empty other) (Holds p) place cells is also = refl
first_same (Empty other) (Empty p) place cells is also = refl

-- the count of a list by that of its rest
rest_more : (cell : Cell) (xs ys : List Cell) (more : ℕ) → placed xs ≡ placed ys + more → placed (cell ∷ xs) ≡ placed (cell ∷ ys) + more
rest_more Never xs ys more e = e
rest_more (Holds place) xs ys more e = omega (arith, e)
rest_more (Empty place) xs ys more e = omega (arith, e)

placed_more : (cells : List Cell) (page place : ℕ) → page < length cells → place_of (cell_at cells page) ≡ None → placed (set cells page (Holds place)) ≡ placed cells + 1
placed_more [] page place within none = absurd (omega (arith, within))
placed_more (cell ∷ cells) zero place within none = first_more cell place cells none
placed_more (cell ∷ cells) (suc page) place within none = rest_more cell (set cells page (Holds place)) cells 1 (placed_more cells page place (omega (arith, within)) none)

placed_same : (cells : List Cell) (page place : ℕ) (new : Cell) → page < length cells → place_of (cell_at cells page) ≡ Some place → place_of new ≡ Some place
    → placed (set cells page new) ≡ placed cells + 0
placed_same [] page place new within is also = absurd (omega (arith, within))
placed_same (cell ∷ cells) zero place new within is also = let e = first_same cell new place cells is also in omega (arith, e)
placed_same (cell ∷ cells) (suc page) place new within is also = rest_more cell (set cells page new) cells 0 (placed_same cells page place new (omega (arith, within)) is also)

-- where a page has no place there is one left
pub has_place : (places capacity : ℕ) (cells : List Cell) (page : ℕ) → AreCells places capacity cells → page < length cells → place_of (cell_at cells page) ≡ None → places < length cells
has_place places capacity cells page are within none =
    let more = placed_more cells page 0 within none in
    let few = placed_few (set cells page (Holds 0)) in
    let long = length-set cells page (Holds 0) in
    let count = are.count in omega (arith, more, few, long, count)

-- the page keeps its place
pub keeps_place : (places capacity : ℕ) (cells : List Cell) (page place : ℕ) (cell : Cell) → AreCells places capacity cells → page < length cells
    → place_of (cell_at cells page) ≡ Some place → place_of cell ≡ Some place → AreCells places capacity (set cells page cell)
keeps_place places capacity cells page place cell are within is also =
    let after : List Cell = set cells page cell in
    let long = length-set cells page cell in
    let same : (k : ℕ) → place_of (cell_at cells k) ≡ place_of (cell_at after k) = λ k. dite (ℕ_discrete k page)
    (λ e. subst (λ (j : ℕ). place_of (cell_at cells j) ≡ place_of (cell_at after j)) (sym e) (is ∙ (sym also ∙ sym (ap (λ s. place_of s) (get_or-set_same cells page cell Never within)))))
    (λ n. sym (ap (λ s. place_of s) (get_or-set_other cells page k cell Never n))) in
    record {
      within = λ k p e. are.within k p (same k ∙ e);
      once = λ a b p e f. are.once a b p (same a ∙ e) (same b ∙ f);
      count = (let e = placed_same cells page place cell within is also in let count = are.count in omega (arith, e, count));
      room = (let room = are.room in omega (arith, long, room));
      few = (let few = are.few in omega (arith, long, few));
    }

-- the next place is of one page
last_once : (places capacity : ℕ) (cells : List Cell) (page other place : ℕ) → AreCells places capacity cells → page < length cells → other ≢ page
    → place_of (cell_at (set cells page (Holds places)) page) ≡ Some place → ¬ place_of (cell_at (set cells page (Holds places)) other) ≡ Some place
last_once places capacity cells page other place are within n is also =
    let own : Some places ≡ Some place = sym (ap (λ s. place_of s) (get_or-set_same cells page (Holds places) Never within)) ∙ is in
    let last : places ≡ place = cc in
    let low = are.within other place (sym (ap (λ s. place_of s) (get_or-set_other cells page other (Holds places) Never n)) ∙ also) in
    omega (arith, last, low)

pub takes_place : (places capacity : ℕ) (cells : List Cell) (page : ℕ) → AreCells places capacity cells → page < length cells → place_of (cell_at cells page) ≡ None
    → AreCells (places + 1) capacity (set cells page (Holds places))
takes_place places capacity cells page are within none =
    let after : List Cell = set cells page (Holds places) in
    let long = length-set cells page (Holds places) in
    let before : (k : ℕ) → k ≢ page → place_of (cell_at after k) ≡ place_of (cell_at cells k) = λ k n. ap (λ s. place_of s) (get_or-set_other cells page k (Holds places) Never n) in
    record {
      within = λ k place is. dite (ℕ_discrete k page)
          (λ e. let own : Some places ≡ Some place = sym (ap (λ s. place_of s) (get_or-set_same cells page (Holds places) Never within)) ∙ subst (λ (j : ℕ). place_of (cell_at after j) ≡ Some place) e is in
          let last : places ≡ place = cc in omega (arith, last))
          (λ n. let low = are.within k place (sym (before k n) ∙ is) in omega (arith, low));
      once = λ a b place is also. dite (ℕ_discrete a page)
          (λ e. dite (ℕ_discrete b page) (λ f. e ∙ sym f)
          (λ n. absurd (last_once places capacity cells page b place are within n (subst (λ (j : ℕ). place_of (cell_at after j) ≡ Some place) e is) also)))
          (λ m. dite (ℕ_discrete b page)
          (λ f. absurd (last_once places capacity cells page a place are within m (subst (λ (j : ℕ). place_of (cell_at after j) ≡ Some place) f also) is))
          (λ n. are.once a b place (sym (before a m) ∙ is) (sym (before b n) ∙ also)));
      count = ap (λ (n : ℕ). n + 1) are.count ∙ sym (placed_more cells page places within none);
      room = (let room = are.room in omega (arith, long, room));
      few = (let few = are.few in omega (arith, long, few));
    }

-- at the start no page has a place
placed_none : (n : ℕ) → placed (replicate n Never) ≡ 0
placed_none zero = refl
placed_none (suc n) = placed_none n

pub no_cells : (capacity n : ℕ) → n ≤ capacity → n ≤ MOST_PAGES → AreCells 0 capacity (replicate n Never)
no_cells capacity n room few =
    let bare : (page : ℕ) → place_of (cell_at (replicate n Never) page) ≡ None = λ page. ap (λ s. place_of s) (get-replicate_same {A = Cell} n page Never) in
    let long : length (replicate n Never) ≡ n = length-replicate {A = Cell} n Never in
    record {
      within = λ page place is. let none = bare page in absurd cc;
      once = λ a b place is also. let none = bare a in absurd cc;
      count = sym (placed_none n);
      room = omega (arith, long, room);
      few = omega (arith, long, few);
    }

pub nothing_placed : (images : List KeptImage) (n : ℕ) → at_cells images (replicate n Never) ≡ replicate n None
nothing_placed images zero = refl
nothing_placed images (suc n) = ap (λ (xs : List (Option KeptImage)). None ∷ xs) (nothing_placed images n)

-- a page without a place has no image
placeless : (images : List KeptImage) (cell : Cell) → place_of cell ≡ None → at_cell images cell ≡ None
placeless images Never none = refl
placeless images (Holds place) none = cc
placeless images (Empty place) none = refl

pub without_image : (images : List KeptImage) (cells : List Cell) (page : ℕ) → place_of (cell_at cells page) ≡ None → at_cells images cells ≡ set (at_cells images cells) page None
without_image images cells page none =
    sym (set-get_or (at_cells images cells) page None)
    ∙ ap (λ (x : Option KeptImage). set (at_cells images cells) page x) (at_page images cells page (cell_at cells page) refl ∙ placeless images (cell_at cells page) none)
