-- The rule of the words, and what each step tells. Page p has the words 3 p (marked), 3 p + 1 (taken to scan) and 3 p
-- + 2 (scanned).
use Rattle.std.specs.Prelude.{◌≡◌, ℕ, ◌+◌, ◌-◌, ◌*◌, ◌^◌, ◌<◌, ◌≤◌, ◌==◌, cond, Option, Some, None, List, [], ◌∷◌, ◌++◌, length, slice_index, zero, suc}
use Rattle.std.specs.Int.{bit_at}
use Rattle.object_graph.specs.Totals.{total}
use Rattle.object_graph.specs.declared.limits.TheConstants.{MOST_SLOTS}
use mathlib.Core.Option.{some}
use lib.ListN.{get_elem?}
use Rattle.atomic_table.specs.Table.{State, Me, Step}
use Rattle.cut_builder.specs.CutParts.{ClosedParts}
use Rattle.mark_pool.specs.declared.place.Place.{Place}
use Rattle.mark_pool.specs.declared.view.View.{View}
use Rattle.mark_pool.specs.Edges.{place, IsMarkAt, IsEdge}

abbrev pub view : List Place → List Place → List Place → List Place → ℕ → Option ClosedParts → View
view seen claims takes scans parts cut =
    record { seen = seen; claims = claims; takes = takes; scans = scans; parts = parts; cut = cut }

-- the parts of all seats of a table
abbrev pub all_parts : ℕ
all_parts = 65536

-- 1 where this is the place, else 0
abbrev pub is_here : ℕ → ℕ → Place → ℕ
is_here page slot p = cond (p.page == page) (cond (p.slot == slot) 1 0) 0

-- how often the place stands in the list
abbrev pub times : ℕ → ℕ → List Place → ℕ
times page slot [] = 0
times page slot (x ∷ xs) = is_here page slot x + times page slot xs

-- the bit of a place in the words of this kind: 0 marked, 1 taken to scan, 2 scanned
abbrev pub bit : List ℕ → ℕ → ℕ → ℕ → ℕ
bit words kind page slot = bit_at (slice_index words (3 * page + kind)) slot

abbrev pub parts_of : View → ℕ
parts_of v = v.parts

-- what is true of one view
pub record Fits (of : ClosedParts) (words : List ℕ) (v : View) : Type 0 where
  pub saw : (page slot : ℕ) → 0 < times page slot v.seen → bit words 0 page slot ≡ 1
  pub scanned : (page slot : ℕ) → 0 < times page slot v.scans → bit words 2 page slot ≡ 1
  pub known : 0 < v.parts → v.cut ≡ Some of
  pub bare : v.parts ≡ 0 → (v.claims ≡ []) × (v.takes ≡ [])

-- each mark that is set is a mark of the cut and stands in the claims of one view; each place that is taken stands in
-- the takes of one; of a
-- place that is scanned all targets are marked
pub record Ruled (cut : ClosedParts) (s : State (Unit {0}) View) : Type 0 where
  pub wide : length s.words ≡ 3 * length cut.pages
  pub parts : total parts_of s.views ≡ all_parts
  pub claimed : (page slot : ℕ) → total (λ (v : View). times page slot v.claims) s.views ≡ bit s.words 0 page slot
  pub taken : (page slot : ℕ) → total (λ (v : View). times page slot v.takes) s.views ≡ bit s.words 1 page slot
  pub sound : (page slot : ℕ) → bit s.words 0 page slot ≡ 1 → IsMarkAt cut page slot × (slot < MOST_SLOTS)
  pub done : (page slot : ℕ) → bit s.words 2 page slot ≡ 1
      → (bit s.words 1 page slot ≡ 1) × ((to : Place) → IsEdge cut page slot to → bit s.words 0 to.page to.slot ≡ 1)
  pub each : (seat : ℕ) (v : View) → get_elem? s.views seat ≡ some v → Fits cut s.words v

-- the view of the first seat
abbrev pub opened : ClosedParts → View
opened cut = view [] [] [] [] all_parts (Some cut)

-- p is added where the bit was 0
abbrev pub added : ℕ → Place → List Place → List Place
added bit p l = cond (bit == 0) (p ∷ l) l

abbrev Sat : Type 0
Sat = Me (Unit {0}) View

-- the step is on the bit of this place, in the words of this kind
abbrev pub IsAt : Step (Unit {0}) → ℕ → ℕ → ℕ → Type 0
IsAt st kind page slot = (st.word ≡ 3 * page + kind) × (st.first ≡ 2 ^ slot)

-- a mark is seen, and claimed where it wasn't set; the seat with all parts has claimed what is marked
abbrev pub claimed : Step (Unit {0}) → Sat → ℕ → Sat → Type 0
claimed st m n m' = (page slot : ℕ) → IsAt st 0 page slot
    → (m'.0 ≡ view (place page slot
    ∷ m.0.seen) (added (bit_at n slot) (place page slot) m.0.claims) m.0.takes m.0.scans m.0.parts m.0.cut)
    × (m'.1 ≡ m.1)
    × (m.0.parts ≡ all_parts → times page slot m.0.claims ≡ bit_at n slot)

-- a place is taken where it wasn't; the seat with all parts has taken what is taken
abbrev pub took : Step (Unit {0}) → Sat → ℕ → Sat → Type 0
took st m n m' = (page slot : ℕ) → IsAt st 1 page slot
    → (m'.0 ≡ view m.0.seen m.0.claims
    (added (bit_at n slot) (place page slot) m.0.takes) m.0.scans m.0.parts m.0.cut) × (m'.1 ≡ m.1)
    × (m.0.parts ≡ all_parts → times page slot m.0.takes ≡ bit_at n slot)

-- the place is known to be scanned
abbrev pub scanned : Step (Unit {0}) → Sat → ℕ → Sat → Type 0
scanned st m n m' = (page slot : ℕ) → IsAt st 2 page slot
    → (m'.0 ≡ view m.0.seen m.0.claims m.0.takes (place page slot ∷ m.0.scans) m.0.parts m.0.cut) × (m'.1 ≡ m.1)

-- the slots below k whose bit is 1 in the word
abbrev pub marked_of : ℕ → ℕ → ℕ → List Place
marked_of page n zero = []
marked_of page n (suc k) = cond (bit_at n k == 1) (place page k ∷ marked_of page n k) (marked_of page n k)

-- each mark of the page that was found is seen, and is a mark of the cut; the seat with all parts has claimed just
-- these
abbrev pub saw : Step (Unit {0}) → Sat → ℕ → Sat → Type 0
saw st m n m' = (page : ℕ) → st.word ≡ 3 * page + 0
    → (m'.0 ≡ view (marked_of page n 64 ++ m.0.seen) m.0.claims m.0.takes m.0.scans m.0.parts m.0.cut) × (m'.1 ≡ m.1)
    × ((cut : ClosedParts) (slot : ℕ) → m.0.cut ≡ Some cut → bit_at n slot ≡ 1 → IsMarkAt cut page slot
    × (slot < MOST_SLOTS))
    × (m.0.parts ≡ all_parts → (slot : ℕ) → times page slot m.0.claims ≡ bit_at n slot)

-- the seat with all parts has claimed all targets of each place of the page that was found scanned; what a seat knows
-- to be scanned was found so
abbrev pub saw_scanned : Step (Unit {0}) → Sat → ℕ → Sat → Type 0
saw_scanned st m n m' = (page : ℕ) → st.word ≡ 3 * page + 2
    → (m' ≡ m)
    × ((cut : ClosedParts) (slot : ℕ) (to : Place) → m.0.cut ≡ Some cut → m.0.parts ≡ all_parts → bit_at n slot ≡ 1
    → IsEdge cut page slot to → 0 < times to.page to.slot m.0.claims)
    × ((slot : ℕ) → 0 < times page slot m.0.scans → bit_at n slot ≡ 1)

-- no place stands twice in the claims or in the takes
abbrev pub counted_once : Step (Unit {0}) → Sat → ℕ → Sat → Type 0
counted_once st m n m' = (m' ≡ m)
    × ((page slot : ℕ) → (times page slot m.0.claims ≤ 1) × (times page slot m.0.takes ≤ 1))

-- a view that gave one part away, and the view that got it
abbrev pub halved : View → View
halved v = view v.seen v.claims v.takes v.scans (v.parts - 1) v.cut

abbrev pub half : View → View
half v = view v.seen [] [] v.scans 1 v.cut

-- two views in one, and what is left of the second
abbrev pub joined : View → View → View
joined v w = view (v.seen ++ w.seen) (v.claims ++ w.claims) (v.takes ++ w.takes) (v.scans ++ w.scans)
    (v.parts + w.parts) v.cut

abbrev pub empty_view : View
empty_view = view [] [] [] [] 0 None
