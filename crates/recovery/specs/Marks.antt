-- Marks of places, one set of slots for each page, and a walk that marks what is reached from the root and notes the
-- least
-- place of a reference that dangles.
use Rattle.std.specs.Prelude.{◌≡◌, ◌⊎◌, ℕ, ◌+◌, ◌*◌, ◌<◌, ◌≤◌, Bool, true, false, not, List, [], ◌∷◌, length, filter, Option, Some, None, slice_get, slice_index, sum_by}
use Rattle.object_graph.specs.declared.limits.TheConstants.{MOST_SLOTS}
use Rattle.object_graph.specs.NameParts.{NameParts}
use Rattle.object_graph.specs.Names.{root_name}
use Rattle.object_graph.specs.SlotParts.{SlotParts}
use Rattle.object_graph.specs.Slots.{has_slot, below}
use Rattle.object_graph.specs.Graphs.{IsReachedFrom}
use Rattle.object_graph.specs.Members.{In}
use Rattle.store_model.specs.FromImages.{objects_in_use, is_name_in_use}
use Rattle.image_model.specs.Stores.{DanglesAt, reference_place}

-- the place of a name is marked
abbrev pub is_marked : List ℕ → NameParts → Bool
is_marked marks name = has_slot (slice_index marks name.page) name.slot

-- the name is that of an object that is reached from the root
abbrev pub IsReachedIn : List (List SlotParts) → NameParts → Type 0
IsReachedIn images name = IsReachedFrom (objects_in_use images) (root_name ∷ []) name

-- how many places are unmarked
unfoldable pub slots_left : ℕ → ℕ
slots_left set = length (filter (λ slot. not (has_slot set slot)) (below MOST_SLOTS))

abbrev pub places_left : List ℕ → ℕ
places_left marks = sum_by slots_left marks

-- the work that is left with so many names to be followed
abbrev pub work_left : List NameParts → List ℕ → ℕ
work_left todo marks = length todo + 2 * places_left marks

-- the wanted names that are in use were marked, and those that weren't marked before are to be followed
pub record IsMarkedMore (images : List (List SlotParts)) (wanted : NameParts
    → Bool) (todo : List NameParts) (marks : List ℕ) (todo' : List NameParts) (marks' : List ℕ) : Type 0 where
  pub long : length marks' ≡ length marks
  pub less : work_left todo' marks' ≤ work_left todo marks
  pub kept : (name : NameParts) → is_marked marks name ≡ true → is_marked marks' name ≡ true
  pub still : (name : NameParts) → In name todo → In name todo'
  pub done : (name : NameParts) → is_name_in_use images name ≡ true → wanted name ≡ true → is_marked marks' name ≡ true
  pub new : (name : NameParts) → is_name_in_use images name ≡ true → is_marked marks' name ≡ true
      → (is_marked marks name ≡ true) ⊎ In name todo'
  pub only : (name : NameParts) → In name todo' → In name todo
      ⊎ ((wanted name ≡ true) × (is_name_in_use images name ≡ true) × (is_marked marks' name ≡ true))

-- ---- references that dangle

-- the reference is to a name that isn't in use
abbrev pub is_dangling : List (List SlotParts) → Option NameParts → Bool
is_dangling images None = false
is_dangling images (Some target) = not (is_name_in_use images target)

-- the least place so far is at most this one
abbrev pub IsUpTo : Option ℕ → ℕ → Type 0
IsUpTo None at = ⊥
IsUpTo (Some least) at = least ≤ at

-- a reference of these, of the object of this name, dangles at this place
pub record DanglesFrom (images : List (List SlotParts)) (name : NameParts) (refs : List (Option NameParts))
    (at : ℕ) : Type 0 where
  pub field : ℕ
  pub target : Option NameParts
  pub there : slice_get refs field ≡ Some target
  pub dangling : is_dangling images target ≡ true
  pub place : at ≡ reference_place name field

-- one reference was looked at: the least place so far is its place, where it dangles and there was none less
pub record IsNotedAt (images : List (List SlotParts)) (target : Option NameParts) (place : ℕ)
    (least least' : Option ℕ) : Type 0 where
  pub kept : (at : ℕ) → IsUpTo least at → IsUpTo least' at
  pub noted : is_dangling images target ≡ true → IsUpTo least' place
  pub only : (at : ℕ) → least' ≡ Some at → (least ≡ Some at) ⊎ ((is_dangling images target ≡ true) × (at ≡ place))

-- so were the first ones of the references of an object
pub record AreNoted (images : List (List SlotParts)) (name : NameParts) (refs : List (Option NameParts)) (count : ℕ)
    (least least' : Option ℕ) : Type 0 where
  pub kept : (at : ℕ) → IsUpTo least at → IsUpTo least' at
  pub noted : (field : ℕ) (target : Option NameParts) → field < count → slice_get refs field ≡ Some target
      → is_dangling images target ≡ true → IsUpTo least' (reference_place name field)
  pub only : (at : ℕ) → least' ≡ Some at → (least ≡ Some at) ⊎ DanglesFrom images name refs at

-- this is the least place of a reference that dangles, if there is one
pub record IsLeastDangling (images : List (List SlotParts)) (least : Option ℕ) : Type 0 where
  pub dangles : (at : ℕ) → least ≡ Some at → DanglesAt images at
  pub first : (at : ℕ) → DanglesAt images at → IsUpTo least at
