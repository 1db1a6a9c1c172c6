-- The table of open transactions.
use Rattle.std.specs.Prelude.{◌≡◌, ◌≢◌, ℕ, ◌<◌, ◌≤◌, Bool, true, false, not, ◌&&◌, Option, Some, None, List, [], ◌∷◌, length, nat_eq, nat_le, slice_get, slice_index, option_and_then}
use Rattle.std.specs.Map.{keys_of, lookup}
use Rattle.object_graph.specs.NameParts.{NameParts}
use Rattle.object_graph.specs.Names.{root_name}
use Rattle.object_graph.specs.Graphs.{has_name}
use Rattle.object_graph.specs.declared.limits.TheConstants.{MOST_KNOWN, MOST_WRITTEN}
use Rattle.store_model.specs.Causes.{has_page}
use Rattle.store_model.specs.Steps.{with_page, with_target}

-- what is kept of an open transaction: the names that it knows, and the pages that it wrote, ascending
pub record OpenParts : Type 0 where
  pub known : List NameParts
  pub written : List ℕ

-- the open transactions by their numbers, in the order in which they began
abbrev pub Entries : Type 0
Entries = List (ℕ × OpenParts)

-- the entry of a transaction
abbrev pub entry_of : Entries → ℕ → Option OpenParts
entry_of table txn = lookup (nat_eq txn) table

-- a transaction as it begins
abbrev pub fresh_entry : OpenParts
fresh_entry = record { known = root_name ∷ []; written = [] }

-- each page is above those before it
abbrev pub IsAscending : List ℕ → Type 0
IsAscending pages = (i j : ℕ) → i < j → j < length pages → slice_index pages i < slice_index pages j

-- a page goes here, between those below it and those above it
pub record IsPlaceFor (page at : ℕ) (pages : List ℕ) : Type 0 where
  pub within : at ≤ length pages
  pub below : (i : ℕ) → i < at → slice_index pages i < page
  pub above : (i : ℕ) → at ≤ i → i < length pages → page < slice_index pages i

-- the pages that a transaction wrote, where it has an entry
abbrev pub pages_in : Option OpenParts → List ℕ
pages_in None = []
pages_in (Some entry) = entry.written

-- the written page at a place
abbrev pub written_at : Entries → ℕ → ℕ → Option ℕ
written_at table txn at = option_and_then (λ e. slice_get e.written at) (entry_of table txn)

-- as many pages are written as can be, and this isn't one of them
abbrev pub is_wide : List ℕ → ℕ → Bool
is_wide written page = nat_le MOST_WRITTEN (length written) && not (has_page written page)

-- the target is none or known
abbrev pub knows_target : List NameParts → Option NameParts → Bool
knows_target known None = true
knows_target known (Some target) = has_name known target

-- the target would be one name more, and as many are known as can be
abbrev pub is_full_for : List NameParts → Option NameParts → Bool
is_full_for known None = false
is_full_for known (Some target) = nat_le MOST_KNOWN (length known) && not (has_name known target)

-- the same pages, and the same names, in whatever order
pub record HaveSamePages (some other : List ℕ) : Type 0 where
  pub count : length some ≡ length other
  pub each : (page : ℕ) → has_page some page ≡ has_page other page

pub record HaveSameNames (some other : List NameParts) : Type 0 where
  pub count : length some ≡ length other
  pub each : (name : NameParts) → has_name some name ≡ has_name other name

-- one more page is noted as written
pub record NotesPage (page : ℕ) (old new : OpenParts) : Type 0 where
  pub known : new.known ≡ old.known
  pub written : HaveSamePages new.written (with_page page old.written)

-- a name that was answered is noted as known
pub record NotesTarget (target : Option NameParts) (old new : OpenParts) : Type 0 where
  pub known : HaveSameNames new.known (with_target target old.known)
  pub written : new.written ≡ old.written

-- one transaction's entry is changed, and the others stay
pub record ChangesEntry (change : OpenParts → OpenParts → Type 0) (txn : ℕ) (old new : Entries) : Type 0 where
  pub numbers : keys_of new ≡ keys_of old
  pub others : (other : ℕ) → other ≢ txn → entry_of new other ≡ entry_of old other
  pub changed : (e : OpenParts) → entry_of old txn ≡ Some e → (f : OpenParts) × (entry_of new txn ≡ Some f) × change e f
