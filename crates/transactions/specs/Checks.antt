-- What a call on a page finds before it does anything.
use Rattle.std.specs.Prelude.{◌≡◌, ℕ, ◌<◌, true, false, Option, Some, List, [], ◌∷◌, length}
use Rattle.object_graph.specs.NameParts.{NameParts}
use Rattle.object_graph.specs.Graphs.{has_name}
use Rattle.object_graph.specs.declared.calls.Refusal.{Refusal}
use Rattle.store_model.specs.Worlds.{World}
use Rattle.store_model.specs.Causes.{first_met, broken, not_open, stranger, bad_field, busy_to_write, too_wide}
use Rattle.page_locks.specs.Holding.{is_admitted, is_in_way, IsNobody, AddsExclusive}
use Rattle.transactions.specs.Tables.{OpenParts, entry_of, is_wide, ChangesEntry, NotesPage}
use Rattle.transactions.specs.Standing.{TransactionsParts, IsReady}

-- of these causes this one is the first that is met, or none is, in each world for which they are ready
abbrev pub FirstMet : TransactionsParts → (World → List (Option Refusal)) → Option Refusal → Type 0
FirstMet s causes why = (w : World) → IsReady s w → first_met (causes w) ≡ why

-- the first causes of a call of a transaction, those of one on a name, and those of a field and of writing a page
abbrev pub open_causes : ℕ → World → List (Option Refusal)
open_causes txn w = broken w ∷ not_open w txn ∷ []

abbrev pub name_causes : ℕ → NameParts → World → List (Option Refusal)
name_causes txn name w = broken w ∷ not_open w txn ∷ stranger w txn name ∷ []

abbrev pub field_causes : NameParts → ℕ → World → List (Option Refusal)
field_causes name field w = bad_field w name field ∷ []

abbrev pub write_causes : ℕ → ℕ → World → List (Option Refusal)
write_causes txn page w = busy_to_write w txn page ∷ too_wide w txn page ∷ []

-- the transaction is open, with this entry
pub record IsOpenWith (s : TransactionsParts) (txn : ℕ) (e : OpenParts) : Type 0 where
  pub entry : entry_of s.table txn ≡ Some e
  pub admitted : is_admitted s.locks.held txn ≡ true

-- and it knows the name, which stands on a page of the store
pub record IsKnownTo (s : TransactionsParts) (txn : ℕ) (name : NameParts) (e : OpenParts) : Type 0 where
  pub found : IsOpenWith s txn e
  pub known : has_name e.known name ≡ true
  pub frame : name.page < length s.frames
  pub lock : name.page < s.locks.pages

-- nobody is in the way of writing the page, and there is room to note it
pub record MayWrite (s : TransactionsParts) (txn : ℕ) (e : OpenParts) (page : ℕ) : Type 0 where
  pub nobody : IsNobody (is_in_way true s.locks.held txn page)
  pub narrow : is_wide e.written page ≡ false

-- the transaction has the page exclusive, noted as written
pub record TakesPage (txn page : ℕ) (old new : TransactionsParts) : Type 0 where
  pub locked : AddsExclusive old.locks.held new.locks.held txn page
  pub pages : new.locks.pages ≡ old.locks.pages
  pub noted : ChangesEntry (NotesPage page) txn old.table new.table
  pub frames : new.frames ≡ old.frames
