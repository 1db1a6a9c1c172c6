-- What each world of a history keeps.
use Rattle.std.specs.Prelude.{◌≡◌, ◌≢◌, ℕ, suc, ◌<◌, ◌≤◌, false, not, ◌&&◌, ◌||◌, ◌==◌, ◌⊎◌, Some, None, List, [], ◌∷◌, length, map, filter, is_some, IsTrue, MatchOption, IsSomeAnd}
use Rattle.std.specs.List.{AllByRecursion}
use Rattle.object_graph.specs.NameParts.{NameParts, IsName}
use Rattle.object_graph.specs.declared.limits.TheConstants.{MOST_PAGES}
use Rattle.object_graph.specs.Names.{root_name}
use Rattle.object_graph.specs.ObjectParts.{ObjectParts}
use Rattle.object_graph.specs.Graphs.{has_name, has_object, refers, is_at, objects_at, IsReachedFrom}
use Rattle.object_graph.specs.Slots.{below}
use Rattle.object_graph.specs.declared.calls.Phase.TheVariants.{Sweeping}
use Rattle.store_model.specs.Worlds.{World, Transaction, OpenedCut, Opening, Doubt, no_doubt, commit_in_doubt, sweep_in_doubt, Write, link, assign, slots_of, starts, starts_of, find_transaction, is_freed, is_unfreed, is_old, IsOutOfReach, IsLost}
use Rattle.store_model.specs.Causes.{has_page, new_name_at}

-- ---- the graph

-- the name stands on a page of the store, in a slot of that page
abbrev pub IsPlaced : ℕ → (ℕ → ℕ) → NameParts → Type 0
IsPlaced pages slots name = (name.page < pages) × (name.slot < slots name.page)

-- the generations of the names at a place, in the order of the graph
abbrev pub generations_at : List ObjectParts → ℕ → ℕ → List ℕ
generations_at graph page slot = map (λ o. o.name.generation) (objects_at graph page slot)

-- at each place the names of the graph are those of generations 1 to some number
abbrev pub CountsUp : List ObjectParts → Type 0
CountsUp graph = (page slot : ℕ)
    → generations_at graph page slot ≡ map suc (below (length (objects_at graph page slot)))

-- an unfreed name is the last of its place
abbrev pub IsLastOfPlace : List ObjectParts → ObjectParts → Type 0
IsLastOfPlace graph o = o.name.generation ≡ length (objects_at graph o.name.page o.name.slot)

abbrev pub OnlyLastUnfreed : List ObjectParts → List NameParts → Type 0
OnlyLastUnfreed graph freed = AllByRecursion (IsLastOfPlace graph) (filter (is_unfreed freed) graph)

-- what is reached refers to nothing but names of the graph
abbrev pub RefersWithin : List ObjectParts → List NameParts → Type 0
RefersWithin graph starts = (name target : NameParts) → IsReachedFrom graph starts name
    → IsTrue (refers graph name target) → IsTrue (has_object graph target)

-- each object has as many references as an object of its page
abbrev pub HaveFields : (ℕ → ℕ) → List ObjectParts → Type 0
HaveFields fields graph = AllByRecursion (λ o. length o.refs ≡ fields o.name.page) graph

-- the names of a world are names: it has no more pages than a store may have, and no generation past the last one
pub record HasProperNames (w : World) : Type 0 where
  pub pages : w.pages ≤ MOST_PAGES
  pub graph : AllByRecursion (λ o. IsName o.name) w.graph
  pub own : AllByRecursion (λ t. AllByRecursion IsName t.own) w.transactions

-- ---- an open transaction

-- a write is to a known name on a page written, and its target is none or known
abbrev pub IsKnownWrite : Transaction → Write → Type 0
IsKnownWrite t (link name field None) = IsTrue (has_name t.known name && has_page t.pages_written name.page)
IsKnownWrite t (link name field (Some target)) = IsTrue ((has_name t.known name && has_page t.pages_written name.page)
    && has_name t.known target)
IsKnownWrite t (assign name value) = IsTrue (has_name t.known name && has_page t.pages_written name.page)

-- an own object stands on a page that its transaction wrote, at a place with no unfreed name, under the next name there
pub record IsOwn (graph : List ObjectParts) (freed : List NameParts) (t : Transaction) (name : NameParts) : Type 0 where
  pub page : IsTrue (has_page t.pages_written name.page)
  pub free : AllByRecursion (λ o. IsTrue (has_name freed o.name)) (objects_at graph name.page name.slot)
  pub next : name ≡ new_name_at graph name.page name.slot

-- a path from a start to a name, whose other names stand on pages that the transaction read or wrote
abbrev pub IsCoveredPath : List ObjectParts → Transaction → NameParts → List NameParts → NameParts → Type 0
IsCoveredPath graph t first [] last = (first ≡ last) × IsTrue (has_object graph first)
IsCoveredPath graph t first (next ∷ rest) last =
    IsTrue (refers graph first next)
    × IsTrue (has_object graph first)
    × IsTrue (has_page t.pages_read first.page || has_page t.pages_written first.page)
    × IsCoveredPath graph t next rest last

-- a known name is the transaction's own, or at the end of such a path
abbrev pub IsCovered : List ObjectParts → Transaction → NameParts → Type 0
IsCovered graph t name =
    IsTrue (has_name t.own name)
    ⊎ ((start : NameParts) × (rest : List NameParts) × IsTrue (has_name (starts_of t) start)
    × IsCoveredPath graph t start rest name)

-- the facts of an open transaction by itself
pub record IsLawfulTransaction (graph : List ObjectParts) (freed : List NameParts) (t : Transaction) : Type 0 where
  pub own : AllByRecursion (IsOwn graph freed t) t.own
  pub one_at_each_place : (page slot : ℕ) → length (filter (is_at page slot) t.own) < 2
  pub writes : AllByRecursion (IsKnownWrite t) t.writes
  pub known : AllByRecursion (IsCovered graph t) t.known

-- no page is written by the one and read or written by the other
abbrev pub IsApart : Transaction → Transaction → Type 0
IsApart t u = (page : ℕ) → IsTrue (has_page u.pages_read page || has_page u.pages_written page)
    → has_page t.pages_written page ≡ false

abbrev pub AreApart : List Transaction → Type 0
AreApart ts = AllByRecursion (λ t. AllByRecursion (λ u. u.number ≢ t.number → IsApart t u) ts) ts

-- ---- all of it

-- the graph and the open transactions are in order
pub record AreInOrder (pages : ℕ) (slots : ℕ
    → ℕ) (graph : List ObjectParts) (freed starts : List NameParts) (ts : List Transaction) : Type 0 where
  pub root : IsTrue (has_object graph root_name && not (has_name freed root_name))
  pub placed : AllByRecursion (λ o. IsPlaced pages slots o.name) graph
  pub own_placed : AllByRecursion (λ t. AllByRecursion (IsPlaced pages slots) t.own) ts
  pub whole : RefersWithin graph starts
  pub counted : CountsUp graph
  pub last : OnlyLastUnfreed graph freed
  pub distinct : (number : ℕ) → length (filter (λ t. t.number == number) ts) < 2
  pub transactions : AllByRecursion (IsLawfulTransaction graph freed) ts
  pub apart : AreApart ts
  pub freed_there : AllByRecursion (λ name. IsTrue (has_object graph name)) freed

abbrev pub IsOrderly : World → Type 0
IsOrderly w = AreInOrder w.pages (slots_of w) w.graph w.freed (starts w) w.transactions

-- what a world keeps of a cut's opening: what was lost is out of reach, and nothing else that is unfreed refers to it
pub record KeepsLost (w : World) (opening : Opening) : Type 0 where
  pub there : (name : NameParts) → IsTrue (is_old opening name) → IsTrue (has_object w.graph name)
  pub out : (name : NameParts) → IsLost opening name → IsOutOfReach w name
  pub kept : (name target : NameParts) → ¬ IsLost opening name → IsLost opening target
      → IsTrue (not (has_name w.freed name)) → ¬ IsTrue (refers w.graph name target)

abbrev pub KeepsLostOf : World → OpenedCut → Type 0
KeepsLostOf w cut = KeepsLost w cut.opening

-- on each page that is swept all that was lost is freed
abbrev pub HasFreedSwept : World → OpenedCut → Type 0
HasFreedSwept w cut = (name : NameParts) → IsLost cut.opening name → IsTrue (has_page cut.swept name.page)
    → IsTrue (is_freed w name)

-- this cut is swept, and not yet on this page
pub record IsUnsweptIn (page : ℕ) (cut : OpenedCut) : Type 0 where
  pub sweeping : cut.phase ≡ Sweeping
  pub unswept : has_page cut.swept page ≡ false

-- a sweep that is in doubt is of a page of the store that the cut had not swept
pub record IsSweepInDoubt (w : World) (page : ℕ) : Type 0 where
  pub broken : IsTrue (is_some w.broken)
  pub within : page < w.pages
  pub cut : IsSomeAnd w.cut (IsUnsweptIn page)

-- only a broken world is in doubt; a commit in doubt is that of an open transaction, and a sweep in doubt has its cut
abbrev pub IsDoubtOf : World → Doubt → Type 0
IsDoubtOf w no_doubt = Unit {0}
IsDoubtOf w (commit_in_doubt number) = IsTrue (is_some w.broken && is_some (find_transaction w number))
IsDoubtOf w (sweep_in_doubt page) = IsSweepInDoubt w page

-- what each world of a history keeps
pub record IsLawful (w : World) : Type 0 where
  pub orderly : IsOrderly w
  pub freed : AllByRecursion (IsOutOfReach w) w.freed
  pub lost : MatchOption w.cut (Unit {0}) (KeepsLostOf w)
  pub swept : MatchOption w.cut (Unit {0}) (HasFreedSwept w)
  pub doubt : IsDoubtOf w w.doubt
