-- What the store stands for: one graph that only grows, what was freed, the open transactions and the cut.
use Rattle.std.specs.Prelude.{ℕ, Bool, not, ◌&&◌, ◌==◌, Option, None, List, [], ◌∷◌, ◌++◌, map, filter, find, unwrap_or, IsTrue}
use Rattle.std.specs.List.{AllByRecursion}
use Rattle.object_graph.specs.NameParts.{NameParts}
use Rattle.object_graph.specs.Names.{root_name}
use Rattle.object_graph.specs.ObjectParts.{ObjectParts}
use Rattle.object_graph.specs.declared.calls.Phase.{Phase}
use Rattle.object_graph.specs.declared.calls.Entry.{Entry}
use Rattle.object_graph.specs.Graphs.{object_fields, fresh_object, fresh_graph, with_number, with_ref, has_name, has_object, IsReachedFrom}
use Rattle.object_graph.specs.declared.sizes.TheConstants.{SLOTS_PER_PAGE}

-- a write of an open transaction
pub data Write : Type 0 where
  link : NameParts → ℕ → Option NameParts → Write
  assign : NameParts → ℕ → Write

-- an open transaction. Its own objects stand oldest first, its writes newest first
pub record Transaction : Type 0 where
  pub number : ℕ
  pub known : List NameParts
  pub own : List NameParts
  pub writes : List Write
  pub pages_read : List ℕ
  pub pages_written : List ℕ

-- what was committed as the cut opened: the graph, the number of commits, what was freed, and where paths start
pub record Opening : Type 0 where
  pub graph : List ObjectParts
  pub commits : ℕ
  pub freed : List NameParts
  pub starts : List NameParts

pub record OpenedCut : Type 0 where
  pub number : ℕ
  pub phase : Phase
  pub copied : List ℕ
  pub swept : List ℕ
  pub opening : Opening

-- what a disk fault may have left done
pub data Doubt : Type 0 where
  no_doubt : Doubt
  commit_in_doubt : ℕ → Doubt
  sweep_in_doubt : ℕ → Doubt

-- the store: its pages, and what changes with its calls
pub record World : Type 0 where
  pub pages : ℕ
  pub graph : List ObjectParts
  pub commits : ℕ
  pub freed : List NameParts
  pub last_cut : ℕ
  pub transactions : List Transaction
  pub cut : Option OpenedCut
  pub broken : Option ℕ
  pub doubt : Doubt

-- what an event leaves open without it
pub data Note : Type 0 where
  nothing : Note
  faults : ℕ → Note
  images : Note
  marks : Option ℕ → Note
  found : List NameParts → Note

pub record Event : Type 0 where
  pub entry : Entry
  pub note : Note

-- the number of slots of a page
abbrev pub slots_of : World → ℕ → ℕ
slots_of w page = SLOTS_PER_PAGE

-- the number of references of an object on a page
abbrev pub fields_of : World → ℕ → ℕ
fields_of w page = object_fields

-- where the paths to what is reached start
abbrev pub starts : World → List NameParts
starts w = root_name ∷ []

-- where the paths to what a transaction knows start
abbrev pub starts_of : Transaction → List NameParts
starts_of t = root_name ∷ []

-- an object as it is made
abbrev pub new_object : World → NameParts → ObjectParts
new_object w name = fresh_object (fields_of w name.page) name

-- a transaction as it begins
abbrev pub fresh_transaction : ℕ → Transaction
fresh_transaction number = record {
  number = number;
  known = root_name
      ∷ [];
  own = [];
  writes = [];
  pages_read = [];
  pages_written = [];
}

-- the world of a fresh store
abbrev pub fresh_world : ℕ → World
fresh_world pages = record {
  pages = pages;
  graph = fresh_graph;
  commits = 0;
  freed = [];
  last_cut = 0;
  transactions = [];
  cut = None;
  broken = None;
  doubt = no_doubt;
}

-- the open transaction of this number
abbrev pub find_transaction : World → ℕ → Option Transaction
find_transaction w number = find (λ t. t.number == number) w.transactions

-- the same, where it is open
abbrev pub transaction : World → ℕ → Transaction
transaction w number = unwrap_or (find_transaction w number) (fresh_transaction number)

abbrev pub is_freed : World → NameParts → Bool
is_freed w name = has_name w.freed name

-- the unfreed objects of the graph
abbrev pub is_unfreed : List NameParts → ObjectParts → Bool
is_unfreed freed o = not (has_name freed o.name)

abbrev pub unfreed : World → List ObjectParts
unfreed w = filter (is_unfreed w.freed) w.graph

-- an object after a write
abbrev pub written_by : Write → ObjectParts → ObjectParts
written_by (link name field target) o = with_ref name field target o
written_by (assign name value) o = with_number name value o

-- an object with writes laid over it, of which the newest stands first
abbrev pub with_writes : List Write → ObjectParts → ObjectParts
with_writes [] o = o
with_writes (write ∷ writes) o = written_by write (with_writes writes o)

-- what a transaction sees: the graph with its own objects added and its own writes laid over
abbrev pub view : World → Transaction → List ObjectParts
view w t = map (with_writes t.writes) (w.graph ++ map (new_object w) t.own)

-- the names that are reached
abbrev pub IsReached : World → NameParts → Type 0
IsReached w name = IsReachedFrom w.graph (starts w) name

-- the names that a transaction holds
abbrev pub IsHeldBy : World → Transaction → NameParts → Type 0
IsHeldBy w t name = IsReachedFrom (view w t) t.known name

-- nothing leads to the name: neither from the starts nor from what an open transaction knows
abbrev pub IsOutOfReach : World → NameParts → Type 0
IsOutOfReach w name = (¬ IsReached w name) × AllByRecursion (λ t. ¬ IsHeldBy w t name) w.transactions

-- the names that were unfreed as the cut opened
abbrev pub is_old : Opening → NameParts → Bool
is_old opening name = has_object opening.graph name && not (has_name opening.freed name)

-- the names that were unfreed and out of reach as the cut opened
pub record IsLost (opening : Opening) (name : NameParts) : Type 0 where
  pub old : IsTrue (is_old opening name)
  pub unreached : ¬ IsReachedFrom opening.graph opening.starts name
