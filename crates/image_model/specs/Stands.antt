-- What a store file stands for.
use Rattle.std.specs.Prelude.{◌≡◌, ℕ, List, [], map, IsTrue, Some, Result, Ok, Err}
use Rattle.std.specs.List.{AllByRecursion}
use Rattle.object_graph.specs.SlotParts.{SlotParts}
use Rattle.object_graph.specs.Graphs.{has_object}
use Rattle.object_graph.specs.Slots.{below}
use Rattle.store_model.specs.Worlds.{World}
use Rattle.store_model.specs.Lawful.{IsPlaced, CountsUp, OnlyLastUnfreed}
use Rattle.store_model.specs.FromImages.{world_of}
use Rattle.store_model.specs.States.{State, shown_by, IsStateOf}
use Rattle.redo_journal.specs.Journals.{JournalParts, HoldsFor}
use Rattle.redo_journal.specs.Record.{RecordParts}
use Rattle.image_model.specs.Super.{super_of}
use Rattle.image_model.specs.Opening.{StoreParts, store_images, open_of}
use Rattle.image_model.specs.Stores.{IsRooted, IsStore}

-- the images that a state shows, page 0 first
abbrev pub all_shown_by : ℕ → State → List (List SlotParts)
all_shown_by pages s = map (shown_by s) (below pages)

-- A state that a store of so many pages may have: each place has the names of generations 1 to some last one,
-- of which only the last may be unfreed; the root is unfreed, and what is reached refers to what is unfreed.
pub record IsState (pages : ℕ) (s : State) : Type 0 where
  pub placed : AllByRecursion (λ o. IsPlaced pages s.slots o.name) s.graph
  pub counted : CountsUp s.graph
  pub last : OnlyLastUnfreed s.graph s.freed
  pub freed_there : AllByRecursion (λ name. IsTrue (has_object s.graph name)) s.freed
  pub rooted : IsRooted (all_shown_by pages s)

-- the file is a store of so many pages that shows this state
pub record StandsFor (file : List ℕ) (pages : ℕ) (s : State) : Type 0 where
  pub content : StoreParts
  pub store : IsStore file content
  pub shows : store_images content ≡ all_shown_by pages s
  pub commits : content.commits ≡ s.commits
  pub state : IsState pages s

-- the file stands for a state that a reopening of this world may find
pub record StandsForWorld (file : List ℕ) (w : World) : Type 0 where
  pub state : State
  pub found : IsStateOf w state
  pub stands : StandsFor file w.pages state

-- ---- the world that a file opens to

abbrev pub nothing_held : StoreParts
nothing_held = record { commits = 0; pages = [] }

abbrev pub store_or_none : {F : Type 0} → Result StoreParts F → StoreParts
store_or_none (Ok store) = store
store_or_none (Err fault) = nothing_held

abbrev pub world_held : StoreParts → World
world_held store = world_of store.commits (store_images store)

-- where it is a store
abbrev pub opened_world : List ℕ → World
opened_world file = world_held (store_or_none (open_of file))

-- ---- the journal of a store

-- the journal's area is the active one, and has its base and these records
pub record IsJournalOf (journal : JournalParts) (records : List RecordParts) (file : List ℕ) : Type 0 where
  pub active : super_of file ≡ Some (record { pages = journal.pages; area = journal.area })
  pub holds : HoldsFor journal records file

-- the store file is this journal's
abbrev pub IsStoreOf : JournalParts → List ℕ → Type 0
IsStoreOf journal file = (records : List RecordParts) × IsJournalOf journal records file
