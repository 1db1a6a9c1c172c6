-- What is committed in a world, and what a reopening may find of it.
use Rattle.std.specs.Prelude.{◌≡◌, ℕ, ◌+◌, List}
use Rattle.object_graph.specs.NameParts.{NameParts}
use Rattle.object_graph.specs.SlotParts.{SlotParts}
use Rattle.object_graph.specs.ObjectParts.{ObjectParts}
use Rattle.store_model.specs.Worlds.{World, Transaction, slots_of, fields_of, view}
use Rattle.store_model.specs.Images.{shown_of}
use Rattle.store_model.specs.Replies.{MayReopen}
use Rattle.store_model.specs.Steps.{reopened}

-- what is committed: the slots of each page and the references of its objects, the graph, the number of commits, and
-- what is freed
pub record State : Type 0 where
  pub slots : ℕ → ℕ
  pub fields : ℕ → ℕ
  pub graph : List ObjectParts
  pub commits : ℕ
  pub freed : List NameParts

abbrev pub state_of : World → State
state_of w = record { slots = slots_of w; fields = fields_of w; graph = w.graph; commits = w.commits; freed = w.freed }

-- what is committed after a commit of a transaction
abbrev pub state_after : World → Transaction → State
state_after w t = record {
  slots = slots_of w;
  fields = fields_of w;
  graph = view w t;
  commits = w.commits + 1;
  freed
      = w.freed;
}

-- the committed image of a page
abbrev pub shown_by : State → ℕ → List SlotParts
shown_by s page = shown_of (s.slots page) (s.fields page) s.graph s.freed page

-- a state that a reopening of this world may find: what is committed or, where a commit or a sweep is in doubt, also
-- the same with it done
pub record IsStateOf (w : World) (s : State) : Type 0 where
  pub commits_found : ℕ
  pub names_found : List NameParts
  pub may : MayReopen w w.doubt commits_found names_found
  pub is : s ≡ state_of (reopened w commits_found names_found)
