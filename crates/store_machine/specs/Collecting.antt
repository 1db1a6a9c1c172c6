-- A line of several calls on its way.
use Rattle.std.specs.Prelude.{ℕ, List, [], ◌++◌, drop}
use Rattle.object_graph.specs.declared.calls.Call.{Call}
use Rattle.store_model.specs.Worlds.{Event}
use Rattle.store_model.specs.Histories.{Makes, Starts}

-- the history has the events of so many of these calls, the first ones, and none of them was refused: with the events
-- of the others it has those of all
pub record HasMade (calls : List Call) (count : ℕ) (history : List Event) : Type 0 where
  pub makes : (more : List Event) → Makes (drop count calls) more [] → Makes calls (history ++ more) []
  pub starts : (more : List Event) → Starts (drop count calls) more → Starts calls (history ++ more)
