-- A walk over a graph: objects are taken from those left over to those whose references are still to be followed.
use Rattle.std.specs.Prelude.{◌≡◌, true, false, Bool, List, ◌++◌, ◌⊎◌, ◌↔◌, IsTrue}
use Rattle.std.specs.List.Sorted.{IsPermutation}
use Rattle.object_graph.specs.NameParts.{NameParts}
use Rattle.object_graph.specs.Graphs.{has_object, HasEachNameOnce, IsReachedFrom}
use Rattle.object_graph.specs.ObjectParts.{ObjectParts}

-- the objects of the wanted names were taken from `left` over to `todo`, and no others
pub record AreTakenOver (wanted : NameParts → Bool) (todo left todo' left' : List ObjectParts) : Type 0 where
  pub same : IsPermutation (todo ++ left) (todo' ++ left')
  pub gone : HasEachNameOnce (todo ++ left) → (n : NameParts) → wanted n ≡ true → has_object left' n ≡ false
  pub kept : (n : NameParts) → has_object left n ≡ false → has_object left' n ≡ false
  pub only : (n : NameParts) → has_object todo' n ≡ true → (has_object todo n ≡ true) ⊎ (wanted n ≡ true)

-- these are the reached objects of a graph, each once
pub record AreReached (graph : List ObjectParts) (starts : List NameParts) (found : List ObjectParts) : Type 0 where
  pub once : HasEachNameOnce found
  pub exact : (n : NameParts) → IsTrue (has_object found n) ↔ IsReachedFrom graph starts n
