-- What contracts see of an object.
use Rattle.std.specs.Prelude.{ℕ, List, Option}
use Rattle.object_graph.specs.NameParts.{NameParts}

-- its name, its number and its references
pub record ObjectParts : Type 0 where
  pub name : NameParts
  pub number : ℕ
  pub refs : List (Option NameParts)
