-- The name that each place has, and what a cut's opening keeps.
use Rattle.std.specs.Prelude.{◌≡◌, ℕ, ◌+◌, ◌≤◌, List, [], ◌∷◌, length}
use Rattle.object_graph.specs.NameParts.{NameParts}
use Rattle.object_graph.specs.ObjectParts.{ObjectParts}
use Rattle.object_graph.specs.Graphs.{objects_at}
use Rattle.store_model.specs.Worlds.{World, Opening}
use Rattle.store_model.specs.Images.{unfreed_at}
use Rattle.store_model.specs.Lawful.{KeepsLost}

-- the generation of the name that a place has: of its unfreed object, or of the object that is made there next
abbrev pub generation_with : List ObjectParts → ℕ → ℕ
generation_with [] names = 1 + names
generation_with (o ∷ os) names = o.name.generation

abbrev pub generation_at : List ObjectParts → List NameParts → ℕ → ℕ → ℕ
generation_at graph freed page slot = generation_with (unfreed_at graph freed page slot)
    (length (objects_at graph page slot))

-- until the first sweep each place also has the name that it had as the cut opened
pub record KeepsOpening (w : World) (opening : Opening) : Type 0 where
  pub lost : KeepsLost w opening
  pub commits : opening.commits ≤ w.commits
  pub names : (page slot : ℕ)
      → generation_at w.graph w.freed page slot ≡ generation_at opening.graph opening.freed page slot
