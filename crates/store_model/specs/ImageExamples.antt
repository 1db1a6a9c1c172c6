-- The images of a small store, the world that they open to, and a history from there.
use Rattle.std.specs.Prelude.{ℕ, ◌-◌, true, false, Option, Some, None, List, [], ◌∷◌, ◌++◌, length, replicate}
use Rattle.object_graph.specs.NameParts.{NameParts}
use Rattle.object_graph.specs.SlotParts.{SlotParts}
use Rattle.object_graph.specs.ObjectParts.{ObjectParts}
use Rattle.object_graph.specs.declared.calls.Call.TheVariants.{Begin, Get, New, Commit}
use Rattle.object_graph.specs.declared.calls.Reply.TheVariants.{Done, Ref, Made, Committed}
use Rattle.object_graph.specs.Graphs.{object_fields, fresh_object}
use Rattle.store_model.specs.Worlds.{World, Event, no_doubt, slots_of, fresh_world}
use Rattle.store_model.specs.Examples.{name_of, root, said}

-- a free slot in which there were so many objects, and one in use
abbrev pub free_slot : ℕ → SlotParts
free_slot generation =
    record { in_use = false; generation = generation; number = 0; refs = replicate object_fields None }

abbrev pub used_slot : ℕ → ℕ → List (Option NameParts) → SlotParts
used_slot generation number refs = record { in_use = true; generation = generation; number = number; refs = refs }

-- a page with these first slots, and no more
abbrev pub example_page : List SlotParts → List SlotParts
example_page slots = slots ++ replicate (slots_of (fresh_world 2) 0 - length slots) (free_slot 0)

-- the root refers to 1.0.2, whose place had another object before; 1.1.1 was freed, and 1.2.1 is out of reach
abbrev pub to_second : List (Option NameParts)
to_second = None ∷ Some (name_of 1 0 2) ∷ None ∷ None ∷ []

abbrev pub no_refs : List (Option NameParts)
no_refs = replicate object_fields None

abbrev pub small_images : List (List SlotParts)
small_images = example_page (used_slot 1 5 to_second ∷ [])
    ∷ example_page (used_slot 2 7 no_refs ∷ free_slot 1 ∷ used_slot 1 9 no_refs ∷ []) ∷ []

abbrev pub object : NameParts → ℕ → List (Option NameParts) → ObjectParts
object name number refs = record { name = name; number = number; refs = refs }

abbrev pub blank : NameParts → ObjectParts
blank name = fresh_object object_fields name

abbrev pub small_world : World
small_world = record {
  pages = 2;
  graph = object root 5 to_second ∷ blank (name_of 1 0 1) ∷ object (name_of 1 0 2) 7 no_refs ∷ blank (name_of 1 1 1)
      ∷ object (name_of 1 2 1) 9 no_refs ∷ [];
  commits = 3;
  freed = name_of 1 0 1 ∷ name_of 1 1 1 ∷ [];
  last_cut = 0;
  transactions = [];
  cut = None;
  broken = None;
  doubt = no_doubt;
}

-- the slot that is free is taken, under its next generation
abbrev pub from_there : List Event
from_there =
    said (Begin 1) Done
    ∷ said (Get 1 root 1) (Ref (Some (name_of 1 0 2)))
    ∷ said (New 1 1) (Made (name_of 1 1 2))
    ∷ said (Commit 1) (Committed 4)
    ∷ []
