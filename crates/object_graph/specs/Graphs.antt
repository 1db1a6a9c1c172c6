-- Graphs of objects, paths in them, and their changes.
use Rattle.std.specs.Prelude.{◌≡◌, ℕ, Bool, false, ◌&&◌, ◌==◌, Option, Some, None, List, [], ◌∷◌, IsTrue, find, filter, replicate, slice_set, if◌then◌else◌, length}
use Rattle.std.specs.List.{list_any, IsDistinct}
use Rattle.std.specs.Option.{option_map_or}
use Rattle.object_graph.specs.NameParts.{NameParts}
use Rattle.object_graph.specs.Names.{name_eq, root_name}
use Rattle.object_graph.specs.ObjectParts.{ObjectParts}
use Rattle.object_graph.specs.declared.names.TheConstants.{OBJECT_FIELDS}

-- how many references an object of the plain graph has
abbrev pub object_fields : ℕ
object_fields = OBJECT_FIELDS

-- an object as it is made, with so many references
abbrev pub fresh_object : ℕ → NameParts → ObjectParts
fresh_object fields name = record { name = name; number = 0; refs = replicate fields None }

-- an object with this number and no references
abbrev pub numbered_object : ℕ → NameParts → ℕ → ObjectParts
numbered_object fields name number = record (fresh_object fields name) { number = number }

-- the graph of a fresh store: the root alone
abbrev pub fresh_graph : List ObjectParts
fresh_graph = fresh_object object_fields root_name ∷ []

-- the object of this name
abbrev pub object_named : List ObjectParts → NameParts → Option ObjectParts
object_named graph name = find (λ o. name_eq o.name name) graph

-- the graph has an object of this name
abbrev pub has_object : List ObjectParts → NameParts → Bool
has_object graph name = list_any (λ o. name_eq o.name name) graph

-- two objects have one name
abbrev pub has_same_name : ObjectParts → ObjectParts → Bool
has_same_name a b = name_eq a.name b.name

-- each name at most once
abbrev pub HasEachNameOnce : List ObjectParts → Type 0
HasEachNameOnce graph = IsDistinct has_same_name graph

-- how many references the object of this name has: 0 where there is none
abbrev pub fields_in : List ObjectParts → NameParts → ℕ
fields_in graph name = option_map_or (λ (o : ObjectParts). length o.refs) (object_named graph name) 0

-- a list of names has this one
abbrev pub has_name : List NameParts → NameParts → Bool
has_name names name = list_any (λ n. name_eq n name) names

-- the reference is to this name
abbrev pub is_to : NameParts → Option NameParts → Bool
is_to name None = false
is_to name (Some target) = name_eq target name

-- an object of the first name refers to the second
abbrev pub refers : List ObjectParts → NameParts → NameParts → Bool
refers graph from to = list_any (λ o. name_eq o.name from && list_any (is_to to) o.refs) graph

-- a path in the graph: each name is one of the graph, and each after the first is a reference of the object before it
abbrev pub IsPath : List ObjectParts → NameParts → List NameParts → NameParts → Type 0
IsPath graph first [] last = (first ≡ last) × IsTrue (has_object graph first)
IsPath graph first (next ∷ rest) last = IsTrue (refers graph first next) × IsTrue (has_object graph first)
    × IsPath graph next rest last

-- the last name is on a path from the first
abbrev pub Leads : List ObjectParts → NameParts → NameParts → Type 0
Leads graph first last = (rest : List NameParts) × IsPath graph first rest last

-- the name is on a path from one of the starts
abbrev pub IsReachedFrom : List ObjectParts → List NameParts → NameParts → Type 0
IsReachedFrom graph starts name = (start : NameParts) × IsTrue (has_name starts start) × Leads graph start name

-- the objects at a place
abbrev pub is_at : ℕ → ℕ → NameParts → Bool
is_at page slot name = (name.page == page) && (name.slot == slot)

abbrev pub objects_at : List ObjectParts → ℕ → ℕ → List ObjectParts
objects_at graph page slot = filter (λ o. is_at page slot o.name) graph

-- an object, with this number if it has this name
abbrev pub with_number : NameParts → ℕ → ObjectParts → ObjectParts
with_number name number o = if name_eq o.name name then record o { number = number } else o

-- an object, with this reference if it has this name
abbrev pub with_ref : NameParts → ℕ → Option NameParts → ObjectParts → ObjectParts
with_ref name field target o = if name_eq o.name name then record o { refs = slice_set o.refs field target } else o
