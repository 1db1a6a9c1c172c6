use Rattle.std.proofs.Common.{◌≡◌, map, take}
use Rattle.std.specs.List.{All}
use Rattle.object_graph.specs.NameParts.{IsName}
use Rattle.object_graph.specs.ObjectParts.{ObjectParts}
use Rattle.object_graph.proofs.reach.names_of.Given as goal

abbrev pub invariant-names : goal.invariant-names
invariant-names l = (l.names.items ≡ map (λ (o : ObjectParts). o.name) (take l.object-index l.objects)) × All IsName l.names.items
