use Rattle.std.proofs.Common.{◌≡◌, Bool, true, false, ◌||◌, cond, Option, Some, List, [], ◌∷◌, refl, sym, ap, ◌∙◌}
use Rattle.std.specs.List.{find, list_any}
use Rattle.std.specs.Option.{is_some}
use Rattle.object_graph.specs.ObjectParts.{ObjectParts}
use Rattle.object_graph.specs.Names.{name_eq}
use Rattle.transactions.proofs.tests.plain.apply.Goals as goal

-- what is found is there
found_there : (test : ObjectParts → Bool) (graph : List ObjectParts) → is_some (find test graph) ≡ list_any test graph
found_there test [] = refl
found_there test (o ∷ graph) = by (test o) (found_there test graph)
  where
    by : (b : Bool) → is_some (find test graph) ≡ list_any test graph → is_some (cond b (Some o) (find test graph)) ≡ (b || list_any test graph)
    by true rest = refl
    by false rest = rest

pub put-requires : goal.put-requires
put-requires c =
    sym (found_there (λ (o : ObjectParts). name_eq o.name c.in-Put.name) c.args.graph.now)
    ∙ (ap (λ (o : Option ObjectParts). is_some o) (sym c.object-in-Put.ensures) ∙ (sym c.is_some.ensures ∙ c.if-is_some.true))
