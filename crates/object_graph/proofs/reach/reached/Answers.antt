use Rattle.std.proofs.Common.{rules, ◌≡◌, List, map, sym, subst, ap, ◌∙◌, true}
use Rattle.std.specs.Bool.{IsTrue}
use Rattle.std.specs.List.Sorted.{IsPermutation, IsNonDecreasingBy}
use Rattle.std.proofs.lemmas.List.Sorted.{IsNonDecreasingBy-from_sort_by_key}
use Rattle.object_graph.specs.NameParts.{NameParts}
use Rattle.object_graph.specs.Names.{number_of}
use Rattle.object_graph.specs.Graphs.{has_name, has_object, IsReachedFrom}
use Rattle.object_graph.specs.Walks.{AreReached}
use Rattle.object_graph.specs.ObjectParts.{ObjectParts}
use Rattle.object_graph.proofs.Walks.{has_name-sorted, ascend}
use Rattle.object_graph.proofs.reach.reached.Goals as goal

exact_at : (graph objects found : List ObjectParts) (starts before names : List NameParts) → objects ≡ graph → AreReached objects starts found
    → before ≡ map (λ (o : ObjectParts). o.name) found → IsPermutation before names
    → (n : NameParts) → (IsTrue (has_name names n) → IsReachedFrom graph starts n) × (IsReachedFrom graph starts n → IsTrue (has_name names n))
exact_at graph objects found starts before names same r is p n =
    let e : has_name names n ≡ has_object found n = has_name-sorted found names (subst (λ (xs : List NameParts). IsPermutation xs names) is p) n in
    let x = subst (λ (g : List ObjectParts). (has_object found n ≡ true → IsReachedFrom g starts n) × (IsReachedFrom g starts n → has_object found n ≡ true)) same (r.exact n) in
    (λ h. x.0 (sym e ∙ h), λ h. e ∙ x.1 h)

pub returns-clause-exact : goal.returns-clause-exact
returns-clause-exact c =
    exact_at c.args.graph.now c.objects.result.now c.in_ok-found.found.items c.args.starts.now c.in_ok-names.names.items c.sort_unstable_by_key.new.self.items
    c.objects.ensures.list c.in_ok-found.ensures (c.in_ok-names.ensures.names ∙ ap (map (λ (o : ObjectParts). o.name)) c.deref.ensures.value) c.sort_unstable_by_key.ensures.permutation

pub returns-clause-ascending : goal.returns-clause-ascending
returns-clause-ascending c =
    let sorted : IsNonDecreasingBy number_of c.sort_unstable_by_key.new.self.items =
    IsNonDecreasingBy-from_sort_by_key number_of _ c.sort_unstable_by_key.ensures.sorted (λ a r q k. search rules) in
    ascend c.in_ok-found.found.items c.in_ok-names.names.items c.sort_unstable_by_key.new.self.items c.in_ok-found.ensures.once
    (c.in_ok-names.ensures.names ∙ ap (map (λ (o : ObjectParts). o.name)) c.deref.ensures.value) c.in_ok-names.ensures.each c.sort_unstable_by_key.ensures.permutation sorted
