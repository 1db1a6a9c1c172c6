use Rattle.std.proofs.Common.{ℕ, List, ◌≡◌, ◌<◌, ◌++◌, ◌∷◌, [], false, length, sym, subst, ap, ◌∙◌}
use Rattle.std.specs.List.{All, remove, slice_index_or}
use Rattle.std.proofs.lemmas.List.Folds.{list_any_none}
use Rattle.object_graph.specs.NameParts.{NameParts}
use Rattle.object_graph.specs.Names.{name_eq}
use Rattle.object_graph.specs.Graphs.{has_object}
use Rattle.object_graph.specs.Walks.{AreTakenOver}
use Rattle.object_graph.specs.ObjectParts.{ObjectParts}
use Rattle.object_graph.proofs.Paths.{name_eq_same}
use Rattle.object_graph.proofs.Walks.{taken_none, taken_one}
use Rattle.object_graph.proofs.reach.take.Goals as goal

-- no object has the name
nothing_there : (name : NameParts) (todo left : List ObjectParts) → All (λ o. name_eq o.name name ≡ false) left → AreTakenOver (name_eq name) todo left todo left
nothing_there name todo left none =
    taken_none (name_eq name) todo left (λ n w. subst (λ k. has_object left k ≡ false) (name_eq_same name n w) (list_any_none (λ o. name_eq o.name name) left none))

taken_there : (name : NameParts) (todo left todo' left' : List ObjectParts) (i : ℕ) (o : ObjectParts) → i < length left → o ≡ slice_index_or left i o
    → ((d : ObjectParts) → (slice_index_or left i d).name ≡ name) → todo' ≡ todo ++ o ∷ [] → left' ≡ remove left i → AreTakenOver (name_eq name) todo left todo' left'
taken_there name todo left todo' left' i o lt is named grown fewer =
    subst (λ xs. AreTakenOver (name_eq name) todo left xs left') (sym grown)
    (subst (λ xs. AreTakenOver (name_eq name) todo left (todo ++ o ∷ []) xs) (sym fewer)
    (taken_one name todo left i o lt is (ap (λ (x : ObjectParts). x.name) is ∙ named o)))

pub returns-in_ok-push-in-Some : goal.returns-in_ok-push-in-Some
returns-in_ok-push-in-Some c =
    let left = c.args.left.now.items in
    let there : (c.in-Some.place < length left) × ((d : ObjectParts) → (slice_index_or left c.in-Some.place d).name ≡ c.args.name.now) =
    subst (λ (xs : List ObjectParts). (c.in-Some.place < length xs) × ((d : ObjectParts) → (slice_index_or xs c.in-Some.place d).name ≡ c.args.name.now)) c.deref.ensures.value c.in-Some.ensures.some in
    taken_there c.args.name.now c.args.todo.now.items left c.push.new.self.items c.remove-object.new.self.items c.in-Some.place c.remove-object.result
    there.0 c.remove-object.ensures.value there.1 c.in_ok-push-in-Some.ensures.items c.remove-object.ensures.items

pub returns-in-None : goal.returns-in-None
returns-in-None c =
    nothing_there c.args.name.now c.args.todo.now.items c.args.left.now.items
    (subst (λ (xs : List ObjectParts). All (λ o. name_eq o.name c.args.name.now ≡ false) xs) c.deref.ensures.value c.in-None.ensures.none)
