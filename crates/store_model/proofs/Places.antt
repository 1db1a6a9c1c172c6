-- The names of a place count up, also after a commit.
use Rattle.std.proofs.Common.{◌≡◌, ℕ, suc, ◌+◌, ◌<◌, Bool, true, false, ◌==◌, cond, List, [], ◌∷◌, ◌++◌, map, length, refl, sym, subst, ap, ◌∙◌, ◌⊎◌, inl, inr, arith, length-append, append-nil, one-add, add-one}
use Rattle.std.specs.List.{filter, AllByRecursion}
use Rattle.std.proofs.lemmas.Bool.{and_parts, eqb-true}
use Rattle.std.proofs.lemmas.List.Elements.{filter-append}
use Rattle.std.proofs.lemmas.List.{map-append, length-map}
use Rattle.object_graph.specs.NameParts.{NameParts}
use Rattle.object_graph.specs.ObjectParts.{ObjectParts}
use Rattle.object_graph.specs.Graphs.{is_at, objects_at}
use Rattle.object_graph.specs.Slots.{below}
use Rattle.store_model.specs.Worlds.{World, Transaction, view, with_writes, new_object}
use Rattle.store_model.specs.Lawful.{IsOwn, IsLawfulTransaction, CountsUp, generations_at}
use Rattle.object_graph.proofs.Members.{In, in_filter, each_in}
use Rattle.store_model.proofs.Lists.{filter_same}
use Rattle.store_model.proofs.Reach.{name-with_writes}

pub filter_of_map : {A B : Type 0} (f : A → B) (p : B → Bool) (xs : List A) → filter p (map f xs) ≡ map f (filter (λ x. p (f x)) xs)
filter_of_map f p [] = refl
filter_of_map f p (x ∷ xs) = one f p x xs (filter_of_map f p xs) (p (f x))
  where
    one : {A B : Type 0} (f : A → B) (p : B → Bool) (x : A) (xs : List A) → filter p (map f xs) ≡ map f (filter (λ x. p (f x)) xs)
        → (b : Bool) → cond b (f x ∷ filter p (map f xs)) (filter p (map f xs)) ≡ map f (cond b (x ∷ filter (λ x. p (f x)) xs) (filter (λ x. p (f x)) xs))
    one f p x xs h true = ap (λ ys. f x ∷ ys) h
    one f p x xs h false = h

pub objects_at-map : (f : ObjectParts → ObjectParts) (os : List ObjectParts) (page slot : ℕ) → ((o : ObjectParts) → (f o).name ≡ o.name) → objects_at (map f os) page slot ≡ map f (objects_at os page slot)
objects_at-map f os page slot h =
    filter_of_map f (λ (o : ObjectParts). is_at page slot o.name) os
    ∙ ap (map f) (filter_same (λ (o : ObjectParts). is_at page slot (f o).name) (λ (o : ObjectParts). is_at page slot o.name) os (λ o. ap (is_at page slot) (h o)))

pub map_of_map : {A B C : Type 0} (f : A → B) (g : B → C) (xs : List A) → map g (map f xs) ≡ map (λ x. g (f x)) xs
map_of_map f g [] = refl
map_of_map f g (x ∷ xs) = ap (λ ys. g (f x) ∷ ys) (map_of_map f g xs)

abbrev pub generation_of : ObjectParts → ℕ
generation_of o = o.name.generation

-- writes leave the names of a place
pub generations-with_writes : (t : Transaction) (graph : List ObjectParts) (page slot : ℕ)
    → generations_at (map (with_writes t.writes) graph) page slot ≡ generations_at graph page slot
generations-with_writes t [] page slot = refl
generations-with_writes t (o ∷ os) page slot =
    one t o os page slot (generations-with_writes t os page slot) (with_writes t.writes o) (name-with_writes t.writes o)
  where
    by_test : (t : Transaction) (o : ObjectParts) (os : List ObjectParts) (page slot : ℕ)
        → generations_at (map (with_writes t.writes) os) page slot ≡ generations_at os page slot
        → (seen : ObjectParts) → seen.name ≡ o.name → (b : Bool)
        → map generation_of (cond b (seen ∷ objects_at (map (with_writes t.writes) os) page slot) (objects_at (map (with_writes t.writes) os) page slot))
        ≡ map generation_of (cond b (o ∷ objects_at os page slot) (objects_at os page slot))
    by_test t o os page slot h seen e true = ap (λ n. n.generation ∷ generations_at (map (with_writes t.writes) os) page slot) e ∙ ap (λ gs. o.name.generation ∷ gs) h
    by_test t o os page slot h seen e false = h

    one : (t : Transaction) (o : ObjectParts) (os : List ObjectParts) (page slot : ℕ)
        → generations_at (map (with_writes t.writes) os) page slot ≡ generations_at os page slot
        → (seen : ObjectParts) → seen.name ≡ o.name
        → map generation_of (cond (is_at page slot seen.name) (seen ∷ objects_at (map (with_writes t.writes) os) page slot) (objects_at (map (with_writes t.writes) os) page slot))
        ≡ generations_at (o ∷ os) page slot
    one t o os page slot h seen e =
        subst (λ b. map generation_of (cond b (seen ∷ objects_at (map (with_writes t.writes) os) page slot) (objects_at (map (with_writes t.writes) os) page slot)) ≡ generations_at (o ∷ os) page slot)
        (sym (ap (is_at page slot) e)) (by_test t o os page slot h seen e (is_at page slot o.name))

-- the own names of a place are none, or the next name there
pub own_at : (w : World) (t : Transaction) (page slot : ℕ) → AllByRecursion (IsOwn w.graph w.freed t) t.own → (names : List NameParts)
    → names ≡ filter (is_at page slot) t.own → length names < 2
    → (map (λ n. n.generation) names ≡ []) ⊎ (map (λ n. n.generation) names ≡ (1 + length (objects_at w.graph page slot)) ∷ [])
own_at w t page slot own [] e few = inl refl
own_at w t page slot own (n ∷ []) e few =
    let m : In n (filter (is_at page slot) t.own) = subst (λ ns. In n ns) e (inl refl) in
    let a = in_filter (is_at page slot) t.own n m in
    let b = and_parts (n.page == page) (n.slot == slot) a.1 in
    let p = eqb-true n.page page b.0 in
    let q = eqb-true n.slot slot b.1 in
    let is = each_in (IsOwn w.graph w.freed t) t.own n own a.0 in
    let g : n.generation ≡ 1 + length (objects_at w.graph n.page n.slot) = ap (λ (k : NameParts). k.generation) is.next in
    inr (ap (λ k. k ∷ []) (g ∙ (ap (λ k. 1 + length (objects_at w.graph k n.slot)) p ∙ ap (λ k. 1 + length (objects_at w.graph page k)) q)))
own_at w t page slot own (n ∷ m ∷ ns) e few = absurd (omega arith)

counted_more : (gs more : List ℕ) (k : ℕ) → gs ≡ map suc (below k) → length gs ≡ k
    → (more ≡ []) ⊎ (more ≡ (1 + k) ∷ []) → gs ++ more ≡ map suc (below (length (gs ++ more)))
counted_more gs more k h l (inl e) = rw e (rw append-nil (rw l h))
counted_more gs more k h l (inr e) =
    rw e (rw length-append (rw l (rw add-one (rw map-append (rw one-add (ap (λ xs. xs ++ suc k ∷ []) h))))))

-- a commit leaves the names of each place counting up
pub commit_counts_up : (w : World) (t : Transaction) → CountsUp w.graph → IsLawfulTransaction w.graph w.freed t → CountsUp (view w t)
commit_counts_up w t h lawful = λ page slot.
    let names : List NameParts = filter (is_at page slot) t.own in
    let k : ℕ = length (objects_at w.graph page slot) in
    let news : List ObjectParts = map (new_object w) t.own in
    let a : generations_at (view w t) page slot ≡ generations_at (w.graph ++ news) page slot =
    generations-with_writes t (w.graph ++ news) page slot in
    let b : generations_at (w.graph ++ news) page slot ≡ generations_at w.graph page slot ++ generations_at news page slot =
    ap (map generation_of) (filter-append (λ o. is_at page slot o.name) w.graph news)
    ∙ map-append generation_of (objects_at w.graph page slot) (objects_at news page slot) in
    let c : generations_at news page slot ≡ map (λ n. n.generation) names =
    ap (map generation_of) (filter_of_map (new_object w) (λ o. is_at page slot o.name) t.own)
    ∙ map_of_map (new_object w) generation_of names in
    let d : generations_at (view w t) page slot ≡ generations_at w.graph page slot ++ map (λ n. n.generation) names =
    a ∙ (b ∙ ap (λ gs. generations_at w.graph page slot ++ gs) c) in
    let l : length (objects_at (view w t) page slot) ≡ length (generations_at w.graph page slot ++ map (λ n. n.generation) names) =
    sym (length-map (objects_at (view w t) page slot) generation_of) ∙ ap length d in
    d ∙ (counted_more (generations_at w.graph page slot) (map (λ n. n.generation) names) k (h page slot)
    (length-map (objects_at w.graph page slot) generation_of)
    (own_at w t page slot lawful.own names refl (lawful.one_at_each_place page slot))
    ∙ ap (λ n. map suc (below n)) (sym l))
