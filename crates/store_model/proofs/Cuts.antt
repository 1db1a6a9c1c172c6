-- What was out of reach stays so.
use Rattle.std.proofs.Common.{◌≡◌, ℕ, zero, suc, ◌+◌, ◌<◌, true, false, ◌&&◌, ◌==◌, List, [], ◌∷◌, map, length, Some, refl, sym, subst, ap, ◌∙◌, ◌⊎◌, inl, inr, arith}
use Rattle.std.specs.List.{list_any}
use Rattle.std.proofs.lemmas.Bool.{and_parts, and_from, cases_Bool, eq-eqb}
use Rattle.object_graph.specs.NameParts.{NameParts}
use Rattle.object_graph.specs.Names.{name_eq}
use Rattle.object_graph.specs.ObjectParts.{ObjectParts}
use Rattle.object_graph.specs.Graphs.{has_object, is_to, is_at, refers, objects_at, IsReachedFrom}
use Rattle.object_graph.specs.Slots.{below}
use Rattle.store_model.specs.Worlds.{World, Transaction, starts, view, IsReached, new_object, with_writes, fields_of}
use Rattle.store_model.specs.Causes.{new_name_at}
use Rattle.store_model.specs.Lawful.{IsKnownWrite, IsOwn, IsLawfulTransaction, CountsUp, generations_at}
use Rattle.object_graph.proofs.Members.{In, any_in, in_any, filter_in, in_map, map_in, in_append, each_in}
use Rattle.object_graph.proofs.Paths.{has_name_in, has_object_in, is_to_same, name_eq_same, name_eq_refl}
use Rattle.store_model.proofs.Reach.{IsSafeView, IsOwnOrReached, commit_adds_own, view_object, name-with_writes, refs-with_writes, known_name, target_known, none_only}

pub below_bound : (n j : ℕ) → In j (below n) → j < n
below_bound zero j m = absurd m
below_bound (suc n) j m = elim (in_append (below n) (n ∷ []) j m) [
  | inl a ↦ let h = below_bound n j a in omega arith
  | inr b ↦ elim b [ inl e ↦ omega arith | inr z ↦ absurd z ]
]

-- the next name of a place is new
pub next_name_is_new : (w : World) (name : NameParts) → CountsUp w.graph → name ≡ new_name_at w.graph name.page name.slot → has_object w.graph name ≡ false
next_name_is_new w name counts is = elim (cases_Bool (has_object w.graph name)) [
  | inr f ↦ f
  | inl t ↦
      let found = has_object_in w.graph name t in
      let o : ObjectParts = found.0 in
      let at : is_at name.page name.slot o.name ≡ true =
      subst (λ (n : NameParts). is_at name.page name.slot n ≡ true) (sym found.2)
      (and_from (name.page == name.page) (name.slot == name.slot) (eq-eqb name.page name.page refl) (eq-eqb name.slot name.slot refl)) in
      let k : ℕ = length (objects_at w.graph name.page name.slot) in
      let there : In o (objects_at w.graph name.page name.slot) = filter_in (λ o. is_at name.page name.slot o.name) w.graph o found.1 at in
      let g : In o.name.generation (generations_at w.graph name.page name.slot) =
      map_in (λ (x : ObjectParts). x.name.generation) (objects_at w.graph name.page name.slot) o there in
      let h : In o.name.generation (map suc (below k)) = subst (λ gs. In o.name.generation gs) (counts name.page name.slot) g in
      let s = in_map suc (below k) o.name.generation h in
      let j : s.0 < k = below_bound k s.0 s.1 in
      let e1 : o.name.generation ≡ suc s.0 = s.2 in
      let e2 : o.name.generation ≡ name.generation = ap (λ (n : NameParts). n.generation) found.2 in
      let e3 : name.generation ≡ 1 + k = ap (λ (n : NameParts). n.generation) is in
      absurd (omega arith)
]

pub safe_view : (w : World) (t : Transaction) → CountsUp w.graph → IsLawfulTransaction w.graph w.freed t → IsSafeView w t
safe_view w t counts lawful = record {
  known = lawful.known;
  writes = lawful.writes;
  own_are_new = λ name own.
      next_name_is_new w name counts (each_in (IsOwn w.graph w.freed t) t.own name lawful.own (has_name_in t.own name own)).next;
}

-- what refers is an object of the graph
pub refers_from : (graph : List ObjectParts) (name target : NameParts) → refers graph name target ≡ true → has_object graph name ≡ true
refers_from graph name target r =
    let a = any_in (λ o. name_eq o.name name && list_any (is_to target) o.refs) graph r in
    in_any (λ o. name_eq o.name name) graph a.0 a.1 (and_parts (name_eq a.0.name name) (list_any (is_to target) a.0.refs) a.2).0

-- a commit leaves out of reach what was out of reach
pub commit_keeps_unreached : (w : World) (t : Transaction) (name : NameParts) → IsSafeView w t → has_object w.graph name ≡ true
    → ¬ IsReached w name → ¬ IsReachedFrom (view w t) (starts w) name
commit_keeps_unreached w t name safe there unreached = λ reached.
    elim (commit_adds_own w t name safe reached) [
      | inl own ↦ let f = safe.own_are_new name own in let b : has_object w.graph name ≡ true = there in cc
      | inr r ↦ unreached r
    ]

-- a reference of the view is one of the graph, or its target is known
pub view_refers : (w : World) (t : Transaction) (name target : NameParts) → IsSafeView w t → refers (view w t) name target ≡ true
    → (refers w.graph name target ≡ true) ⊎ IsOwnOrReached w t target
view_refers w t name target safe r =
    let a = any_in (λ o. name_eq o.name name && list_any (is_to target) o.refs) (view w t) r in
    let seen : ObjectParts = a.0 in
    let b = and_parts (name_eq seen.name name) (list_any (is_to target) seen.refs) a.2 in
    let ref = any_in (is_to target) seen.refs b.1 in
    let m : In (Some target) seen.refs = subst (λ x. In x seen.refs) (is_to_same target ref.0 ref.2) ref.1 in
    let u = view_object w t seen a.1 in
    let o : ObjectParts = u.0 in
    let k : In (Some target) (with_writes t.writes o).refs = subst (λ (x : ObjectParts). In (Some target) x.refs) u.1.1 m in
    let named : o.name ≡ name =
    sym (name-with_writes t.writes o) ∙ (ap (λ (x : ObjectParts). x.name) (sym u.1.1) ∙ name_eq_same seen.name name b.0) in
    elim (refs-with_writes t.writes o target k) [
      | inl kept ↦ elim u.1.0 [
        | inl g ↦ inl (subst (λ n. refers w.graph n target ≡ true) named
            (in_any (λ p. name_eq p.name o.name && list_any (is_to target) p.refs) w.graph o g
            (and_from (name_eq o.name o.name) (list_any (is_to target) o.refs) (name_eq_refl o.name)
            (in_any (is_to target) o.refs (Some target) kept (name_eq_refl target)))))
        | inr n ↦
            let z : In (Some target) (new_object w n.0).refs = subst (λ (x : ObjectParts). In (Some target) x.refs) n.2 kept in
            absurd (none_only (fields_of w n.0.page) target z)
      ]
      | inr wrote ↦
          inr (known_name w t target safe
          (target_known t wrote.0 target (each_in (IsKnownWrite t) t.writes wrote.0 safe.writes wrote.1) wrote.2))
    ]
