-- Names and paths.
use Rattle.std.proofs.Common.{◌≡◌, ℕ, Bool, true, ◌&&◌, ◌||◌, ◌==◌, not, List, [], ◌∷◌, ◌++◌, Option, Some, None, refl, sym, subst, ap, ◌∙◌, inl, inr}
use Rattle.std.specs.List.{list_any, list_all}
use Rattle.std.proofs.lemmas.Bool.{and_parts, and_from, or_cases, eqb-true, eq-eqb, not-true}
use Rattle.object_graph.specs.NameParts.{NameParts}
use Rattle.object_graph.specs.Names.{name_eq}
use Rattle.object_graph.specs.ObjectParts.{ObjectParts}
use Rattle.object_graph.specs.Graphs.{has_object, has_name, is_to, refers, IsPath, IsReachedFrom}
use Rattle.object_graph.proofs.Members.{In, any_in, in_any, all_in}

abbrev pub name_of : ℕ → ℕ → ℕ → NameParts
name_of page slot generation = record { page = page; slot = slot; generation = generation }

pub name_eq_same : (a b : NameParts) → name_eq a b ≡ true → a ≡ b
name_eq_same a b h =
    let s = and_parts (a.page == b.page) ((a.slot == b.slot) && (a.generation == b.generation)) h in
    let t = and_parts (a.slot == b.slot) (a.generation == b.generation) s.1 in
    let p = eqb-true a.page b.page s.0 in
    let q = eqb-true a.slot b.slot t.0 in
    let r = eqb-true a.generation b.generation t.1 in
    ap (λ n. name_of n a.slot a.generation) p ∙ (ap (λ n. name_of b.page n a.generation) q ∙ ap (λ n. name_of b.page b.slot n) r)

pub name_eq_refl : (a : NameParts) → name_eq a a ≡ true
name_eq_refl a =
    and_from (a.page == a.page) ((a.slot == a.slot) && (a.generation == a.generation)) (eq-eqb a.page a.page refl)
    (and_from (a.slot == a.slot) (a.generation == a.generation) (eq-eqb a.slot a.slot refl) (eq-eqb a.generation a.generation refl))

pub has_name_in : (names : List NameParts) (n : NameParts) → has_name names n ≡ true → In n names
has_name_in [] n h = cc
has_name_in (m ∷ ms) n h = elim (or_cases (name_eq m n) (has_name ms n) h) [
  | inl e ↦ inl (sym (name_eq_same m n e))
  | inr e ↦ inr (has_name_in ms n e)
]

pub in_has_name : (names : List NameParts) (n : NameParts) → In n names → has_name names n ≡ true
in_has_name names n m = in_any (λ k. name_eq k n) names n m (name_eq_refl n)

-- an object of the graph with this name
pub has_object_in : (graph : List ObjectParts) (n : NameParts) → has_object graph n ≡ true → (o : ObjectParts) × In o graph × (o.name ≡ n)
has_object_in graph n h =
    let r = any_in (λ o. name_eq o.name n) graph h in
    (r.0, r.1, name_eq_same r.0.name n r.2)

pub in_has_object : (graph : List ObjectParts) (o : ObjectParts) → In o graph → has_object graph o.name ≡ true
in_has_object graph o m = in_any (λ p. name_eq p.name o.name) graph o m (name_eq_refl o.name)

pub is_to_same : (n : NameParts) (r : Option NameParts) → is_to n r ≡ true → r ≡ Some n
is_to_same n None h = cc
is_to_same n (Some m) h = ap (λ k. Some k) (name_eq_same m n h)

-- a path is one step longer
pub path_more : (graph : List ObjectParts) (first : NameParts) (rest : List NameParts) (last target : NameParts)
    → IsPath graph first rest last → refers graph last target ≡ true → has_object graph target ≡ true
    → IsPath graph first (rest ++ target ∷ []) target
path_more graph first [] last target p r t =
    (subst (λ n. refers graph n target ≡ true) (sym p.0) r, p.1, (refl, t))
path_more graph first (n ∷ ns) last target p r t = (p.0, p.1, path_more graph n ns last target p.2 r t)

pub reached_more : (graph : List ObjectParts) (starts : List NameParts) (last target : NameParts)
    → IsReachedFrom graph starts last → refers graph last target ≡ true → has_object graph target ≡ true
    → IsReachedFrom graph starts target
reached_more graph starts last target h r t =
    (h.0, h.1, (h.2.0 ++ target ∷ [], path_more graph h.0 h.2.0 last target h.2.1 r t))

-- the target of a reference is in the set, or is no object of the graph
abbrev pub is_kept_target : List ObjectParts → List NameParts → Option NameParts → Bool
is_kept_target graph set None = true
is_kept_target graph set (Some target) = has_name set target || not (has_object graph target)

abbrev pub is_kept_object : List ObjectParts → List NameParts → ObjectParts → Bool
is_kept_object graph set o = not (has_name set o.name) || list_all (is_kept_target graph set) o.refs

-- no reference leads out of the set
abbrev pub is_closed : List ObjectParts → List NameParts → Bool
is_closed graph set = list_all (is_kept_object graph set) graph

pub closed_step : (graph : List ObjectParts) (set : List NameParts) (first target : NameParts)
    → is_closed graph set ≡ true → has_name set first ≡ true → refers graph first target ≡ true → has_object graph target ≡ true
    → has_name set target ≡ true
closed_step graph set first target closed s r t =
    let found = any_in (λ o. name_eq o.name first && list_any (is_to target) o.refs) graph r in
    let o : ObjectParts = found.0 in
    let both = and_parts (name_eq o.name first) (list_any (is_to target) o.refs) found.2 in
    let same = name_eq_same o.name first both.0 in
    let kept = all_in (is_kept_object graph set) graph o closed found.1 in
    let ref = any_in (is_to target) o.refs both.1 in
    let is = is_to_same target ref.0 ref.2 in
    let inside : has_name set o.name ≡ true = subst (λ n. has_name set n ≡ true) (sym same) s in
    elim (or_cases (not (has_name set o.name)) (list_all (is_kept_target graph set) o.refs) kept) [
      | inl e ↦ let f = not-true (has_name set o.name) e in cc
      | inr e ↦
          let k : is_kept_target graph set ref.0 ≡ true = all_in (is_kept_target graph set) o.refs ref.0 e ref.1 in
          let k2 : is_kept_target graph set (Some target) ≡ true = subst (λ x. is_kept_target graph set x ≡ true) is k in
          elim (or_cases (has_name set target) (not (has_object graph target)) k2) [
            | inl a ↦ a
            | inr b ↦ let f = not-true (has_object graph target) b in cc
          ]
    ]

pub path_first : (graph : List ObjectParts) (first : NameParts) (rest : List NameParts) (last : NameParts)
    → IsPath graph first rest last → has_object graph first ≡ true
path_first graph first [] last p = p.1
path_first graph first (n ∷ ns) last p = p.1

-- a path that starts in a closed set ends in it
pub closed_path : (graph : List ObjectParts) (set : List NameParts) (first : NameParts) (rest : List NameParts) (last : NameParts)
    → is_closed graph set ≡ true → has_name set first ≡ true → IsPath graph first rest last → has_name set last ≡ true
closed_path graph set first [] last closed s p = subst (λ n. has_name set n ≡ true) p.0 s
closed_path graph set first (n ∷ ns) last closed s p =
    closed_path graph set n ns last closed (closed_step graph set first n closed s p.0 (path_first graph n ns last p.2)) p.2
