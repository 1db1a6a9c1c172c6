-- What a transaction's view leads to: what is reached in the graph, and the transaction's own objects.
use Rattle.std.proofs.Common.{◌≡◌, ℕ, zero, suc, Bool, true, false, ◌&&◌, cond, List, [], ◌∷◌, ◌++◌, map, Option, Some, None, replicate, refl, sym, subst, ap, ◌∙◌, ◌⊎◌, inl, inr}
use Rattle.std.specs.List.{list_any, AllByRecursion, slice_set}
use Rattle.std.specs.Bool.{IsTrue}
use Rattle.std.proofs.lemmas.Bool.{and_parts, and_from}
use Rattle.object_graph.specs.NameParts.{NameParts}
use Rattle.object_graph.specs.Names.{name_eq}
use Rattle.object_graph.specs.ObjectParts.{ObjectParts}
use Rattle.object_graph.specs.Graphs.{has_object, has_name, is_to, refers, IsPath, IsReachedFrom}
use Rattle.store_model.specs.Worlds.{World, Transaction, Write, link, assign, starts, view, with_writes, written_by, new_object, fields_of, IsReached, IsHeldBy}
use Rattle.store_model.specs.Causes.{has_page}
use Rattle.store_model.specs.Lawful.{IsKnownWrite, IsCovered, IsCoveredPath}
use Rattle.object_graph.proofs.Members.{In, any_in, in_any, in_map, in_append, each_in}
use Rattle.object_graph.proofs.Paths.{has_name_in, in_has_name, has_object_in, in_has_object, name_eq_same, name_eq_refl, is_to_same, reached_more, path_first}

-- ---- an object under writes

cond_name : (b : Bool) (x o : ObjectParts) → x.name ≡ o.name → (cond b x o).name ≡ o.name
cond_name true x o e = e
cond_name false x o e = refl

pub name-written_by : (write : Write) (o : ObjectParts) → (written_by write o).name ≡ o.name
name-written_by (link name field target) o = cond_name (name_eq o.name name) (record o { refs = slice_set o.refs field target }) o refl
name-written_by (assign name value) o = cond_name (name_eq o.name name) (record o { number = value }) o refl

pub name-with_writes : (writes : List Write) (o : ObjectParts) → (with_writes writes o).name ≡ o.name
name-with_writes [] o = refl
name-with_writes (write ∷ writes) o = name-written_by write (with_writes writes o) ∙ name-with_writes writes o

pub in_set : {A : Type 0} (xs : List A) (i : ℕ) (v x : A) → In x (slice_set xs i v) → In x xs ⊎ (x ≡ v)
in_set [] i v x m = absurd m
in_set (y ∷ ys) zero v x m = elim m [ inl e ↦ inr e | inr r ↦ inl (inr r) ]
in_set (y ∷ ys) (suc i) v x m = elim m [
  | inl e ↦ inl (inl e)
  | inr r ↦ elim (in_set ys i v x r) [ inl a ↦ inl (inr a) | inr b ↦ inr b ]
]

-- a write gives this target
abbrev pub IsTarget : NameParts → Write → Type 0
IsTarget target (link name field given) = given ≡ Some target
IsTarget target (assign name value) = ⊥

cond_refs : (b : Bool) (x o : ObjectParts) (P : Type 0) (r : Option NameParts) → (In r x.refs → In r o.refs ⊎ P) → In r (cond b x o).refs → In r o.refs ⊎ P
cond_refs true x o P r f m = f m
cond_refs false x o P r f m = inl m

pub refs-written_by : (write : Write) (o : ObjectParts) (target : NameParts) → In (Some target) (written_by write o).refs
    → In (Some target) o.refs ⊎ IsTarget target write
refs-written_by (link name field given) o target m =
    cond_refs (name_eq o.name name) (record o { refs = slice_set o.refs field given }) o (given ≡ Some target) (Some target)
    (λ k. elim (in_set o.refs field given (Some target) k) [ inl a ↦ inl a | inr b ↦ inr (sym b) ]) m
refs-written_by (assign name value) o target m =
    cond_refs (name_eq o.name name) (record o { number = value }) o ⊥ (Some target) (λ k. inl k) m

pub refs-with_writes : (writes : List Write) (o : ObjectParts) (target : NameParts) → In (Some target) (with_writes writes o).refs
    → In (Some target) o.refs ⊎ ((write : Write) × In write writes × IsTarget target write)
refs-with_writes [] o target m = inl m
refs-with_writes (write ∷ writes) o target m = elim (refs-written_by write (with_writes writes o) target m) [
  | inl a ↦ elim (refs-with_writes writes o target a) [ inl b ↦ inl b | inr c ↦ inr (c.0, inr c.1, c.2) ]
  | inr b ↦ inr (write, inl refl, b)
]

pub none_only : (n : ℕ) (target : NameParts) → In (Some target) (replicate {A = Option NameParts} n None) → ⊥
none_only zero target m = m
none_only (suc n) target m = elim m [ inl e ↦ cc | inr r ↦ none_only n target r ]

-- ---- what the view leads to

pub covered_path : (w : World) (t : Transaction) (first : NameParts) (rest : List NameParts) (last : NameParts)
    → IsCoveredPath w.graph t first rest last → IsPath w.graph first rest last
covered_path w t first [] last p = p
covered_path w t first (n ∷ ns) last p = (p.0, p.1, covered_path w t n ns last p.3)

-- own, or reached in the graph
abbrev pub IsOwnOrReached : World → Transaction → NameParts → Type 0
IsOwnOrReached w t name = IsTrue (has_name t.own name) ⊎ IsReached w name

pub covered : (w : World) (t : Transaction) (name : NameParts) → IsCovered w.graph t name → IsOwnOrReached w t name
covered w t name c = elim c [
  | inl o ↦ inl o
  | inr p ↦ inr (p.0, p.2, (p.1, covered_path w t p.0 p.1 name p.3))
]

-- what the steps in a view rest on
pub record IsSafeView (w : World) (t : Transaction) : Type 0 where
  pub known : AllByRecursion (IsCovered w.graph t) t.known
  pub writes : AllByRecursion (IsKnownWrite t) t.writes
  pub own_are_new : (name : NameParts) → IsTrue (has_name t.own name) → has_object w.graph name ≡ false

pub target_known : (t : Transaction) (write : Write) (target : NameParts) → IsKnownWrite t write → IsTarget target write → has_name t.known target ≡ true
target_known t (link name field None) target k e = cc
target_known t (link name field (Some given)) target k e =
    let both = and_parts (has_name t.known name && has_page t.pages_written name.page) (has_name t.known given) k in
    let same : given ≡ target = cc in
    subst (λ n. has_name t.known n ≡ true) same both.1
target_known t (assign name value) target k e = absurd e

-- a known name is own or reached
pub known_name : (w : World) (t : Transaction) (name : NameParts) → IsSafeView w t → has_name t.known name ≡ true → IsOwnOrReached w t name
known_name w t name safe h = covered w t name (each_in (IsCovered w.graph t) t.known name safe.known (has_name_in t.known name h))

-- the object of a view comes from the graph, or is a new one of the transaction's own
abbrev pub IsUnder : World → Transaction → ObjectParts → ObjectParts → Type 0
IsUnder w t seen o = (In o w.graph ⊎ ((name : NameParts) × In name t.own × (o ≡ new_object w name))) × (seen ≡ with_writes t.writes o)

pub view_object : (w : World) (t : Transaction) (seen : ObjectParts) → In seen (view w t) → (o : ObjectParts) × IsUnder w t seen o
view_object w t seen m =
    let a = in_map (with_writes t.writes) (w.graph ++ map (new_object w) t.own) seen m in (
      a.0,
      elim (in_append w.graph (map (new_object w) t.own) a.0 a.1) [
        | inl g ↦ (inl g, a.2)
        | inr n ↦ (inr (in_map (new_object w) t.own a.0 n), a.2)
      ],
    )

-- a name of the view is one of the graph, or the transaction's own
pub view_name : (w : World) (t : Transaction) (name : NameParts) → has_object (view w t) name ≡ true
    → (has_object w.graph name ≡ true) ⊎ (has_name t.own name ≡ true)
view_name w t name h =
    let a = has_object_in (view w t) name h in
    let b = view_object w t a.0 a.1 in
    let o : ObjectParts = b.0 in
    let same : o.name ≡ name = sym (name-with_writes t.writes o) ∙ (ap (λ (x : ObjectParts). x.name) (sym b.1.1) ∙ a.2) in
    elim b.1.0 [
      | inl g ↦ inl (subst (λ n. has_object w.graph n ≡ true) same (in_has_object w.graph o g))
      | inr n ↦
          let q : n.0 ≡ name = ap (λ (x : ObjectParts). x.name) (sym n.2) ∙ same in
          inr (subst (λ k. has_name t.own k ≡ true) q (in_has_name t.own n.0 n.1))
    ]

-- one step of a path in the view
pub view_step : (w : World) (t : Transaction) (first target : NameParts) → IsSafeView w t
    → IsOwnOrReached w t first → refers (view w t) first target ≡ true → has_object (view w t) target ≡ true → IsOwnOrReached w t target
view_step w t first target safe h r there =
    let a = any_in (λ o. name_eq o.name first && list_any (is_to target) o.refs) (view w t) r in
    let seen : ObjectParts = a.0 in
    let b = and_parts (name_eq seen.name first) (list_any (is_to target) seen.refs) a.2 in
    let ref = any_in (is_to target) seen.refs b.1 in
    let m : In (Some target) seen.refs = subst (λ x. In x seen.refs) (is_to_same target ref.0 ref.2) ref.1 in
    let u = view_object w t seen a.1 in
    let o : ObjectParts = u.0 in
    let k : In (Some target) (with_writes t.writes o).refs = subst (λ (x : ObjectParts). In (Some target) x.refs) u.1.1 m in
    let named : o.name ≡ first =
    sym (name-with_writes t.writes o) ∙ (ap (λ (x : ObjectParts). x.name) (sym u.1.1) ∙ name_eq_same seen.name first b.0) in
    elim (refs-with_writes t.writes o target k) [
      | inl kept ↦ elim u.1.0 [
        | inl g ↦ elim (view_name w t target there) [
          | inl t_there ↦ elim h [
            | inl own ↦
                let f = safe.own_are_new first own in
                let g2 : has_object w.graph first ≡ true = subst (λ n. has_object w.graph n ≡ true) named (in_has_object w.graph o g) in
                cc
            | inr reached ↦
                let step : refers w.graph first target ≡ true =
                subst (λ n. refers w.graph n target ≡ true) named
                (in_any (λ p. name_eq p.name o.name && list_any (is_to target) p.refs) w.graph o g
                (and_from (name_eq o.name o.name) (list_any (is_to target) o.refs) (name_eq_refl o.name)
                (in_any (is_to target) o.refs (Some target) kept (name_eq_refl target)))) in
                inr (reached_more w.graph (starts w) first target reached step t_there)
          ]
          | inr t_own ↦ inl t_own
        ]
        | inr n ↦
            let z : In (Some target) (new_object w n.0).refs = subst (λ (x : ObjectParts). In (Some target) x.refs) n.2 kept in
            absurd (none_only (fields_of w n.0.page) target z)
      ]
      | inr wrote ↦
          known_name w t target safe
          (target_known t wrote.0 target (each_in (IsKnownWrite t) t.writes wrote.0 safe.writes wrote.1) wrote.2)
    ]

pub view_path : (w : World) (t : Transaction) (first : NameParts) (rest : List NameParts) (last : NameParts) → IsSafeView w t
    → IsOwnOrReached w t first → IsPath (view w t) first rest last → IsOwnOrReached w t last
view_path w t first [] last safe h p = subst (IsOwnOrReached w t) p.0 h
view_path w t first (n ∷ ns) last safe h p =
    view_path w t n ns last safe (view_step w t first n safe h p.0 (path_first (view w t) n ns last p.2)) p.2

-- what a transaction holds is reached or its own
pub held_is_reached_or_own : (w : World) (t : Transaction) (name : NameParts) → IsSafeView w t → IsHeldBy w t name → IsOwnOrReached w t name
held_is_reached_or_own w t name safe h =
    view_path w t h.0 h.2.0 name safe (known_name w t h.0 safe h.1) h.2.1

-- what is reached in the view is reached in the graph, or own: so a commit adds own objects alone to what is reached
pub commit_adds_own : (w : World) (t : Transaction) (name : NameParts) → IsSafeView w t
    → IsReachedFrom (view w t) (starts w) name → IsOwnOrReached w t name
commit_adds_own w t name safe h =
    view_path w t h.0 h.2.0 name safe
    (elim (view_name w t h.0 (path_first (view w t) h.0 h.2.0 name h.2.1)) [
      | inl g ↦ inr (h.0, h.1, ([], (refl, g)))
      | inr o ↦ inl o
    ])
    h.2.1
