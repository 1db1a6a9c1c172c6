-- A transaction that grew keeps what it had.
use Rattle.std.proofs.Common.{◌≡◌, ℕ, true, ◌&&◌, ◌||◌, List, [], ◌∷◌, ◌++◌, Option, Some, None, refl, sym, subst, ap, ◌∙◌, inl, inr}
use Rattle.std.specs.List.{list_any, slice_get, AllByRecursion}
use Rattle.std.specs.Option.{unwrap_or, option_and_then}
use Rattle.std.proofs.lemmas.Bool.{and_parts, and_from, or_cases}
use Rattle.object_graph.specs.NameParts.{NameParts}
use Rattle.object_graph.specs.Names.{name_eq}
use Rattle.object_graph.specs.ObjectParts.{ObjectParts}
use Rattle.object_graph.specs.Graphs.{has_name, has_object, object_named, is_to, refers}
use Rattle.store_model.specs.Worlds.{World, Transaction, Write, link, assign, transaction, view, with_writes, new_object, fields_of}
use Rattle.store_model.specs.Causes.{has_page, field_seen}
use Rattle.store_model.specs.Lawful.{IsOwn, IsKnownWrite, IsCovered, IsCoveredPath, IsLawfulTransaction}
use Rattle.object_graph.proofs.Members.{In, in_any, each_in, or_left, or_right}
use Rattle.object_graph.proofs.Paths.{name_eq_refl, name_eq_same, has_name_in, in_has_object}
use Rattle.store_model.proofs.Reach.{name-with_writes, refs-with_writes, none_only, view_object, covered, target_known}
use Rattle.store_model.specs.Lawful.{IsOrderly}
use Rattle.store_model.proofs.OutOfReach.{safe_one}
use Rattle.store_model.proofs.Lists.{find_in}
use Rattle.store_model.proofs.Lists.{all_map, find_passes, get_in}

pub record Grew (t u : Transaction) : Type 0 where
  pub known : (n : NameParts) → has_name t.known n ≡ true → has_name u.known n ≡ true
  pub own : (n : NameParts) → has_name t.own n ≡ true → has_name u.own n ≡ true
  pub read : (page : ℕ) → has_page t.pages_read page ≡ true → has_page u.pages_read page ≡ true
  pub written : (page : ℕ) → has_page t.pages_written page ≡ true → has_page u.pages_written page ≡ true

touched : (t u : Transaction) (page : ℕ) → Grew t u → (has_page t.pages_read page || has_page t.pages_written page) ≡ true → (has_page u.pages_read page || has_page u.pages_written page) ≡ true
touched t u page g h = elim (or_cases (has_page t.pages_read page) (has_page t.pages_written page) h) [
  | inl a ↦ or_left (has_page u.pages_read page) (has_page u.pages_written page) (g.read page a)
  | inr b ↦ or_right (has_page u.pages_read page) (has_page u.pages_written page) (g.written page b)
]

grew_path : (graph : List ObjectParts) (t u : Transaction) (first : NameParts) (rest : List NameParts) (last : NameParts) → Grew t u → IsCoveredPath graph t first rest last → IsCoveredPath graph u first rest last
grew_path graph t u first [] last g p = p
grew_path graph t u first (n ∷ ns) last g p = (p.0, p.1, touched t u first.page g p.2, grew_path graph t u n ns last g p.3)

pub grew_covered : (graph : List ObjectParts) (t u : Transaction) (name : NameParts) → Grew t u → IsCovered graph t name → IsCovered graph u name
grew_covered graph t u name g c = elim c [
  | inl own ↦ inl (g.own name own)
  | inr p ↦ inr (p.0, p.1, p.2, grew_path graph t u p.0 p.1 name g p.3)
]

pub grew_own : (graph : List ObjectParts) (freed : List NameParts) (t u : Transaction) (name : NameParts) → Grew t u → IsOwn graph freed t name → IsOwn graph freed u name
grew_own graph freed t u name g own = record { page = g.written name.page own.page; free = own.free; next = own.next }

grew_both : (t u : Transaction) (name : NameParts) → Grew t u → (has_name t.known name && has_page t.pages_written name.page) ≡ true → (has_name u.known name && has_page u.pages_written name.page) ≡ true
grew_both t u name g k =
    let a = and_parts (has_name t.known name) (has_page t.pages_written name.page) k in
    and_from (has_name u.known name) (has_page u.pages_written name.page) (g.known name a.0) (g.written name.page a.1)

pub grew_write : (t u : Transaction) (write : Write) → Grew t u → IsKnownWrite t write → IsKnownWrite u write
grew_write t u (link name field None) g k = grew_both t u name g k
grew_write t u (link name field (Some target)) g k =
    let a = and_parts (has_name t.known name && has_page t.pages_written name.page) (has_name t.known target) k in
    and_from (has_name u.known name && has_page u.pages_written name.page) (has_name u.known target) (grew_both t u name g a.0) (g.known target a.1)
grew_write t u (assign name value) g k = grew_both t u name g k

pub grew_all_known : (graph : List ObjectParts) (t u : Transaction) → Grew t u → AllByRecursion (IsCovered graph t) t.known → AllByRecursion (IsCovered graph u) t.known
grew_all_known graph t u g h = all_map (IsCovered graph t) (IsCovered graph u) t.known h (λ n m c. grew_covered graph t u n g c)

pub grew_all_own : (graph : List ObjectParts) (freed : List NameParts) (t u : Transaction) → Grew t u → AllByRecursion (IsOwn graph freed t) t.own → AllByRecursion (IsOwn graph freed u) t.own
grew_all_own graph freed t u g h = all_map (IsOwn graph freed t) (IsOwn graph freed u) t.own h (λ n m c. grew_own graph freed t u n g c)

pub grew_all_writes : (t u : Transaction) → Grew t u → AllByRecursion (IsKnownWrite t) t.writes → AllByRecursion (IsKnownWrite u) t.writes
grew_all_writes t u g h = all_map (IsKnownWrite t) (IsKnownWrite u) t.writes h (λ n m c. grew_write t u n g c)

-- ---- what a field shows is covered

covered_more : (graph : List ObjectParts) (u : Transaction) (first : NameParts) (rest : List NameParts) (last target : NameParts) → IsCoveredPath graph u first rest last
    → refers graph last target ≡ true → has_object graph target ≡ true → (has_page u.pages_read last.page || has_page u.pages_written last.page) ≡ true
    → IsCoveredPath graph u first (rest ++ target ∷ []) target
covered_more graph u first [] last target p r there read = (
  subst (λ n. refers graph n target ≡ true) (sym p.0) r,
  p.1,
  subst (λ (n : NameParts). (has_page u.pages_read n.page || has_page u.pages_written n.page) ≡ true) (sym p.0) read,
  (refl, there),
)
covered_more graph u first (n ∷ ns) last target p r there read = (p.0, p.1, p.2, covered_more graph u n ns last target p.3 r there read)

-- a name that an object of the view refers to, where the object's name is known and its page was read
pub seen_target : (w : World) (t u : Transaction) (seen : ObjectParts) (name target : NameParts) → IsOrderly w → In t w.transactions → Grew t u
    → has_page u.pages_read name.page ≡ true → has_name t.known name ≡ true → In seen (view w t) → seen.name ≡ name → In (Some target) seen.refs
    → IsCovered w.graph u target
seen_target w t u seen name target lawful i g read known m named r =
    let lt = each_in (IsLawfulTransaction w.graph w.freed) w.transactions t lawful.transactions i in
    let sv = safe_one w t lawful i in
    let v = view_object w t seen m in
    let o : ObjectParts = v.0 in
    let k : In (Some target) (with_writes t.writes o).refs = subst (λ (x : ObjectParts). In (Some target) x.refs) v.1.1 r in
    let is : o.name ≡ name = sym (name-with_writes t.writes o) ∙ (ap (λ (x : ObjectParts). x.name) (sym v.1.1) ∙ named) in
    elim (refs-with_writes t.writes o target k) [
      | inl kept ↦ elim v.1.0 [
        | inl there ↦
            let refer : refers w.graph name target ≡ true = subst (λ n. refers w.graph n target ≡ true) is
            (in_any (λ p. name_eq p.name o.name && list_any (is_to target) p.refs) w.graph o there
            (and_from (name_eq o.name o.name) (list_any (is_to target) o.refs) (name_eq_refl o.name)
            (in_any (is_to target) o.refs (Some target) kept (name_eq_refl target)))) in
            let c = each_in (IsCovered w.graph t) t.known name lt.known (has_name_in t.known name known) in
            let way = covered w t name c in
            elim c [
              | inl own ↦
                  let f = sv.own_are_new name own in
                  let b : has_object w.graph name ≡ true = subst (λ n. has_object w.graph n ≡ true) is (in_has_object w.graph o there) in
                  cc
              | inr p ↦ elim way [
                | inl own ↦
                    let f = sv.own_are_new name own in
                    let b : has_object w.graph name ≡ true = subst (λ n. has_object w.graph n ≡ true) is (in_has_object w.graph o there) in
                    cc
                | inr reached ↦ inr (
                  p.0,
                  p.1 ++ target ∷ [],
                  p.2,
                  covered_more w.graph u p.0 p.1 name target (grew_path w.graph t u p.0 p.1 name g p.3) refer (lawful.whole name target reached refer)
                      (or_left (has_page u.pages_read name.page) (has_page u.pages_written name.page) read),
                )
              ]
            ]
        | inr n ↦
            let z : In (Some target) (new_object w n.0).refs = subst (λ (x : ObjectParts). In (Some target) x.refs) n.2 kept in
            absurd (none_only (fields_of w n.0.page) target z)
      ]
      | inr wrote ↦
          let h = target_known t wrote.0 target (each_in (IsKnownWrite t) t.writes wrote.0 lt.writes wrote.1) wrote.2 in
          grew_covered w.graph t u target g (each_in (IsCovered w.graph t) t.known target lt.known (has_name_in t.known target h))
    ]

-- so is the answer of a get
ref_in : (refs : List (Option NameParts)) (field : ℕ) (target : NameParts) → unwrap_or (slice_get refs field) None ≡ Some target → In (Some target) refs
ref_in refs field target e = by_get refs field target (slice_get refs field) refl e
  where
    by_get : (refs : List (Option NameParts)) (field : ℕ) (target : NameParts) (o : Option (Option NameParts)) → slice_get refs field ≡ o → unwrap_or o None ≡ Some target → In (Some target) refs
    by_get refs field target None q e = cc
    by_get refs field target (Some r) q e = subst (λ x. In x refs) e (get_in refs field r q)

pub field_target : (w : World) (n : ℕ) (u : Transaction) (name : NameParts) (field : ℕ) (target : NameParts) → IsOrderly w → In (transaction w n) w.transactions → Grew (transaction w n) u
    → has_page u.pages_read name.page ≡ true → has_name (transaction w n).known name ≡ true → field_seen w n name field ≡ Some target → IsCovered w.graph u target
field_target w n u name field target lawful i g read known e = by_object (object_named (view w (transaction w n)) name) refl e
  where
    by_object : (o : Option ObjectParts) → object_named (view w (transaction w n)) name ≡ o → option_and_then (λ o. unwrap_or (slice_get o.refs field) None) o ≡ Some target → IsCovered w.graph u target
    by_object None q e = cc
    by_object (Some seen) q e =
        seen_target w (transaction w n) u seen name target lawful i g read known
        (find_in (λ (o : ObjectParts). name_eq o.name name) (view w (transaction w n)) seen q)
        (name_eq_same seen.name name (find_passes (λ (o : ObjectParts). name_eq o.name name) (view w (transaction w n)) seen q))
        (ref_in seen.refs field target e)
