-- Locks that are held to the end keep what a transaction knows.
use Rattle.std.proofs.Common.{◌≡◌, true, false, ◌&&◌, cond, List, [], ◌∷◌, ◌++◌, map, Some, None, refl, sym, subst, ap, ◌∙◌, inl, inr}
use Rattle.std.specs.List.{list_any, AllByRecursion, slice_set}
use Rattle.std.proofs.lemmas.Bool.{and_parts, cases_Bool}
use Rattle.object_graph.specs.NameParts.{NameParts}
use Rattle.object_graph.specs.Names.{name_eq}
use Rattle.object_graph.specs.ObjectParts.{ObjectParts}
use Rattle.object_graph.specs.Graphs.{has_object, has_name, is_to, refers}
use Rattle.store_model.specs.Worlds.{World, Transaction, Write, link, assign, view, with_writes, written_by, new_object}
use Rattle.store_model.specs.Causes.{has_page}
use Rattle.store_model.specs.Lawful.{IsKnownWrite, IsCoveredPath, IsApart}
use Rattle.object_graph.proofs.Members.{In, any_in, in_any, map_in, append_left}
use Rattle.object_graph.proofs.Paths.{name_eq_same, name_eq_refl, has_object_in}
use Rattle.store_model.proofs.Reach.{name-with_writes}

-- each write is to an object on a page that the transaction wrote
write_page : (t : Transaction) (write : Write) (o : ObjectParts) → IsKnownWrite t write → has_page t.pages_written o.name.page ≡ false → written_by write o ≡ o
write_page t (link name field None) o known away =
    let k = and_parts (has_name t.known name) (has_page t.pages_written name.page) known in
    elim (cases_Bool (name_eq o.name name)) [
      | inl e ↦ let same = name_eq_same o.name name e in
          let z : has_page t.pages_written o.name.page ≡ true = subst (λ n. has_page t.pages_written n.page ≡ true) (sym same) k.1 in cc
      | inr e ↦ ap (λ b. cond b (record o { refs = slice_set o.refs field None }) o) e
    ]
write_page t (link name field (Some target)) o known away =
    let k = and_parts (has_name t.known name && has_page t.pages_written name.page) (has_name t.known target) known in
    let k2 = and_parts (has_name t.known name) (has_page t.pages_written name.page) k.0 in
    elim (cases_Bool (name_eq o.name name)) [
      | inl e ↦ let same = name_eq_same o.name name e in
          let z : has_page t.pages_written o.name.page ≡ true = subst (λ n. has_page t.pages_written n.page ≡ true) (sym same) k2.1 in cc
      | inr e ↦ ap (λ b. cond b (record o { refs = slice_set o.refs field (Some target) }) o) e
    ]
write_page t (assign name value) o known away =
    let k = and_parts (has_name t.known name) (has_page t.pages_written name.page) known in
    elim (cases_Bool (name_eq o.name name)) [
      | inl e ↦ let same = name_eq_same o.name name e in
          let z : has_page t.pages_written o.name.page ≡ true = subst (λ n. has_page t.pages_written n.page ≡ true) (sym same) k.1 in cc
      | inr e ↦ ap (λ b. cond b (record o { number = value }) o) e
    ]

pub writes_away : (t : Transaction) (writes : List Write) (o : ObjectParts) → AllByRecursion (IsKnownWrite t) writes
    → has_page t.pages_written o.name.page ≡ false → with_writes writes o ≡ o
writes_away t [] o known away = refl
writes_away t (write ∷ writes) o known away =
    ap (written_by write) (writes_away t writes o known.1 away) ∙ write_page t write o known.0 away

-- an object of the graph is in the view
seen_in_view : (w : World) (t : Transaction) (o : ObjectParts) → In o w.graph → In (with_writes t.writes o) (view w t)
seen_in_view w t o m = map_in (with_writes t.writes) (w.graph ++ map (new_object w) t.own) o (append_left w.graph (map (new_object w) t.own) o m)

pub name_in_view : (w : World) (t : Transaction) (name : NameParts) → has_object w.graph name ≡ true → has_object (view w t) name ≡ true
name_in_view w t name h =
    let a = has_object_in w.graph name h in
    let o : ObjectParts = a.0 in
    in_any (λ p. name_eq p.name name) (view w t) (with_writes t.writes o) (seen_in_view w t o a.1)
    (subst (λ n. name_eq n name ≡ true) (sym (name-with_writes t.writes o ∙ a.2)) (name_eq_refl name))

-- a reference on a page that the transaction didn't write is in its view too
pub reference_stays : (w : World) (t : Transaction) (first target : NameParts) → AllByRecursion (IsKnownWrite t) t.writes
    → has_page t.pages_written first.page ≡ false → refers w.graph first target ≡ true → refers (view w t) first target ≡ true
reference_stays w t first target known away r =
    let a = any_in (λ o. name_eq o.name first && list_any (is_to target) o.refs) w.graph r in
    let o : ObjectParts = a.0 in
    let b = and_parts (name_eq o.name first) (list_any (is_to target) o.refs) a.2 in
    let same = name_eq_same o.name first b.0 in
    let there = seen_in_view w t o a.1 in
    let still : with_writes t.writes o ≡ o =
    writes_away t t.writes o known (subst (λ n. has_page t.pages_written n.page ≡ false) (sym same) away) in
    in_any (λ p. name_eq p.name first && list_any (is_to target) p.refs) (view w t) o (subst (λ p. In p (view w t)) still there) a.2

-- a commit of another transaction leaves the paths to what a transaction knows
pub commit_keeps_covered : (w : World) (t u : Transaction) (first : NameParts) (rest : List NameParts) (last : NameParts)
    → AllByRecursion (IsKnownWrite t) t.writes → IsApart t u
    → IsCoveredPath w.graph u first rest last → IsCoveredPath (view w t) u first rest last
commit_keeps_covered w t u first [] last known apart p =
    (p.0, name_in_view w t first p.1)
commit_keeps_covered w t u first (n ∷ ns) last known apart p = (
  reference_stays w t first n known (apart first.page p.2) p.0,
  name_in_view w t first p.1,
  p.2,
  commit_keeps_covered w t u n ns last known apart p.3,
)
