-- A commit leaves the world orderly.
use Rattle.std.proofs.Common.{◌≡◌, ◌≢◌, ℕ, ◌+◌, ◌<◌, ◌==◌, true, false, not, List, [], ◌∷◌, ◌++◌, map, length, refl, sym, subst, ap, ◌∙◌, inl, inr, arith, length-append, append-nil}
use Rattle.std.specs.List.{list_any, filter, AllByRecursion}
use Rattle.std.specs.Bool.{IsTrue}
use Rattle.std.proofs.lemmas.Bool.{and_parts, and_from, cases_Bool, eqb-true, eq-eqb, not-true}
use Rattle.std.proofs.lemmas.List.{length-map}
use Rattle.std.proofs.lemmas.List.Elements.{filter-append}
use Rattle.object_graph.specs.NameParts.{NameParts}
use Rattle.object_graph.specs.Names.{root_name}
use Rattle.object_graph.specs.ObjectParts.{ObjectParts}
use Rattle.object_graph.specs.Graphs.{has_name, has_object, is_at, objects_at, IsPath}
use Rattle.store_model.specs.Worlds.{World, Transaction, view, is_freed, unfreed, with_writes, new_object, transaction}
use Rattle.store_model.specs.Causes.{has_page}
use Rattle.store_model.specs.Steps.{without, committed}
use Rattle.store_model.specs.Lawful.{IsOwn, IsCovered, IsLawfulTransaction, IsApart, AreApart}
use Rattle.object_graph.proofs.Members.{In, any_in, in_filter, filter_in, map_in, each_in, each_from, append_right, or_right}
use Rattle.object_graph.proofs.Paths.{has_name_in, in_has_object}
use Rattle.store_model.proofs.Places.{filter_of_map, commit_counts_up}
use Rattle.store_model.proofs.Locks.{name_in_view, commit_keeps_covered}
use Rattle.store_model.proofs.Images.{objects_away, none_new}
use Rattle.store_model.proofs.Reach.{name-with_writes, IsSafeView, view_object, commit_adds_own}
use Rattle.store_model.proofs.Cuts.{safe_view, view_refers, refers_from}
use Rattle.store_model.specs.Lawful.{IsOrderly}
use Rattle.store_model.specs.Worlds.{is_unfreed}
use Rattle.store_model.proofs.Places.{objects_at-map}
use Rattle.store_model.proofs.Lists.{all_map, filter_filter, any_false_filter, apart_at, apart_from}
use Rattle.store_model.proofs.Orders.{IsPlacedName, lawful_one, placed_one}

-- ---- the graph

pub path_last : (graph : List ObjectParts) (first : NameParts) (rest : List NameParts) (last : NameParts) → IsPath graph first rest last → has_object graph last ≡ true
path_last graph first [] last p = subst (λ n. has_object graph n ≡ true) p.0 p.1
path_last graph first (n ∷ ns) last p = path_last graph n ns last p.2

own_in_view : (w : World) (t : Transaction) (name : NameParts) → has_name t.own name ≡ true → has_object (view w t) name ≡ true
own_in_view w t name h =
    let m : In (new_object w name) (w.graph ++ map (new_object w) t.own) =
    append_right w.graph (map (new_object w) t.own) (new_object w name) (map_in (new_object w) t.own name (has_name_in t.own name h)) in
    subst (λ n. has_object (view w t) n ≡ true) (name-with_writes t.writes (new_object w name))
    (in_has_object (view w t) (with_writes t.writes (new_object w name)) (map_in (with_writes t.writes) (w.graph ++ map (new_object w) t.own) (new_object w name) m))

-- how many names a place has in the view
length_view : (w : World) (t : Transaction) (page slot : ℕ) → length (objects_at (view w t) page slot) ≡ length (objects_at w.graph page slot) + length (filter (is_at page slot) t.own)
length_view w t page slot =
    let news : List ObjectParts = map (new_object w) t.own in
    let a : objects_at (view w t) page slot ≡ map (with_writes t.writes) (objects_at (w.graph ++ news) page slot) =
    objects_at-map (with_writes t.writes) (w.graph ++ news) page slot (name-with_writes t.writes) in
    let b : objects_at (w.graph ++ news) page slot ≡ objects_at w.graph page slot ++ map (new_object w) (filter (is_at page slot) t.own) =
    filter-append (λ (o : ObjectParts). is_at page slot o.name) w.graph news
    ∙ ap (λ os. objects_at w.graph page slot ++ os) (filter_of_map (new_object w) (λ (o : ObjectParts). is_at page slot o.name) t.own) in
    ap length a
    ∙ (length-map (objects_at (w.graph ++ news) page slot) (with_writes t.writes)
    ∙ (ap length b
    ∙ (length-append (objects_at w.graph page slot) (map (new_object w) (filter (is_at page slot) t.own))
    ∙ ap (λ k. length (objects_at w.graph page slot) + k) (length-map (filter (is_at page slot) t.own) (new_object w)))))

none_at : (w : World) (t : Transaction) (o : ObjectParts) → AllByRecursion (IsOwn w.graph w.freed t) t.own → In o w.graph → is_unfreed w.freed o ≡ true
    → filter (is_at o.name.page o.name.slot) t.own ≡ []
none_at w t o own i u = any_false_filter (is_at o.name.page o.name.slot) t.own (elim (cases_Bool (list_any (is_at o.name.page o.name.slot) t.own)) [
  | inr e ↦ e
  | inl e ↦
      let a = any_in (is_at o.name.page o.name.slot) t.own e in
      let n : NameParts = a.0 in
      let b = and_parts (n.page == o.name.page) (n.slot == o.name.slot) a.2 in
      let is = each_in (IsOwn w.graph w.freed t) t.own n own a.1 in
      let at : is_at n.page n.slot o.name ≡ true =
      and_from (o.name.page == n.page) (o.name.slot == n.slot)
      (eq-eqb o.name.page n.page (sym (eqb-true n.page o.name.page b.0))) (eq-eqb o.name.slot n.slot (sym (eqb-true n.slot o.name.slot b.1))) in
      let f = each_in (λ (o : ObjectParts). IsTrue (has_name w.freed o.name)) (objects_at w.graph n.page n.slot) o is.free
      (filter_in (λ (p : ObjectParts). is_at n.page n.slot p.name) w.graph o i at) in
      let g = not-true (has_name w.freed o.name) u in
      cc
])

some_length : {A : Type 0} (xs : List A) (x : A) → In x xs → 0 < length xs
some_length [] x m = absurd m
some_length (y ∷ ys) x m = omega arith

last_in_view : (w : World) (t : Transaction) (seen : ObjectParts) → IsOrderly w → IsLawfulTransaction w.graph w.freed t → In seen (view w t) → is_unfreed w.freed seen ≡ true
    → seen.name.generation ≡ length (objects_at (view w t) seen.name.page seen.name.slot)
last_in_view w t seen lawful lt m u =
    let v = view_object w t seen m in
    let o : ObjectParts = v.0 in
    let named : o.name ≡ seen.name = sym (name-with_writes t.writes o) ∙ ap (λ (x : ObjectParts). x.name) (sym v.1.1) in
    elim v.1.0 [
      | inl g ↦
          let unf : is_unfreed w.freed o ≡ true = subst (λ n. not (has_name w.freed n) ≡ true) (sym named) u in
          let e = each_in (λ (o : ObjectParts). o.name.generation ≡ length (objects_at w.graph o.name.page o.name.slot)) (unfreed w) o lawful.last (filter_in (is_unfreed w.freed) w.graph o g unf) in
          let z = ap length (none_at w t o lt.own g unf) in
          let l = length_view w t o.name.page o.name.slot in
          let k : o.name.generation ≡ length (objects_at (view w t) o.name.page o.name.slot) = omega arith in
          subst (λ (n : NameParts). n.generation ≡ length (objects_at (view w t) n.page n.slot)) named k
      | inr n ↦
          let name : NameParts = n.0 in
          let is = each_in (IsOwn w.graph w.freed t) t.own name lt.own n.1 in
          let q : name ≡ seen.name = ap (λ (x : ObjectParts). x.name) (sym n.2) ∙ named in
          let at : is_at name.page name.slot name ≡ true = and_from (name.page == name.page) (name.slot == name.slot) (eq-eqb name.page name.page refl) (eq-eqb name.slot name.slot refl) in
          let few = lt.one_at_each_place name.page name.slot in
          let some = some_length (filter (is_at name.page name.slot) t.own) name (filter_in (is_at name.page name.slot) t.own name n.1 at) in
          let g : name.generation ≡ 1 + length (objects_at w.graph name.page name.slot) = ap (λ (k : NameParts). k.generation) is.next in
          let l = length_view w t name.page name.slot in
          let k : name.generation ≡ length (objects_at (view w t) name.page name.slot) = omega arith in
          subst (λ (n : NameParts). n.generation ≡ length (objects_at (view w t) n.page n.slot)) q k
    ]

-- the world with the view of a lawful transaction as its graph, and no open transactions
pub view_is_orderly : (w : World) (t : Transaction) (commits : ℕ) → IsOrderly w → IsLawfulTransaction w.graph w.freed t → AllByRecursion (IsPlacedName w) t.own
    → IsOrderly (record w { graph = view w t; commits = commits; transactions = [] })
view_is_orderly w t commits lawful lt placed =
    let sv : IsSafeView w t = safe_view w t lawful.counted lt in
    let root = and_parts (has_object w.graph root_name) (not (is_freed w root_name)) lawful.root in
    record {
      root = and_from (has_object (view w t) root_name) (not (is_freed w root_name)) (name_in_view w t root_name root.0) root.1;
      placed = each_from (λ (o : ObjectParts). IsPlacedName w o.name) (view w t) (λ seen m.
          let v = view_object w t seen m in
          let o : ObjectParts = v.0 in
          let named : o.name ≡ seen.name = sym (name-with_writes t.writes o) ∙ ap (λ (x : ObjectParts). x.name) (sym v.1.1) in
          subst (IsPlacedName w) named (elim v.1.0 [
            | inl g ↦ each_in (λ (o : ObjectParts). IsPlacedName w o.name) w.graph o lawful.placed g
            | inr n ↦ subst (λ (x : ObjectParts). IsPlacedName w x.name) (sym n.2) (each_in (IsPlacedName w) t.own n.0 placed n.1)
          ]));
      own_placed = tt;
      whole = λ name target reached r. elim (view_refers w t name target sv r) [
        | inl before ↦ elim (commit_adds_own w t name sv reached) [
          | inl own ↦ let f = sv.own_are_new name own in let b = refers_from w.graph name target before in cc
          | inr there ↦ name_in_view w t target (lawful.whole name target there before)
        ]
        | inr known ↦ elim known [
          | inl own ↦ own_in_view w t target own
          | inr there ↦ name_in_view w t target (path_last w.graph there.0 there.2.0 target there.2.1)
        ]
      ];
      counted = commit_counts_up w t lawful.counted lt;
      last = each_from (λ (o : ObjectParts). o.name.generation ≡ length (objects_at (view w t) o.name.page o.name.slot)) (filter (is_unfreed w.freed) (view w t)) (λ seen m.
          let a = in_filter (is_unfreed w.freed) (view w t) seen m in
          last_in_view w t seen lawful lt a.0 a.1);
      distinct = λ number. omega arith;
      transactions = tt;
      apart = tt;
      freed_there = all_map (λ (name : NameParts). IsTrue (has_object w.graph name)) (λ (name : NameParts). IsTrue (has_object (view w t) name)) w.freed lawful.freed_there
          (λ name m h. name_in_view w t name h);
    }

-- ---- the other transactions

pub place_away : (w : World) (t : Transaction) (page slot : ℕ) → IsLawfulTransaction w.graph w.freed t → has_page t.pages_written page ≡ false
    → objects_at (view w t) page slot ≡ objects_at w.graph page slot
place_away w t page slot lt away =
    objects_away t (w.graph ++ map (new_object w) t.own) page slot lt.writes away
    ∙ (filter-append (λ o. is_at page slot o.name) w.graph (map (new_object w) t.own)
    ∙ (ap (λ os. objects_at w.graph page slot ++ os) (none_new w t t.own page slot (all_map (IsOwn w.graph w.freed t) (λ (n : NameParts). has_page t.pages_written n.page ≡ true) t.own lt.own (λ n m own. own.page)) away)
    ∙ append-nil (objects_at w.graph page slot)))

commit_keeps_own : (w : World) (t u : Transaction) (name : NameParts) → IsLawfulTransaction w.graph w.freed t → IsApart t u → IsOwn w.graph w.freed u name → IsOwn (view w t) w.freed u name
commit_keeps_own w t u name lt apart own =
    let away = apart name.page (or_right (has_page u.pages_read name.page) (has_page u.pages_written name.page) own.page) in
    let e = place_away w t name.page name.slot lt away in
    record {
      page = own.page;
      free = subst (λ os. AllByRecursion (λ (o : ObjectParts). IsTrue (has_name w.freed o.name)) os) (sym e) own.free;
      next = own.next ∙ ap (λ (os : List ObjectParts). let n : NameParts = record { page = name.page; slot = name.slot; generation = 1 + length os } in n) (sym e);
    }

commit_keeps_one : (w : World) (t u : Transaction) → IsLawfulTransaction w.graph w.freed t → IsApart t u
    → IsLawfulTransaction w.graph w.freed u → IsLawfulTransaction (view w t) w.freed u
commit_keeps_one w t u lt apart lu = record {
  own = all_map (IsOwn w.graph w.freed u) (IsOwn (view w t) w.freed u) u.own lu.own (λ n m own. commit_keeps_own w t u n lt apart own);
  one_at_each_place = lu.one_at_each_place;
  writes = lu.writes;
  known = all_map (IsCovered w.graph u) (IsCovered (view w t) u) u.known lu.known (λ n m c. elim c [
    | inl own ↦ inl own
    | inr p ↦ inr (p.0, p.1, p.2, commit_keeps_covered w t u p.0 p.1 n lt.writes apart p.3)
  ]);
}

-- ---- fewer transactions

in_without : (w : World) (n : ℕ) (u : Transaction) → In u (without w n) → In u w.transactions × (u.number ≢ n)
in_without w n u m =
    let a = in_filter (λ (t : Transaction). not (t.number == n)) w.transactions u m in
    (a.0, λ e. let b = not-true (u.number == n) a.1 in let c = eq-eqb u.number n e in cc)

fewer_distinct : (w : World) (n number : ℕ) → IsOrderly w → length (filter (λ (t : Transaction). t.number == number) (without w n)) < 2
fewer_distinct w n number lawful =
    let a = filter_filter (λ (t : Transaction). t.number == number) (λ (t : Transaction). not (t.number == n)) w.transactions in
    let b = lawful.distinct number in
    omega arith

fewer_apart : (w : World) (n : ℕ) → IsOrderly w → AreApart (without w n)
fewer_apart w n lawful = apart_from (without w n) (λ t u i j ne.
    apart_at w.transactions t u lawful.apart (in_without w n t i).0 (in_without w n u j).0 ne)

fewer_placed : (w : World) (n : ℕ) → IsOrderly w → AllByRecursion (λ (t : Transaction). AllByRecursion (IsPlacedName w) t.own) (without w n)
fewer_placed w n lawful = each_from (λ (t : Transaction). AllByRecursion (IsPlacedName w) t.own) (without w n) (λ u m. placed_one w u lawful (in_without w n u m).0)

pub commit_is_orderly : (w : World) (n : ℕ) → IsOrderly w → In (transaction w n) w.transactions → (transaction w n).number ≡ n → IsOrderly (committed w n)
commit_is_orderly w n lawful i is =
    let t : Transaction = transaction w n in
    let lt = lawful_one w t lawful i in
    let b = view_is_orderly w t (w.commits + 1) lawful lt (placed_one w t lawful i) in
    record {
      root = b.root;
      placed = b.placed;
      own_placed = fewer_placed w n lawful;
      whole = b.whole;
      counted = b.counted;
      last = b.last;
      distinct = λ number. fewer_distinct w n number lawful;
      transactions = each_from (IsLawfulTransaction (view w t) w.freed) (without w n) (λ u m.
          let a = in_without w n u m in
          commit_keeps_one w t u lt (apart_at w.transactions t u lawful.apart i a.0 (λ e. a.1 (e ∙ is))) (lawful_one w u lawful a.0));
      apart = fewer_apart w n lawful;
      freed_there = b.freed_there;
    }

pub abort_is_orderly : (w : World) (n : ℕ) → IsOrderly w → IsOrderly (record w { transactions = without w n })
abort_is_orderly w n lawful = record {
  root = lawful.root;
  placed = lawful.placed;
  own_placed = fewer_placed w n lawful;
  whole = lawful.whole;
  counted = lawful.counted;
  last = lawful.last;
  distinct = λ number. fewer_distinct w n number lawful;
  transactions = each_from (IsLawfulTransaction w.graph w.freed) (without w n) (λ u m. lawful_one w u lawful (in_without w n u m).0);
  apart = fewer_apart w n lawful;
  freed_there = lawful.freed_there;
}
