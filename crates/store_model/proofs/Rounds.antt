-- A test that finds what is reached, and by it a test of sweeps.
use Rattle.std.proofs.Common.{◌≡◌, ℕ, zero, suc, Bool, true, false, ◌&&◌, ◌||◌, ◌==◌, not, List, [], map, length, refl, sym, subst, inl, inr}
use Rattle.std.specs.List.{list_any, list_all, filter}
use Rattle.std.proofs.lemmas.Bool.{and_parts, and_from, or_cases, eq-eqb, not-true}
use Rattle.object_graph.specs.NameParts.{NameParts}
use Rattle.object_graph.specs.Names.{name_eq}
use Rattle.object_graph.specs.ObjectParts.{ObjectParts}
use Rattle.object_graph.specs.Graphs.{has_object, has_name, is_to, refers, IsReachedFrom, objects_at}
use Rattle.object_graph.specs.Slots.{slots_in}
use Rattle.store_model.specs.Worlds.{World, Transaction, Opening, starts, view, is_freed, is_unfreed, is_old, IsHeldBy, IsLost}
use Rattle.store_model.specs.Replies.{names_in, IsGarbage, MayFree}
use Rattle.object_graph.proofs.Members.{In, any_in, in_any, all_in, in_filter, in_map, each_from}
use Rattle.object_graph.proofs.Paths.{has_name_in, in_has_name, has_object_in, in_has_object, name_eq_refl, reached_more, is_closed, closed_path, path_first}

-- the object's name is in the set, or an object of a name in the set refers to it
abbrev pub is_next : List ObjectParts → List NameParts → ObjectParts → Bool
is_next graph set o = has_name set o.name || list_any (λ p. has_name set p.name && list_any (is_to o.name) p.refs) graph

abbrev pub next_names : List ObjectParts → List NameParts → List NameParts
next_names graph set = map (λ o. o.name) (filter (is_next graph set) graph)

-- what is reached by paths of at most so many steps
abbrev pub rounds : ℕ → List ObjectParts → List NameParts → List NameParts
rounds zero graph starts = filter (has_object graph) starts
rounds (suc n) graph starts = next_names graph (rounds n graph starts)

pub rounds_sound : (n : ℕ) (graph : List ObjectParts) (starts : List NameParts) (name : NameParts) → In name (rounds n graph starts) → IsReachedFrom graph starts name
rounds_sound zero graph starts name m =
    let r = in_filter (has_object graph) starts name m in
    (name, in_has_name starts name r.0, ([], (refl, r.1)))
rounds_sound (suc n) graph starts name m =
    let set : List NameParts = rounds n graph starts in
    let a = in_map (λ (o : ObjectParts). o.name) (filter (is_next graph set) graph) name m in
    let o : ObjectParts = a.0 in
    let b = in_filter (is_next graph set) graph o a.1 in
    let there : has_object graph o.name ≡ true = in_has_object graph o b.0 in
    subst (λ k. IsReachedFrom graph starts k) (sym a.2)
    (elim (or_cases (has_name set o.name) (list_any (λ p. has_name set p.name && list_any (is_to o.name) p.refs) graph) b.1) [
      | inl e ↦ rounds_sound n graph starts o.name (has_name_in set o.name e)
      | inr e ↦
          let c = any_in (λ p. has_name set p.name && list_any (is_to o.name) p.refs) graph e in
          let p : ObjectParts = c.0 in
          let d = and_parts (has_name set p.name) (list_any (is_to o.name) p.refs) c.2 in
          let reached = rounds_sound n graph starts p.name (has_name_in set p.name d.0) in
          let step : refers graph p.name o.name ≡ true =
          in_any (λ q. name_eq q.name p.name && list_any (is_to o.name) q.refs) graph p c.1
          (and_from (name_eq p.name p.name) (list_any (is_to o.name) p.refs) (name_eq_refl p.name) d.1) in
          reached_more graph starts p.name o.name reached step there
    ])

-- the set holds the starts, and no reference leads out of it
abbrev pub holds_starts : List ObjectParts → List NameParts → List NameParts → Bool
holds_starts graph starts set = list_all (λ s. has_name set s || not (has_object graph s)) starts

-- a test by which a name is out of reach
abbrev pub is_out_of_reach : List ObjectParts → List NameParts → NameParts → Bool
is_out_of_reach graph starts name =
    let set = rounds (length graph) graph starts in
    (is_closed graph set && holds_starts graph starts set) && not (has_name set name)

pub out_of_reach : (graph : List ObjectParts) (starts : List NameParts) (name : NameParts) → is_out_of_reach graph starts name ≡ true → ¬ IsReachedFrom graph starts name
out_of_reach graph starts name h r =
    let set : List NameParts = rounds (length graph) graph starts in
    let a = and_parts (is_closed graph set && holds_starts graph starts set) (not (has_name set name)) h in
    let b = and_parts (is_closed graph set) (holds_starts graph starts set) a.0 in
    let start : NameParts = r.0 in
    let there = path_first graph start r.2.0 name r.2.1 in
    let s : (has_name set start || not (has_object graph start)) ≡ true =
    all_in (λ s. has_name set s || not (has_object graph s)) starts start b.1 (has_name_in starts start r.1) in
    let f : has_name set name ≡ false = not-true (has_name set name) a.1 in
    elim (or_cases (has_name set start) (not (has_object graph start)) s) [
      | inl e ↦ let g : has_name set name ≡ true = closed_path graph set start r.2.0 name b.0 e r.2.1 in cc
      | inr e ↦ let g = not-true (has_object graph start) e in cc
    ]

-- a test by which a name is reached
abbrev pub is_within_reach : List ObjectParts → List NameParts → NameParts → Bool
is_within_reach graph starts name = has_name (rounds (length graph) graph starts) name

abbrev pub is_garbage : World → Opening → NameParts → Bool
is_garbage w opening name =
    is_old opening name && (is_out_of_reach w.graph (starts w) name
    && list_all (λ t. is_out_of_reach (view w t) t.known name) w.transactions)

-- an object that was there as the cut opened is on another page, was reached or freed then, is freed since, or is freed now
abbrev pub is_done : World → Opening → ℕ → ℕ → ObjectParts → Bool
is_done w opening page slots o =
    not (o.name.page == page) || (not (is_old opening o.name) || (is_within_reach opening.graph opening.starts o.name
    || (is_freed w o.name || has_name (names_in w page slots) o.name)))

-- a test by which a sweep may free this set of slots
abbrev pub may_free : World → Opening → ℕ → ℕ → Bool
may_free w opening page slots =
    list_all (λ slot. length (filter (is_unfreed w.freed) (objects_at w.graph page slot)) == 1) (slots_in slots)
    && (list_all (is_garbage w opening) (names_in w page slots)
    && list_all (is_done w opening page slots) opening.graph)

pub garbage_by_test : (w : World) (opening : Opening) (name : NameParts) → is_garbage w opening name ≡ true → IsGarbage w opening name
garbage_by_test w opening name h =
    let others : Transaction → Bool = λ t. is_out_of_reach (view w t) t.known name in
    let a = and_parts (is_old opening name) (is_out_of_reach w.graph (starts w) name && list_all others w.transactions) h in
    let b = and_parts (is_out_of_reach w.graph (starts w) name) (list_all others w.transactions) a.1 in
    record {
      old = a.0;
      out = (
        out_of_reach w.graph (starts w) name b.0,
        each_from (λ t. ¬ IsHeldBy w t name) w.transactions
            (λ t m. out_of_reach (view w t) t.known name (all_in others w.transactions t b.1 m)),
      );
    }

done_cases : (w : World) (opening : Opening) (page slots : ℕ) (name : NameParts) → IsLost opening name → name.page ≡ page → not (is_freed w name) ≡ true
    → (a b c d e : Bool) → not (name.page == page) ≡ a → not (is_old opening name) ≡ b
    → is_within_reach opening.graph opening.starts name ≡ c → is_freed w name ≡ d
    → (a || (b || (c || (d || e)))) ≡ true → e ≡ true
done_cases w opening page slots name lost on unfreed true b c d e pa pb pc pd h =
    let same = eq-eqb name.page page on in let f = not-true (name.page == page) pa in cc
done_cases w opening page slots name lost on unfreed false true c d e pa pb pc pd h =
    let f = not-true (is_old opening name) pb in let g = lost.old in cc
done_cases w opening page slots name lost on unfreed false false true d e pa pb pc pd h =
    absurd (lost.unreached (rounds_sound (length opening.graph) opening.graph opening.starts name
    (has_name_in (rounds (length opening.graph) opening.graph opening.starts) name pc)))
done_cases w opening page slots name lost on unfreed false false false true e pa pb pc pd h =
    let f = not-true (is_freed w name) unfreed in cc
done_cases w opening page slots name lost on unfreed false false false false e pa pb pc pd h = h

complete_by_test : (w : World) (opening : Opening) (page slots : ℕ) → list_all (is_done w opening page slots) opening.graph ≡ true
    → (name : NameParts) → IsLost opening name → name.page ≡ page → not (is_freed w name) ≡ true → has_name (names_in w page slots) name ≡ true
complete_by_test w opening page slots h name lost on unfreed =
    let graph : List ObjectParts = opening.graph in
    let o = and_parts (has_object graph name) (not (has_name opening.freed name)) lost.old in
    let found = has_object_in graph name o.0 in
    let d : is_done w opening page slots found.0 ≡ true = all_in (is_done w opening page slots) graph found.0 h found.1 in
    done_cases w opening page slots name lost on unfreed
    (not (name.page == page)) (not (is_old opening name)) (is_within_reach graph opening.starts name) (is_freed w name)
    (has_name (names_in w page slots) name) refl refl refl refl
    (subst (λ n. (not (n.page == page) || (not (is_old opening n) || (is_within_reach graph opening.starts n
    || (is_freed w n || has_name (names_in w page slots) n)))) ≡ true) found.2 d)

pub may_free_by_test : (w : World) (opening : Opening) (page slots : ℕ) → may_free w opening page slots ≡ true → MayFree w opening page slots
may_free_by_test w opening page slots h =
    let one : Bool = list_all (λ slot. length (filter (is_unfreed w.freed) (objects_at w.graph page slot)) == 1) (slots_in slots) in
    let safe : Bool = list_all (is_garbage w opening) (names_in w page slots) in
    let done : Bool = list_all (is_done w opening page slots) opening.graph in
    let a = and_parts one (safe && done) h in
    let b = and_parts safe done a.1 in
    record {
      one_each = a.0;
      safe = each_from (IsGarbage w opening) (names_in w page slots)
          (λ n m. garbage_by_test w opening n (all_in (is_garbage w opening) (names_in w page slots) n b.0 m));
      complete = λ name lost on unfreed. complete_by_test w opening page slots b.1 name lost on unfreed;
    }
