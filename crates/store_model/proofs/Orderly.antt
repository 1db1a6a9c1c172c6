-- Each event leaves the world orderly, and what is freed out of reach.
use Rattle.std.proofs.Common.{◌≡◌, ℕ, ◌<◌, ◌==◌, Bool, true, false, not, cond, List, [], ◌∷◌, ◌++◌, length, Option, Some, None, refl, sym, subst, ap, inl, inr, arith}
use Rattle.std.specs.List.{find, filter, AllByRecursion}
use Rattle.std.specs.Bool.{IsTrue}
use Rattle.std.specs.Option.{is_some, unwrap_or, MatchOption}
use Rattle.std.proofs.lemmas.Bool.{and_parts, and_from, cases_Bool, eqb-true, not-true}
use Rattle.object_graph.specs.NameParts.{NameParts}
use Rattle.object_graph.specs.Names.{root_name}
use Rattle.object_graph.specs.ObjectParts.{ObjectParts}
use Rattle.object_graph.specs.declared.calls.Call.{Call}
use Rattle.object_graph.specs.declared.calls.Call.TheVariants.{Begin, Get, Number, Set, Put, New, Commit, Abort, OpenCut, Copy, HandIn, Close, Mark, Sweep, EndCut, DropCut, Reopen}
use Rattle.object_graph.specs.declared.calls.Reply.{Reply}
use Rattle.object_graph.specs.declared.calls.Reply.TheVariants.{Freed, Reopened, Refused}
use Rattle.object_graph.specs.declared.calls.Refusal.{Refusal}
use Rattle.object_graph.specs.declared.calls.Refusal.TheVariants.{DiskFault}
use Rattle.object_graph.specs.Graphs.{has_name, has_object, objects_at}
use Rattle.store_model.specs.Worlds.{World, Transaction, OpenedCut, Doubt, no_doubt, commit_in_doubt, sweep_in_doubt, Note, view, is_freed, unfreed, find_transaction, transaction, fresh_transaction, IsReached}
use Rattle.store_model.specs.Causes.{first_refusal, causes, new_name}
use Rattle.store_model.specs.Replies.{AllowsReply, Answers, names_in, found_in, IsGarbage, MayFree, MayFreeNow, MayReopen}
use Rattle.store_model.specs.Steps.{graph_in_doubt, after_refusal, after_answer, after_reply}
use Rattle.store_model.specs.Worlds.{IsOutOfReach}
use Rattle.store_model.specs.Lawful.{IsOwn, IsLawfulTransaction, IsApart}
use Rattle.object_graph.proofs.Members.{in_append, append_right, in_filter, filter_in, each_in, each_from}
use Rattle.object_graph.proofs.Paths.{has_name_in, in_has_name, in_has_object}
use Rattle.store_model.proofs.Allowed.{when_none}
use Rattle.store_model.specs.Lawful.{IsOrderly}
use Rattle.store_model.specs.Worlds.{is_unfreed}
use Rattle.store_model.proofs.OutOfReach.{out_stays}
use Rattle.store_model.proofs.Lists.{find_in}
use Rattle.store_model.proofs.Changes.{freed-with_new, freed-after_refusal}
use Rattle.store_model.proofs.Opened.{nones, is_open, number_of_open, commit_is_open}
use Rattle.store_model.proofs.Keeps.{follows, in_names_in}
use Rattle.store_model.proofs.Lists.{all_map, find_none_filter, apart_at, apart_from}
use Rattle.store_model.proofs.Orders.{IsPlacedName, lawful_one, placed_one}
use Rattle.store_model.proofs.Calls.{get_is_orderly, number_is_orderly, set_is_orderly, put_is_orderly, new_is_orderly}
use Rattle.store_model.proofs.Committed.{view_is_orderly, commit_is_orderly, abort_is_orderly}

-- ---- a transaction begins

pub fresh_is_lawful : (w : World) (n : ℕ) → IsOrderly w → IsLawfulTransaction w.graph w.freed (fresh_transaction n)
fresh_is_lawful w n lawful =
    let root : has_object w.graph root_name ≡ true = (and_parts (has_object w.graph root_name) (not (is_freed w root_name)) lawful.root).0 in
    record { own = tt; one_at_each_place = λ page slot. omega arith; writes = tt; known = (inr (root_name, [], refl, (refl, root)), tt) }

none_found : (ts : List Transaction) (n k : ℕ) → find (λ (t : Transaction). t.number == n) ts ≡ None → length (filter (λ (t : Transaction). t.number == k) ts) < 2
    → length (filter (λ (t : Transaction). t.number == k) (fresh_transaction n ∷ ts)) < 2
none_found ts n k e few = by_test (n == k) refl
  where
    by_test : (b : Bool) → (n == k) ≡ b → length (cond b (fresh_transaction n ∷ filter (λ (t : Transaction). t.number == k) ts) (filter (λ (t : Transaction). t.number == k) ts)) < 2
    by_test false q = few
    by_test true q =
        let z : filter (λ (t : Transaction). t.number == k) ts ≡ [] =
        find_none_filter (λ (t : Transaction). t.number == k) ts (subst (λ m. find (λ (t : Transaction). t.number == m) ts ≡ None) (eqb-true n k q) e) in
        rw z (omega arith)

some_not_open : {A : Type 0} (o : Option A) → is_some o ≡ false → o ≡ None
some_not_open None h = refl
some_not_open (Some x) h = cc

begin_is_orderly : (w : World) (n : ℕ) (note : Note) → IsOrderly w → first_refusal w (Begin n) note ≡ None → IsOrderly (record w { transactions = fresh_transaction n ∷ w.transactions })
begin_is_orderly w n note lawful may =
    let h = nones (causes w (Begin n) note) may in
    let absent : find_transaction w n ≡ None = some_not_open (find_transaction w n) (when_none (is_some (find_transaction w n)) _ h.1.0) in
    record {
      root = lawful.root;
      placed = lawful.placed;
      own_placed = (tt, lawful.own_placed);
      whole = lawful.whole;
      counted = lawful.counted;
      last = lawful.last;
      distinct = λ k. none_found w.transactions n k absent (lawful.distinct k);
      transactions = (fresh_is_lawful w n lawful, lawful.transactions);
      apart = apart_from (fresh_transaction n ∷ w.transactions) (λ t u i j ne. elim i [
        | inl e ↦ subst (λ (t : Transaction). IsApart t u) (sym e) (λ page used. refl)
        | inr r ↦ elim j [
          | inl e ↦ subst (λ (u : Transaction). IsApart t u) (sym e) (λ page used. cc)
          | inr s ↦ apart_at w.transactions t u lawful.apart r s ne
        ]
      ]);
      freed_there = lawful.freed_there;
    }

-- ---- more is freed

-- names that may be freed: those of the graph that aren't reached

freed_is_orderly : (w : World) (names : List NameParts) → IsOrderly w → AllByRecursion (λ name. IsTrue (has_object w.graph name) × (¬ IsReached w name)) names
    → IsOrderly (record w { freed = names ++ w.freed })
freed_is_orderly w names lawful free = record {
  root = and_from (has_object w.graph root_name) (not (has_name (names ++ w.freed) root_name)) root.0 (elim (cases_Bool (has_name (names ++ w.freed) root_name)) [
    | inr e ↦ ap not e
    | inl e ↦ elim (in_append names w.freed root_name (has_name_in (names ++ w.freed) root_name e)) [
      | inl a ↦
          absurd ((each_in (λ (name : NameParts). IsTrue (has_object w.graph name) × (¬ IsReached w name)) names root_name free a).1
          (root_name, refl, ([], (refl, root.0))))
      | inr b ↦ let c = in_has_name w.freed root_name b in let d = not-true (has_name w.freed root_name) root.1 in cc
    ]
  ]);
  placed = lawful.placed;
  own_placed = lawful.own_placed;
  whole = lawful.whole;
  counted = lawful.counted;
  last = each_from (λ (o : ObjectParts). o.name.generation ≡ length (objects_at w.graph o.name.page o.name.slot)) (filter (is_unfreed (names ++ w.freed)) w.graph) (λ o m.
      let a = in_filter (is_unfreed (names ++ w.freed)) w.graph o m in
      each_in (λ (o : ObjectParts). o.name.generation ≡ length (objects_at w.graph o.name.page o.name.slot)) (unfreed w) o lawful.last
      (filter_in (is_unfreed w.freed) w.graph o a.0 (elim (cases_Bool (has_name w.freed o.name)) [
        | inr e ↦ ap not e
        | inl e ↦ let b = more o.name e in let c = not-true (has_name (names ++ w.freed) o.name) a.1 in cc
      ])));
  distinct = lawful.distinct;
  transactions = all_map (IsLawfulTransaction w.graph w.freed) (IsLawfulTransaction w.graph (names ++ w.freed)) w.transactions lawful.transactions (λ t m lt. record {
    own = all_map (IsOwn w.graph w.freed t) (IsOwn w.graph (names ++ w.freed) t) t.own lt.own (λ n m own. record {
      page = own.page;
      free = all_map (λ (o : ObjectParts). IsTrue (has_name w.freed o.name)) (λ (o : ObjectParts). IsTrue (has_name (names ++ w.freed) o.name)) (objects_at w.graph n.page n.slot) own.free (λ o m h. more o.name h);
      next = own.next;
    });
    one_at_each_place = lt.one_at_each_place;
    writes = lt.writes;
    known = lt.known;
  });
  apart = lawful.apart;
  freed_there = each_from (λ (name : NameParts). IsTrue (has_object w.graph name)) (names ++ w.freed) (λ name m. elim (in_append names w.freed name m) [
    | inl a ↦ (each_in (λ (name : NameParts). IsTrue (has_object w.graph name) × (¬ IsReached w name)) names name free a).0
    | inr b ↦ each_in (λ (name : NameParts). IsTrue (has_object w.graph name)) w.freed name lawful.freed_there b
  ]);
}
  where
    root : IsTrue (has_object w.graph root_name) × IsTrue (not (is_freed w root_name))
    root = and_parts (has_object w.graph root_name) (not (is_freed w root_name)) lawful.root

    more : (name : NameParts) → has_name w.freed name ≡ true → has_name (names ++ w.freed) name ≡ true
    more name h = in_has_name (names ++ w.freed) name (append_right names w.freed name (has_name_in w.freed name h))

-- what a sweep may free
may_free_unreached : (w : World) (page slots : ℕ) → MayFreeNow w page slots → AllByRecursion (λ name. IsTrue (has_object w.graph name) × (¬ IsReached w name)) (names_in w page slots)
may_free_unreached w page slots may = by_cut w.cut may
  where
    by_cut : (o : Option OpenedCut) → MatchOption o ⊥ (λ cut. MayFree w cut.opening page slots) → AllByRecursion (λ name. IsTrue (has_object w.graph name) × (¬ IsReached w name)) (names_in w page slots)
    by_cut None m = absurd m
    by_cut (Some cut) m = all_map (IsGarbage w cut.opening) (λ name. IsTrue (has_object w.graph name) × (¬ IsReached w name)) (names_in w page slots) m.safe (λ name i garbage.
        let a = in_names_in w page slots name i in (
          subst (λ n. has_object w.graph n ≡ true) (sym a.5) (in_has_object w.graph a.0 a.1),
          garbage.out.0,
        ))

-- ---- reopening

emptied : (w : World) (commits : ℕ) → IsOrderly w → IsOrderly (record w { graph = w.graph; commits = commits; transactions = [] })
emptied w commits a = record {
  root = a.root;
  placed = a.placed;
  own_placed = tt;
  whole = a.whole;
  counted = a.counted;
  last = a.last;
  distinct = λ number. omega arith;
  transactions = tt;
  apart = tt;
  freed_there = a.freed_there;
}

abbrev pub HasUnreached : World → List NameParts → Type 0
HasUnreached w names = AllByRecursion (λ name. IsTrue (has_object w.graph name) × (¬ IsReached w name)) names

reopened_with : (w : World) (graph : List ObjectParts) (commits : ℕ) (names : List NameParts) → IsOrderly (record w { graph = graph; commits = commits; transactions = [] })
    → HasUnreached (record w { graph = graph; commits = commits; transactions = [] }) names
    → IsOrderly (record w { graph = graph; commits = commits; freed = names ++ w.freed; transactions = []; cut = None; broken = None; doubt = no_doubt })
reopened_with w graph commits names lawful free = freed_is_orderly (record w { graph = graph; commits = commits; transactions = [] }) names lawful free

pub found_unreached : (w : World) (doubt : Doubt) (commits : ℕ) (names : List NameParts) → MayReopen w doubt commits names → HasUnreached w names
found_unreached w no_doubt commits names may = subst (HasUnreached w) (sym may.1) tt
found_unreached w (commit_in_doubt t) commits names may = subst (HasUnreached w) (sym may.1) tt
found_unreached w (sweep_in_doubt page) commits names may = elim may.1 [
  | inl e ↦ subst (HasUnreached w) (sym e) tt
  | inr s ↦ subst (HasUnreached w) (sym s.2) (may_free_unreached w page s.0 s.1)
]

lawful_any : (w : World) (n : ℕ) → IsOrderly w → IsLawfulTransaction w.graph w.freed (transaction w n) × AllByRecursion (IsPlacedName w) (transaction w n).own
lawful_any w n lawful = by_found (find_transaction w n) refl
  where
    by_found : (o : Option Transaction) → find_transaction w n ≡ o
        → IsLawfulTransaction w.graph w.freed (unwrap_or o (fresh_transaction n)) × AllByRecursion (IsPlacedName w) (unwrap_or o (fresh_transaction n)).own
    by_found None e = (fresh_is_lawful w n lawful, tt)
    by_found (Some t) e =
        let i = find_in (λ (t : Transaction). t.number == n) w.transactions t e in
        (lawful_one w t lawful i, placed_one w t lawful i)

doubt_view : (w : World) (n commits : ℕ) → IsOrderly w → IsOrderly (record w { graph = view w (transaction w n); commits = commits; transactions = [] })
doubt_view w n commits lawful = let a = lawful_any w n lawful in view_is_orderly w (transaction w n) commits lawful a.0 a.1

reopen_by : (w : World) (doubt : Doubt) (commits : ℕ) (names : List NameParts) (b : Bool) → IsOrderly w → MayReopen w doubt commits names
    → IsOrderly (record w { graph = cond b w.graph (graph_in_doubt w doubt); commits = commits; freed = names ++ w.freed; transactions = []; cut = None; broken = None; doubt = no_doubt })
reopen_by w doubt commits names true lawful may = reopened_with w w.graph commits names (emptied w commits lawful) (found_unreached w doubt commits names may)
reopen_by w no_doubt commits names false lawful may = reopened_with w w.graph commits names (emptied w commits lawful) (found_unreached w no_doubt commits names may)
reopen_by w (sweep_in_doubt page) commits names false lawful may =
    reopened_with w w.graph commits names (emptied w commits lawful) (found_unreached w (sweep_in_doubt page) commits names may)
reopen_by w (commit_in_doubt t) commits names false lawful may =
    reopened_with w (view w (transaction w t)) commits names (doubt_view w t commits lawful)
    (subst (HasUnreached (record w { graph = view w (transaction w t); commits = commits; transactions = [] })) (sym may.1) tt)

-- ---- each event

refusal_is_orderly : (w : World) (call : Call) (note : Note) (why : Refusal) → IsOrderly w → IsOrderly (after_refusal w call note why)
refusal_is_orderly w call note DiskFault lawful = lawful
refusal_is_orderly w call note _ lawful = lawful

answer_is_orderly : (w : World) (call : Call) (note : Note) (reply : Reply) → IsOrderly w → first_refusal w call note ≡ None → Answers w call note reply
    → IsOrderly (after_answer w call note reply)
answer_is_orderly w (Begin t) note reply lawful may is = begin_is_orderly w t note lawful may
answer_is_orderly w (Get t name field) note reply lawful may is = get_is_orderly w t name field note lawful may
answer_is_orderly w (Number t name) note reply lawful may is = number_is_orderly w t name note lawful may
answer_is_orderly w (Set t name field target) note reply lawful may is = set_is_orderly w t name field target note lawful may
answer_is_orderly w (Put t name value) note reply lawful may is = put_is_orderly w t name value note lawful may
answer_is_orderly w (New t page) note reply lawful may is = new_is_orderly w t page note lawful may
answer_is_orderly w (Commit t) note reply lawful may is =
    commit_is_orderly w t lawful (commit_is_open w t note may) (number_of_open w t (is_open w t (nones (causes w (Commit t) note) may).1.0))
answer_is_orderly w (Abort t) note reply lawful may is = abort_is_orderly w t lawful
answer_is_orderly w OpenCut note reply lawful may is = lawful
answer_is_orderly w (Copy page) note reply lawful may is = lawful
answer_is_orderly w (HandIn page number seen) note reply lawful may is = lawful
answer_is_orderly w Close note reply lawful may is = lawful
answer_is_orderly w (Mark workers) note reply lawful may is = lawful
answer_is_orderly w (Sweep page) (note) (Freed slots) lawful may is = freed_is_orderly w (names_in w page slots) lawful (may_free_unreached w page slots is)
answer_is_orderly w (Sweep page) note reply lawful may is = absurd is
answer_is_orderly w EndCut note reply lawful may is = lawful
answer_is_orderly w DropCut note reply lawful may is = lawful
answer_is_orderly w Reopen note (Reopened commits) lawful may is = reopen_by w w.doubt commits (found_in note) (commits == w.commits) lawful is
answer_is_orderly w Reopen note reply lawful may is = absurd is

-- each allowed event leaves the world orderly
pub event_is_orderly : (w : World) (call : Call) (note : Note) (reply : Reply) → IsOrderly w → AllowsReply w call note reply → IsOrderly (after_reply w call note reply)
event_is_orderly w call note (Refused why) lawful may = refusal_is_orderly w call note why lawful
event_is_orderly w call note reply lawful may = answer_is_orderly w call note reply lawful may.0 may.1

-- ---- what is freed stays out of reach

-- what an event frees wasn't reached
abbrev pub FreesUnreached : World → List NameParts → Type 0
FreesUnreached w after = (more : List NameParts) × (after ≡ more ++ w.freed) × HasUnreached w more

frees_answer : (w : World) (call : Call) (note : Note) (reply : Reply) → Answers w call note reply → FreesUnreached w (after_answer w call note reply).freed
frees_answer w (Sweep page) note (Freed slots) is = (names_in w page slots, refl, may_free_unreached w page slots is)
frees_answer w (Sweep page) note reply is = absurd is
frees_answer w Reopen note (Reopened commits) is = (found_in note, refl, found_unreached w w.doubt commits (found_in note) is)
frees_answer w Reopen note reply is = absurd is
frees_answer w (New t page) note reply is = ([], freed-with_new w t (new_name w t page), tt)
frees_answer w _ note reply is = ([], refl, tt)

pub frees_unreached : (w : World) (call : Call) (note : Note) (reply : Reply) → AllowsReply w call note reply → FreesUnreached w (after_reply w call note reply).freed
frees_unreached w call note (Refused why) may = ([], freed-after_refusal w call note why, tt)
frees_unreached w call note reply may = frees_answer w call note reply may.1

pub event_keeps_freed : (w : World) (call : Call) (note : Note) (reply : Reply) → IsOrderly w → AllByRecursion (IsOutOfReach w) w.freed → AllowsReply w call note reply
    → AllByRecursion (IsOutOfReach (after_reply w call note reply)) (after_reply w call note reply).freed
event_keeps_freed w call note reply lawful out may =
    let after : World = after_reply w call note reply in
    let next = event_is_orderly w call note reply lawful may in
    let f = follows w call note reply lawful may in
    let more = frees_unreached w call note reply may in
    subst (AllByRecursion (IsOutOfReach after)) (sym more.1) (each_from (IsOutOfReach after) (more.0 ++ w.freed) (λ name m. elim (in_append more.0 w.freed name m) [
      | inl a ↦
          let n = each_in (λ (name : NameParts). IsTrue (has_object w.graph name) × (¬ IsReached w name)) more.0 name more.2 a in
          out_stays w after name next f n.0 n.1
      | inr b ↦
          out_stays w after name next f (each_in (λ (name : NameParts). IsTrue (has_object w.graph name)) w.freed name lawful.freed_there b)
          (each_in (IsOutOfReach w) w.freed name out b).0
    ]))
