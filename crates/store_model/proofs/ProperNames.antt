-- The names of a world are names, and each name of its graph is there once.
use Rattle.std.proofs.Common.{◌≡◌, ℕ, suc, ◌-◌, ◌<◌, ◌≤◌, ◌==◌, Bool, true, false, not, ◌&&◌, cond, List, [], ◌∷◌, ◌++◌, map, length, Option, Some, None, refl, sym, subst, ap, ◌∙◌, inl, inr, arith, IsTrue}
use Rattle.std.specs.List.{IsDistinct, AllByRecursion}
use Rattle.std.specs.Option.{unwrap_or, option_map}
use Rattle.std.specs.Prelude.{nat_lt, nat_le}
use Rattle.std.proofs.lemmas.Bool.{and_parts, and_from, cases_Bool, cases_lt, not-false, eqb-true, eq-eqb, ltb-true, leb-true}
use Rattle.object_graph.specs.NameParts.{NameParts, IsName}
use Rattle.object_graph.specs.SlotParts.{SlotParts}
use Rattle.object_graph.specs.ObjectParts.{ObjectParts}
use Rattle.object_graph.specs.Names.{name_eq}
use Rattle.object_graph.specs.declared.limits.TheConstants.{MOST_PAGES, LAST_GENERATION}
use Rattle.object_graph.specs.declared.calls.Call.{Call}
use Rattle.object_graph.specs.declared.calls.Call.TheVariants.{Begin, Get, Number, Set, Put, New, Commit, Abort, Reopen}
use Rattle.object_graph.specs.declared.calls.Reply.{Reply}
use Rattle.object_graph.specs.declared.calls.Reply.TheVariants.{Refused}
use Rattle.object_graph.specs.declared.calls.Refusal.{Refusal}
use Rattle.object_graph.specs.declared.calls.Refusal.TheVariants.{DiskFault, NoPage}
use Rattle.object_graph.specs.Graphs.{is_at, objects_at, has_object, has_name, has_same_name, HasEachNameOnce}
use Rattle.object_graph.specs.Slots.{below}
use Rattle.object_graph.proofs.Members.{In, each_in, each_from, in_append, in_map, map_in, in_filter, filter_in}
use Rattle.object_graph.proofs.Paths.{has_object_in, has_name_in, in_has_object}
use Rattle.store_model.specs.Worlds.{World, Transaction, Note, Event, Doubt, commit_in_doubt, view, new_object, with_writes, find_transaction, transaction, fresh_transaction, fresh_world, slots_of}
use Rattle.store_model.specs.Causes.{causes, new_name, new_name_at, free_slot, first_refusal}
use Rattle.store_model.specs.Replies.{AllowsReply}
use Rattle.store_model.specs.Steps.{makes, with_new, without, with_transaction, graph_in_doubt, commits_found, after_refusal, after_answer, after_reply, next}
use Rattle.store_model.specs.Histories.{after, IsLegal}
use Rattle.store_model.specs.FromImages.{slot_in, bare_world, world_of, AreImages}
use Rattle.store_model.specs.Lawful.{HasProperNames, IsOrderly, IsLawful, IsCovered, IsCoveredPath, IsPlaced, generations_at}
use Rattle.store_model.proofs.Allowed.{when_none}
use Rattle.store_model.proofs.Calls.{IsVacant, vacant}
use Rattle.store_model.proofs.Changes.{graph-with_new}
use Rattle.store_model.proofs.Lawfulness.{event_is_lawful}
use Rattle.store_model.proofs.Lists.{find_in, in_below}
use Rattle.store_model.proofs.Opened.{nones}
use Rattle.store_model.proofs.OpenedWorlds.{opened_names, names_placed}
use Rattle.store_model.proofs.Orders.{lawful_one}
use Rattle.store_model.proofs.Places.{generation_of}
use Rattle.store_model.proofs.Reach.{name-with_writes}
use Rattle.store_model.proofs.Shown.{AreApart, apart_below}

-- ---- each name once

place_of_same : (a b : NameParts) → name_eq a b ≡ true → (is_at a.page a.slot b ≡ true) × (a.generation ≡ b.generation)
place_of_same a b h =
    let p = and_parts (a.page == b.page) ((a.slot == b.slot) && (a.generation == b.generation)) h in
    let q = and_parts (a.slot == b.slot) (a.generation == b.generation) p.1 in (
      and_from (b.page == a.page) (b.slot == a.slot) (eq-eqb b.page a.page (sym (eqb-true a.page b.page p.0))) (eq-eqb b.slot a.slot (sym (eqb-true a.slot b.slot q.0))),
      eqb-true a.generation b.generation q.1,
    )

-- the generations of a place, with one object more at the front
generations_with : (o : ObjectParts) (os : List ObjectParts) (page slot : ℕ) (b : Bool) → is_at page slot o.name ≡ b
    → generations_at (o ∷ os) page slot ≡ cond b (o.name.generation ∷ generations_at os page slot) (generations_at os page slot)
generations_with o os page slot b e =
    ap (λ c. map generation_of (cond c (o ∷ objects_at os page slot) (objects_at os page slot))) e ∙ by_test b
  where
    by_test : (b : Bool) → map generation_of (cond b (o ∷ objects_at os page slot) (objects_at os page slot))
        ≡ cond b (o.name.generation ∷ generations_at os page slot) (generations_at os page slot)
    by_test true = refl
    by_test false = refl

abbrev ArePlacesApart : List ObjectParts → Type 0
ArePlacesApart graph = (page slot : ℕ) → AreApart (generations_at graph page slot)

rest_apart : (o : ObjectParts) (os : List ObjectParts) → ArePlacesApart (o ∷ os) → ArePlacesApart os
rest_apart o os h = λ page slot. elim (cases_Bool (is_at page slot o.name)) [
  | inl e ↦ (subst AreApart (generations_with o os page slot true e) (h page slot)).1
  | inr e ↦ subst AreApart (generations_with o os page slot false e) (h page slot)
]

at_own_place : (name : NameParts) → is_at name.page name.slot name ≡ true
at_own_place name = and_from (name.page == name.page) (name.slot == name.slot) (eq-eqb name.page name.page refl) (eq-eqb name.slot name.slot refl)

pub once_by_places : (graph : List ObjectParts) → ArePlacesApart graph → HasEachNameOnce graph
unfolding IsDistinct
once_by_places [] h = tt
once_by_places (o ∷ os) h = (
  each_from (λ (y : ObjectParts). has_same_name o y ≡ false) os (λ y m. elim (cases_Bool (has_same_name o y)) [
    | inr e ↦ e
    | inl e ↦
        let same = place_of_same o.name y.name e in
        let apart = subst AreApart (generations_with o os o.name.page o.name.slot true (at_own_place o.name)) (h o.name.page o.name.slot) in
        let there = filter_in (λ (x : ObjectParts). is_at o.name.page o.name.slot x.name) os y m same.0 in
        absurd (apart.0 (subst (λ n. In n (generations_at os o.name.page o.name.slot)) (sym same.1) (map_in generation_of (objects_at os o.name.page o.name.slot) y there)))
  ]),
  once_by_places os (rest_apart o os h),
)

pub each_name_once : (w : World) → IsOrderly w → HasEachNameOnce w.graph
each_name_once w lawful = once_by_places w.graph (λ page slot. subst AreApart (sym (lawful.counted page slot)) (apart_below (length (objects_at w.graph page slot))))

-- ---- names

abbrev pub AreProper : List ObjectParts → Type 0
AreProper graph = AllByRecursion (λ (o : ObjectParts). IsName o.name) graph

proper_any : (w : World) (n : ℕ) → HasProperNames w → AllByRecursion IsName (transaction w n).own
proper_any w n h = by_found (find_transaction w n) refl
  where
    by_found : (o : Option Transaction) → find_transaction w n ≡ o → AllByRecursion IsName (unwrap_or o (fresh_transaction n)).own
    by_found None e = tt
    by_found (Some t) e = each_in (λ (t : Transaction). AllByRecursion IsName t.own) w.transactions t h.own (find_in (λ (t : Transaction). t.number == n) w.transactions t e)

view_is_proper : (w : World) (n : ℕ) → HasProperNames w → AreProper (view w (transaction w n))
view_is_proper w n h =
    let t : Transaction = transaction w n in
    each_from (λ (o : ObjectParts). IsName o.name) (view w t) (λ seen m.
    let a = in_map (with_writes t.writes) (w.graph ++ map (new_object w) t.own) seen m in
    subst IsName (sym (ap (λ (o : ObjectParts). o.name) a.2 ∙ name-with_writes t.writes a.0)) (elim (in_append w.graph (map (new_object w) t.own) a.0 a.1) [
      | inl there ↦ each_in (λ (o : ObjectParts). IsName o.name) w.graph a.0 h.graph there
      | inr own ↦
          let b = in_map (new_object w) t.own a.0 own in
          subst IsName (sym (ap (λ (o : ObjectParts). o.name) b.2)) (each_in IsName t.own b.0 (proper_any w n h) b.1)
    ]))

doubt_is_proper : (w : World) (doubt : Doubt) → HasProperNames w → AreProper (graph_in_doubt w doubt)
doubt_is_proper w (commit_in_doubt t) h = view_is_proper w t h
doubt_is_proper w _ h = h.graph

graph_is_proper : (w : World) (call : Call) (note : Note) (reply : Reply) → HasProperNames w → AreProper (after_answer w call note reply).graph
graph_is_proper w (New t page) note reply h = subst AreProper (sym (graph-with_new w t (new_name w t page))) h.graph
graph_is_proper w (Commit t) note reply h = view_is_proper w t h
graph_is_proper w Reopen note reply h = found (commits_found w reply == w.commits)
  where
    found : (same : Bool) → AreProper (cond same w.graph (graph_in_doubt w w.doubt))
    found true = h.graph
    found false = doubt_is_proper w w.doubt h
graph_is_proper w _ note reply h = h.graph

-- a new name

few_at : (n last : ℕ) (gs : List ℕ) → gs ≡ map suc (below n) → 0 < last → ((g : ℕ) → In g gs → (g == last) ≡ false) → n < last
few_at n last gs is some none = elim (cases_lt n last) [
  | inl lt ↦ lt
  | inr le ↦
      let there : In (suc (last - 1)) (map suc (below n)) = map_in suc (below n) (last - 1) (in_below n (last - 1) (omega arith)) in
      let same : suc (last - 1) ≡ last = omega arith in
      let off = none last (subst (λ ns. In last ns) (sym is) (subst (λ k. In k (map suc (below n))) same there)) in
      let on = eq-eqb last last refl in cc
]

pub new_is_proper : (w : World) (t page slot : ℕ) → IsOrderly w → w.pages ≤ MOST_PAGES → page < w.pages → IsVacant w t page slot → IsName (new_name_at w.graph page slot)
new_is_proper w t page slot lawful few within free =
    let low : length (objects_at w.graph page slot) < LAST_GENERATION = few_at (length (objects_at w.graph page slot)) LAST_GENERATION (generations_at w.graph page slot) (lawful.counted page slot) (omega arith)
    (λ g m.
    let a = in_map generation_of (objects_at w.graph page slot) g m in
    subst (λ k. (k == LAST_GENERATION) ≡ false) (sym a.2) (free.young a.0 a.1)) in
    let s = free.within in
    record { page = omega (arith, within, few); slot = omega (arith, s); first = omega arith; last = omega (arith, low) }

-- what open transactions have of their own

abbrev pub AreOwnProper : List Transaction → Type 0
AreOwnProper ts = AllByRecursion (λ (t : Transaction). AllByRecursion IsName t.own) ts

own_changed : (w : World) (n : ℕ) (f : Transaction → Transaction) → HasProperNames w → ((t : Transaction) → AllByRecursion IsName t.own → AllByRecursion IsName (f t).own)
    → AreOwnProper (with_transaction w n f).transactions
own_changed w n f h keeps = each_from (λ (t : Transaction). AllByRecursion IsName t.own) (with_transaction w n f).transactions (λ u m.
    let a = in_map (λ (t : Transaction). cond (t.number == n) (f t) t) w.transactions u m in
    let before = each_in (λ (t : Transaction). AllByRecursion IsName t.own) w.transactions a.0 h.own a.1 in
    subst (λ (t : Transaction). AllByRecursion IsName t.own) (sym a.2) (by_test a.0 before (a.0.number == n)))
  where
    by_test : (t : Transaction) → AllByRecursion IsName t.own → (b : Bool) → AllByRecursion IsName (cond b (f t) t).own
    by_test t before true = keeps t before
    by_test t before false = before

made_proper : (names : List NameParts) (name : NameParts) → AllByRecursion IsName names → IsName name → AllByRecursion IsName (names ++ name ∷ [])
made_proper [] name h k = (k, tt)
made_proper (n ∷ names) name h k = (h.0, made_proper names name h.1 k)

own_with_new : (w : World) (t page : ℕ) (note : Note) → IsOrderly w → HasProperNames w → first_refusal w (New t page) note ≡ None → AreOwnProper (with_new w t (new_name w t page)).transactions
own_with_new w t page note lawful h may = by_slot (free_slot w t page) refl
  where
    within : page < w.pages
    within = ltb-true page w.pages (not-false (nat_lt page w.pages) (when_none _ NoPage (nones (causes w (New t page) note) may).1.1.0))

    by_slot : (o : Option ℕ) → free_slot w t page ≡ o → AreOwnProper (with_new w t (option_map (new_name_at w.graph page) o)).transactions
    by_slot None e = h.own
    by_slot (Some slot) e =
        let proper = new_is_proper w t page slot lawful h.pages within (vacant w t page slot e) in
        own_changed w t (makes (new_name_at w.graph page slot)) h (λ u before. made_proper u.own (new_name_at w.graph page slot) before proper)

own_without : (w : World) (n : ℕ) → HasProperNames w → AreOwnProper (without w n)
own_without w n h = each_from (λ (t : Transaction). AllByRecursion IsName t.own) (without w n) (λ u m.
    each_in (λ (t : Transaction). AllByRecursion IsName t.own) w.transactions u h.own (in_filter (λ (t : Transaction). not (t.number == n)) w.transactions u m).0)

own_is_proper : (w : World) (call : Call) (note : Note) (reply : Reply) → IsOrderly w → HasProperNames w → first_refusal w call note ≡ None → AreOwnProper (after_answer w call note reply).transactions
own_is_proper w (Begin t) note reply lawful h may = (tt, h.own)
own_is_proper w (Get t name field) note reply lawful h may = own_changed w t _ h (λ u before. before)
own_is_proper w (Number t name) note reply lawful h may = own_changed w t _ h (λ u before. before)
own_is_proper w (Set t name field target) note reply lawful h may = own_changed w t _ h (λ u before. before)
own_is_proper w (Put t name value) note reply lawful h may = own_changed w t _ h (λ u before. before)
own_is_proper w (New t page) note reply lawful h may = own_with_new w t page note lawful h may
own_is_proper w (Commit t) note reply lawful h may = own_without w t h
own_is_proper w (Abort t) note reply lawful h may = own_without w t h
own_is_proper w Reopen note reply lawful h may = tt
own_is_proper w _ note reply lawful h may = h.own

-- ---- each event

pages-with_new : (w : World) (t : ℕ) (name : Option NameParts) → (with_new w t name).pages ≡ w.pages
pages-with_new w t None = refl
pages-with_new w t (Some name) = refl

pages-after_answer : (w : World) (call : Call) (note : Note) (reply : Reply) → (after_answer w call note reply).pages ≡ w.pages
pages-after_answer w (New t page) note reply = pages-with_new w t (new_name w t page)
pages-after_answer w _ note reply = refl

refusal_keeps_proper : (w : World) (call : Call) (note : Note) (why : Refusal) → HasProperNames w → HasProperNames (after_refusal w call note why)
refusal_keeps_proper w call note DiskFault h = record { pages = h.pages; graph = h.graph; own = h.own }
refusal_keeps_proper w call note _ h = h

pub reply_keeps_proper : (w : World) (call : Call) (note : Note) (reply : Reply) → IsOrderly w → HasProperNames w → AllowsReply w call note reply → HasProperNames (after_reply w call note reply)
reply_keeps_proper w call note (Refused why) lawful h may = refusal_keeps_proper w call note why h
reply_keeps_proper w call note reply lawful h may = record {
  pages = subst (λ (n : ℕ). n ≤ MOST_PAGES) (sym (pages-after_answer w call note reply)) h.pages;
  graph = graph_is_proper w call note reply h;
  own = own_is_proper w call note reply lawful h may.0;
}

pub history_keeps_proper : (w : World) (events : List Event) → IsLawful w → HasProperNames w → IsLegal w events → HasProperNames (after w events)
history_keeps_proper w [] lawful h legal = h
history_keeps_proper w (e ∷ events) lawful h legal =
    history_keeps_proper (next w e) events (event_is_lawful w e.entry.call e.note e.entry.reply lawful legal.0.1)
    (reply_keeps_proper w e.entry.call e.note e.entry.reply lawful.orderly h legal.0.1) legal.1

-- ---- at the start

pub fresh_is_proper : (pages : ℕ) → pages ≤ MOST_PAGES → HasProperNames (fresh_world pages)
fresh_is_proper pages few = record { pages = few; graph = (record { page = omega arith; slot = omega arith; first = omega arith; last = omega arith }, tt); own = tt }

pub opened_is_proper : (commits : ℕ) (images : List (List SlotParts)) → AreImages images → length images ≤ MOST_PAGES
    → ((page slot : ℕ) → (slot_in images page slot).generation ≤ LAST_GENERATION) → HasProperNames (world_of commits images)
opened_is_proper commits images right few last = record {
  pages = few;
  graph = each_from (λ (o : ObjectParts). IsName o.name) (world_of commits images).graph (λ o m.
      let there = sym (opened_names commits images right o.name) ∙ in_has_object (world_of commits images).graph o m in
      let given = and_parts (nat_lt 0 o.name.generation) (nat_le o.name.generation (slot_in images o.name.page o.name.slot).generation) there in
      let placed = each_in (λ (o : ObjectParts). IsPlaced (length images) (slots_of (bare_world commits (length images))) o.name) (world_of commits images).graph o (names_placed (bare_world commits (length images)) images right) m in
      let low : o.name.page < length images = placed.0 in
      let s : o.name.slot < slots_of (bare_world commits (length images)) o.name.page = placed.1 in
      let some : 0 < o.name.generation = ltb-true 0 o.name.generation given.0 in
      let le : o.name.generation ≤ (slot_in images o.name.page o.name.slot).generation = leb-true o.name.generation (slot_in images o.name.page o.name.slot).generation given.1 in
      let bound = last o.name.page o.name.slot in
      record { page = omega (arith, low, few); slot = omega (arith, s); first = omega (arith, some); last = omega (arith, le, bound) });
  own = tt;
}

-- ---- what is freed, and what is known

name_is_proper : (w : World) (name : NameParts) → HasProperNames w → has_object w.graph name ≡ true → IsName name
name_is_proper w name h there = let a = has_object_in w.graph name there in subst IsName a.2 (each_in (λ (o : ObjectParts). IsName o.name) w.graph a.0 h.graph a.1)

pub freed_is_proper : (w : World) (name : NameParts) → IsOrderly w → HasProperNames w → has_name w.freed name ≡ true → IsName name
freed_is_proper w name lawful h freed =
    name_is_proper w name h (each_in (λ (n : NameParts). IsTrue (has_object w.graph n)) w.freed name lawful.freed_there (has_name_in w.freed name freed))

path_ends : (graph : List ObjectParts) (t : Transaction) (first : NameParts) (rest : List NameParts) (last : NameParts) → IsCoveredPath graph t first rest last → has_object graph last ≡ true
path_ends graph t first [] last p = subst (λ n. has_object graph n ≡ true) p.0 p.1
path_ends graph t first (next ∷ rest) last p = path_ends graph t next rest last p.3

pub known_is_proper : (w : World) (t : Transaction) (name : NameParts) → IsOrderly w → HasProperNames w → In t w.transactions → has_name t.known name ≡ true → IsName name
known_is_proper w t name lawful h there known = elim (each_in (IsCovered w.graph t) t.known name (lawful_one w t lawful there).known (has_name_in t.known name known)) [
  | inl own ↦ each_in IsName t.own name (each_in (λ (t : Transaction). AllByRecursion IsName t.own) w.transactions t h.own there) (has_name_in t.own name own)
  | inr path ↦ name_is_proper w name h (path_ends w.graph t path.0 path.1 name path.3)
]
