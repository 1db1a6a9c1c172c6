-- The calls of a transaction, one by one.
use Rattle.std.proofs.Common.{◌≡◌, ◌≢◌, ℕ, ◌+◌, ◌<◌, ◌==◌, Bool, true, false, not, ◌&&◌, ◌||◌, cond, List, [], ◌∷◌, ◌++◌, length, Option, Some, None, append-nil, refl, sym, subst, ap, ◌∙◌, inl, inr, arith, ltb}
use borrow.Author.Tests.{ltb-true}
use Rattle.std.specs.List.{list_any, filter, AllByRecursion}
use Rattle.std.specs.Bool.{IsTrue}
use Rattle.std.specs.Option.{option_map}
use Rattle.std.proofs.lemmas.Bool.{and_parts, and_from, or_cases, cases_Bool, eqb-true, not-true, not-false}
use Rattle.std.proofs.lemmas.List.Elements.{filter-append}
use Rattle.object_graph.specs.NameParts.{NameParts}
use Rattle.object_graph.specs.ObjectParts.{ObjectParts}
use Rattle.object_graph.specs.declared.calls.Call.TheVariants.{Get, Number, Set, Put, New}
use Rattle.object_graph.specs.Graphs.{has_name, is_at, objects_at}
use Rattle.object_graph.specs.Slots.{below}
use Rattle.object_graph.specs.declared.limits.TheConstants.{LAST_GENERATION}
use Rattle.store_model.specs.Worlds.{World, Transaction, Note, Write, link, assign, slots_of, is_unfreed, transaction}
use Rattle.store_model.specs.Causes.{has_page, first_refusal, causes, not_open, stranger, strange_target, busy_to_read, busy_to_write, field_seen, holder, is_occupied, free_slot, new_name_at, new_name}
use Rattle.store_model.specs.Steps.{with_page, with_name, with_target, with_transaction, with_new, reads_page, writes, makes}
use Rattle.store_model.specs.Lawful.{IsOwn, IsKnownWrite, IsCovered, IsLawfulTransaction, IsApart}
use Rattle.object_graph.proofs.Members.{In, in_append, append_left, append_right, each_in, each_from, or_left, or_right}
use Rattle.object_graph.proofs.Paths.{has_name_in, in_has_name}
use Rattle.store_model.proofs.Cuts.{below_bound}
use Rattle.store_model.proofs.Allowed.{when_none, mapped_none, nobody_holds, with_page_cases}
use Rattle.store_model.specs.Lawful.{IsOrderly}
use Rattle.store_model.proofs.Lists.{find_in}
use Rattle.store_model.proofs.Opened.{nones, is_open, open_in, number_of_open}
use Rattle.store_model.proofs.Lists.{find_passes, any_false_filter, with_page_has, with_page_keeps, with_name_keeps, in_with_name, apart_at}
use Rattle.store_model.proofs.Grown.{Grew, grew_own, grew_covered, grew_all_known, grew_all_own, grew_all_writes, field_target}
use Rattle.store_model.proofs.Orders.{IsPlacedName, lawful_one, placed_one, IsLawfulChange, change_is_orderly}

is_known : (w : World) (n : ℕ) (name : NameParts) → stranger w n name ≡ None → has_name (transaction w n).known name ≡ true
is_known w n name h = not-false (has_name (transaction w n).known name) (when_none (not (has_name (transaction w n).known name)) _ h)

-- ---- apart

pub right_false : (a b : Bool) → (a || b) ≡ false → b ≡ false
right_false true b e = cc
right_false false b e = e

apart_reader : (t after u : Transaction) (page : ℕ) → after.pages_written ≡ t.pages_written → after.pages_read ≡ with_page page t.pages_read
    → has_page u.pages_written page ≡ false → IsApart t u → IsApart u t → IsApart after u × IsApart u after
apart_reader t after u page same read free a b = (
  λ p used. subst (λ ps. has_page ps p ≡ false) (sym same) (a p used),
  λ p used. elim (or_cases (has_page after.pages_read p) (has_page after.pages_written p) used) [
    | inl r ↦ elim (with_page_cases page p t.pages_read (subst (λ ps. has_page ps p ≡ true) read r)) [
      | inl e ↦ subst (λ k. has_page u.pages_written k ≡ false) e free
      | inr before ↦ b p (or_left (has_page t.pages_read p) (has_page t.pages_written p) before)
    ]
    | inr s ↦ b p (or_right (has_page t.pages_read p) (has_page t.pages_written p) (subst (λ ps. has_page ps p ≡ true) same s))
  ],
)

apart_writer : (t after u : Transaction) (page : ℕ) → after.pages_read ≡ t.pages_read → after.pages_written ≡ with_page page t.pages_written
    → (has_page u.pages_read page || has_page u.pages_written page) ≡ false → IsApart t u → IsApart u t → IsApart after u × IsApart u after
apart_writer t after u page same wrote free a b = (
  λ p used. elim (cases_Bool (has_page after.pages_written p)) [
    | inr f ↦ f
    | inl e ↦ elim (with_page_cases page p t.pages_written (subst (λ ps. has_page ps p ≡ true) wrote e)) [
      | inl q ↦ let z : (has_page u.pages_read p || has_page u.pages_written p) ≡ false = subst (λ k. (has_page u.pages_read k || has_page u.pages_written k) ≡ false) q free in cc
      | inr before ↦ let z = a p used in cc
    ]
  ],
  λ p used. elim (or_cases (has_page after.pages_read p) (has_page after.pages_written p) used) [
    | inl r ↦ b p (or_left (has_page t.pages_read p) (has_page t.pages_written p) (subst (λ ps. has_page ps p ≡ true) same r))
    | inr s ↦ elim (with_page_cases page p t.pages_written (subst (λ ps. has_page ps p ≡ true) wrote s)) [
      | inl e ↦ subst (λ k. has_page u.pages_written k ≡ false) e (right_false (has_page u.pages_read page) (has_page u.pages_written page) free)
      | inr before ↦ b p (or_right (has_page t.pages_read p) (has_page t.pages_written p) before)
    ]
  ],
)

both_apart : (w : World) (n : ℕ) (u : Transaction) → IsOrderly w → not_open w n ≡ None → In u w.transactions → u.number ≢ n → IsApart (transaction w n) u × IsApart u (transaction w n)
both_apart w n u lawful opn j ne =
    let i = open_in w n opn in
    let q = number_of_open w n (is_open w n opn) in (
      apart_at w.transactions (transaction w n) u lawful.apart i j (λ e. ne (e ∙ q)),
      apart_at w.transactions u (transaction w n) lawful.apart j i (λ e. ne (sym e ∙ q)),
    )

no_writer : (w : World) (n page : ℕ) (u : Transaction) → busy_to_read w n page ≡ None → In u w.transactions → u.number ≢ n → has_page u.pages_written page ≡ false
no_writer w n page u h j ne = nobody_holds w n (λ t. has_page t.pages_written page) u (mapped_none (holder w n (λ t. has_page t.pages_written page)) h) j ne

pub no_user : (w : World) (n page : ℕ) (u : Transaction) → busy_to_write w n page ≡ None → In u w.transactions → u.number ≢ n → (has_page u.pages_read page || has_page u.pages_written page) ≡ false
no_user w n page u h j ne =
    nobody_holds w n (λ t. has_page t.pages_read page || has_page t.pages_written page) u
    (mapped_none (holder w n (λ t. has_page t.pages_read page || has_page t.pages_written page)) h) j ne

-- ---- reads

grew_reading : (t : Transaction) (page : ℕ) (v : Option NameParts) → Grew t (reads_page page (record t { known = with_target v t.known }))
grew_reading t page None = record { known = λ n h. h; own = λ n h. h; read = λ p h. with_page_keeps page p t.pages_read h; written = λ p h. h }
grew_reading t page (Some name) =
    record { known = λ n h. with_name_keeps name n t.known h; own = λ n h. h; read = λ p h. with_page_keeps page p t.pages_read h; written = λ p h. h }

reading : (w : World) (n page : ℕ) (v : Option NameParts) → IsOrderly w → not_open w n ≡ None → busy_to_read w n page ≡ None
    → ((target : NameParts) → v ≡ Some target → IsCovered w.graph (reads_page page (record (transaction w n) { known = with_target v (transaction w n).known })) target)
    → IsLawfulChange w n (λ u. reads_page page (record u { known = with_target v u.known }))
reading w n page v lawful opn free is_covered = record {
  is_open = open_in w n opn;
  number = number_of_open w n (is_open w n opn);
  numbers = λ t. refl;
  lawful = record {
    own = grew_all_own w.graph w.freed t after g lt.own;
    one_at_each_place = lt.one_at_each_place;
    writes = grew_all_writes t after g lt.writes;
    known = knows v refl;
  };
  placed = placed_one w t lawful (open_in w n opn);
  apart = λ u j ne.
      let a = both_apart w n u lawful opn j ne in
      apart_reader t after u page refl refl (no_writer w n page u free j ne) a.0 a.1;
}
  where
    t : Transaction
    t = transaction w n

    after : Transaction
    after = reads_page page (record t { known = with_target v t.known })

    g : Grew t after
    g = grew_reading t page v

    lt : IsLawfulTransaction w.graph w.freed t
    lt = lawful_one w t lawful (open_in w n opn)

    knows : (o : Option NameParts) → v ≡ o → AllByRecursion (IsCovered w.graph after) (with_target o t.known)
    knows None e = grew_all_known w.graph t after g lt.known
    knows (Some target) e = each_from (IsCovered w.graph after) (with_name target t.known) (λ m i.
        elim (in_with_name target m t.known i) [
          | inl q ↦ subst (IsCovered w.graph after) (sym q) (is_covered target e)
          | inr before ↦ grew_covered w.graph t after m g (each_in (IsCovered w.graph t) t.known m lt.known before)
        ])

pub get_is_orderly : (w : World) (n : ℕ) (name : NameParts) (field : ℕ) (note : Note) → IsOrderly w → first_refusal w (Get n name field) note ≡ None
    → IsOrderly (with_transaction w n (λ u. reads_page name.page (record u { known = with_target (field_seen w n name field) u.known })))
get_is_orderly w n name field note lawful may =
    let h = nones (causes w (Get n name field) note) may in
    let v : Option NameParts = field_seen w n name field in
    change_is_orderly w n (λ u. reads_page name.page (record u { known = with_target v u.known })) lawful
    (reading w n name.page v lawful h.1.0 h.1.1.1.1.0 (λ target e.
    field_target w n (reads_page name.page (record (transaction w n) { known = with_target v (transaction w n).known })) name field target lawful (open_in w n h.1.0)
    (grew_reading (transaction w n) name.page v) (with_page_has name.page (transaction w n).pages_read) (is_known w n name h.1.1.0) e))

pub number_is_orderly : (w : World) (n : ℕ) (name : NameParts) (note : Note) → IsOrderly w → first_refusal w (Number n name) note ≡ None → IsOrderly (with_transaction w n (reads_page name.page))
number_is_orderly w n name note lawful may =
    let h = nones (causes w (Number n name) note) may in
    change_is_orderly w n (reads_page name.page) lawful
    (let r = reading w n name.page None lawful h.1.0 h.1.1.1.0 (λ target e. cc) in
    record { is_open = r.is_open; number = r.number; numbers = λ t. refl; lawful = r.lawful; placed = r.placed; apart = r.apart })

-- ---- writes

grew_writing : (t : Transaction) (write : Write) (page : ℕ) → Grew t (writes write page t)
grew_writing t write page = record { known = λ n h. h; own = λ n h. h; read = λ p h. h; written = λ p h. with_page_keeps page p t.pages_written h }

writing : (w : World) (n page : ℕ) (write : Write) → IsOrderly w → not_open w n ≡ None → busy_to_write w n page ≡ None
    → IsKnownWrite (writes write page (transaction w n)) write → IsLawfulChange w n (writes write page)
writing w n page write lawful opn free known = record {
  is_open = open_in w n opn;
  number = number_of_open w n (is_open w n opn);
  numbers = λ t. refl;
  lawful = record {
    own = grew_all_own w.graph w.freed t after g lt.own;
    one_at_each_place = lt.one_at_each_place;
    writes = (known, grew_all_writes t after g lt.writes);
    known = grew_all_known w.graph t after g lt.known;
  };
  placed = placed_one w t lawful (open_in w n opn);
  apart = λ u j ne.
      let a = both_apart w n u lawful opn j ne in
      apart_writer t after u page refl refl (no_user w n page u free j ne) a.0 a.1;
}
  where
    t : Transaction
    t = transaction w n

    after : Transaction
    after = writes write page t

    g : Grew t after
    g = grew_writing t write page

    lt : IsLawfulTransaction w.graph w.freed t
    lt = lawful_one w t lawful (open_in w n opn)

known_link : (w : World) (n : ℕ) (name : NameParts) (field : ℕ) (target : Option NameParts) → stranger w n name ≡ None → strange_target w n target ≡ None
    → IsKnownWrite (writes (link name field target) name.page (transaction w n)) (link name field target)
known_link w n name field None a b = and_from (has_name (transaction w n).known name) _ (is_known w n name a) (with_page_has name.page (transaction w n).pages_written)
known_link w n name field (Some target) a b =
    and_from _ (has_name (transaction w n).known target)
    (and_from (has_name (transaction w n).known name) _ (is_known w n name a) (with_page_has name.page (transaction w n).pages_written))
    (is_known w n target b)

pub set_is_orderly : (w : World) (n : ℕ) (name : NameParts) (field : ℕ) (target : Option NameParts) (note : Note) → IsOrderly w → first_refusal w (Set n name field target) note ≡ None
    → IsOrderly (with_transaction w n (writes (link name field target) name.page))
set_is_orderly w n name field target note lawful may =
    let h = nones (causes w (Set n name field target) note) may in
    change_is_orderly w n (writes (link name field target) name.page) lawful
    (writing w n name.page (link name field target) lawful h.1.0 h.1.1.1.1.1.0 (known_link w n name field target h.1.1.0 h.1.1.1.0))

pub put_is_orderly : (w : World) (n : ℕ) (name : NameParts) (value : ℕ) (note : Note) → IsOrderly w → first_refusal w (Put n name value) note ≡ None
    → IsOrderly (with_transaction w n (writes (assign name value) name.page))
put_is_orderly w n name value note lawful may =
    let h = nones (causes w (Put n name value) note) may in
    change_is_orderly w n (writes (assign name value) name.page) lawful
    (writing w n name.page (assign name value) lawful h.1.0 h.1.1.1.0
    (and_from (has_name (transaction w n).known name) _ (is_known w n name h.1.1.0) (with_page_has name.page (transaction w n).pages_written)))

-- ---- new objects

grew_making : (t : Transaction) (name : NameParts) → Grew t (makes name t)
grew_making t name = record {
  known = λ n h. with_name_keeps name n t.known h;
  own = λ n h. in_has_name (t.own ++ name ∷ []) n (append_left t.own (name ∷ []) n (has_name_in t.own n h));
  read = λ p h. h;
  written = λ p h. with_page_keeps name.page p t.pages_written h;
}

-- a slot that isn't occupied
pub record IsVacant (w : World) (n page slot : ℕ) : Type 0 where
  pub within : slot < slots_of w page
  pub free : AllByRecursion (λ o. IsTrue (has_name w.freed o.name)) (objects_at w.graph page slot)
  pub none : list_any (is_at page slot) (transaction w n).own ≡ false
  pub young : (o : ObjectParts) → In o (objects_at w.graph page slot) → (o.name.generation == LAST_GENERATION) ≡ false

or_none : (a b : Bool) → (a || b) ≡ false → (a ≡ false) × (b ≡ false)
or_none true b e = cc
or_none false b e = (refl, e)

none_pass : {A : Type 0} (p : A → Bool) (xs : List A) (x : A) → list_any p xs ≡ false → In x xs → p x ≡ false
none_pass p [] x h m = absurd m
none_pass p (y ∷ ys) x h m = let a = or_none (p y) (list_any p ys) h in elim m [ inl e ↦ subst (λ k. p k ≡ false) (sym e) a.0 | inr r ↦ none_pass p ys x a.1 r ]

pub vacant : (w : World) (n page slot : ℕ) → free_slot w n page ≡ Some slot → IsVacant w n page slot
vacant w n page slot e =
    let test : ℕ → Bool = λ slot. not (is_occupied w n page slot) in
    let m = find_in test (below (slots_of w page)) slot e in
    let o = not-true (is_occupied w n page slot) (find_passes test (below (slots_of w page)) slot e) in
    let parts = or_none (list_any (λ (o : ObjectParts). is_unfreed w.freed o || (o.name.generation == LAST_GENERATION)) (objects_at w.graph page slot)) (list_any (is_at page slot) (transaction w n).own) o in
    record {
      within = below_bound (slots_of w page) slot m;
      free = each_from (λ (o : ObjectParts). IsTrue (has_name w.freed o.name)) (objects_at w.graph page slot) (λ o i.
          let a = none_pass (λ (o : ObjectParts). is_unfreed w.freed o || (o.name.generation == LAST_GENERATION)) (objects_at w.graph page slot) o parts.0 i in
          not-false (has_name w.freed o.name) (or_none (is_unfreed w.freed o) (o.name.generation == LAST_GENERATION) a).0);
      none = parts.1;
      young = λ o i.
          let a = none_pass (λ (o : ObjectParts). is_unfreed w.freed o || (o.name.generation == LAST_GENERATION)) (objects_at w.graph page slot) o parts.0 i in
          (or_none (is_unfreed w.freed o) (o.name.generation == LAST_GENERATION) a).1;
    }

one_more_at : (p s page slot generation : ℕ) (names : List NameParts) → length (filter (is_at p s) names) < 2 → list_any (is_at page slot) names ≡ false
    → length (filter (is_at p s) (names ++ (record { page = page; slot = slot; generation = generation }) ∷ [])) < 2
one_more_at p s page slot generation names few none = by_test ((page == p) && (slot == s)) refl
  where
    n : NameParts
    n = record { page = page; slot = slot; generation = generation }

    by_test : (b : Bool) → ((page == p) && (slot == s)) ≡ b → length (filter (is_at p s) (names ++ n ∷ [])) < 2
    by_test false e =
        let a : filter (is_at p s) (names ++ n ∷ []) ≡ filter (is_at p s) names ++ filter (is_at p s) (n ∷ []) = filter-append (is_at p s) names (n ∷ []) in
        let b : filter (is_at p s) (n ∷ []) ≡ [] = ap (λ b. cond b (n ∷ []) []) e in
        subst (λ k. k < 2) (sym (ap length (a ∙ (ap (λ ns. filter (is_at p s) names ++ ns) b ∙ append-nil (filter (is_at p s) names))))) few
    by_test true e =
        let a = and_parts (page == p) (slot == s) e in
        let q : list_any (is_at p s) names ≡ false =
        subst (λ k. list_any (is_at k s) names ≡ false) (eqb-true page p a.0) (subst (λ k. list_any (is_at page k) names ≡ false) (eqb-true slot s a.1) none) in
        let z : filter (is_at p s) names ≡ [] = any_false_filter (is_at p s) names q in
        let c : filter (is_at p s) (names ++ n ∷ []) ≡ filter (is_at p s) names ++ filter (is_at p s) (n ∷ []) = filter-append (is_at p s) names (n ∷ []) in
        let d : filter (is_at p s) (n ∷ []) ≡ n ∷ [] = ap (λ b. cond b (n ∷ []) []) e in
        subst (λ k. k < 2) (sym (ap length (c ∙ (ap (λ ns. ns ++ filter (is_at p s) (n ∷ [])) z ∙ d)))) (omega arith)

making : (w : World) (n page slot : ℕ) → IsOrderly w → not_open w n ≡ None → page < w.pages → busy_to_write w n page ≡ None → IsVacant w n page slot
    → IsLawfulChange w n (makes (new_name_at w.graph page slot))
making w n page slot lawful opn within free is = record {
  is_open = open_in w n opn;
  number = number_of_open w n (is_open w n opn);
  numbers = λ t. refl;
  lawful = record {
    own = each_from (IsOwn w.graph w.freed after) (t.own ++ name ∷ []) (λ m i. elim (in_append t.own (name ∷ []) m i) [
      | inl before ↦ grew_own w.graph w.freed t after m g (each_in (IsOwn w.graph w.freed t) t.own m lt.own before)
      | inr new ↦ elim new [
        | inl q ↦ subst (IsOwn w.graph w.freed after) (sym q) (record { page = with_page_has page t.pages_written; free = is.free; next = refl })
        | inr z ↦ absurd z
      ]
    ]);
    one_at_each_place = λ p s. one_more_at p s page slot (1 + length (objects_at w.graph page slot)) t.own (lt.one_at_each_place p s) is.none;
    writes = grew_all_writes t after g lt.writes;
    known = each_from (IsCovered w.graph after) (with_name name t.known) (λ m i.
        elim (in_with_name name m t.known i) [
          | inl q ↦ subst (IsCovered w.graph after) (sym q) (inl (in_has_name (t.own ++ name ∷ []) name (append_right t.own (name ∷ []) name (inl refl))))
          | inr before ↦ grew_covered w.graph t after m g (each_in (IsCovered w.graph t) t.known m lt.known before)
        ]);
  };
  placed = each_from (IsPlacedName w) (t.own ++ name ∷ []) (λ m i. elim (in_append t.own (name ∷ []) m i) [
    | inl before ↦ each_in (IsPlacedName w) t.own m (placed_one w t lawful (open_in w n opn)) before
    | inr new ↦ elim new [ inl q ↦ subst (IsPlacedName w) (sym q) (within, is.within) | inr z ↦ absurd z ]
  ]);
  apart = λ u j ne.
      let a = both_apart w n u lawful opn j ne in
      apart_writer t after u page refl refl (no_user w n page u free j ne) a.0 a.1;
}
  where
    name : NameParts
    name = new_name_at w.graph page slot

    t : Transaction
    t = transaction w n

    after : Transaction
    after = makes name t

    g : Grew t after
    g = grew_making t name

    lt : IsLawfulTransaction w.graph w.freed t
    lt = lawful_one w t lawful (open_in w n opn)

pub new_is_orderly : (w : World) (n page : ℕ) (note : Note) → IsOrderly w → first_refusal w (New n page) note ≡ None → IsOrderly (with_new w n (new_name w n page))
new_is_orderly w n page note lawful may = by_slot (free_slot w n page) refl
  where
    by_slot : (o : Option ℕ) → free_slot w n page ≡ o → IsOrderly (with_new w n (option_map (new_name_at w.graph page) o))
    by_slot None e = lawful
    by_slot (Some slot) e =
        let h = nones (causes w (New n page) note) may in
        let within : page < w.pages = omega (arith, ltb-true, not-false (ltb page w.pages) (when_none (not (ltb page w.pages)) _ h.1.1.0)) in
        change_is_orderly w n (makes (new_name_at w.graph page slot)) lawful (making w n page slot lawful h.1.0 within h.1.1.1.0 (vacant w n page slot e))
