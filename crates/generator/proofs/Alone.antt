-- What the one open transaction of a round may be answered, and what it knows afterwards.
use Rattle.std.proofs.Common.{◌≡◌, ℕ, ◌+◌, ◌<◌, ◌≤◌, ◌==◌, Bool, true, false, not, ◌&&◌, ◌||◌, cond, List, [], ◌∷◌, map, length, Option, Some, None, refl, subst, ap, ◌∙◌, arith}
use Rattle.std.specs.List.{find, filter, AllByRecursion}
use Rattle.std.specs.Option.{option_map, unwrap_or, MatchOption}
use Rattle.std.specs.Prelude.{is_none, is_some, nat_le}
use Rattle.std.proofs.lemmas.Bool.{eq-eqb, lt-ltb, leb-true}
use Rattle.object_graph.specs.declared.names.TheConstants.{OBJECT_FIELDS}
use Rattle.object_graph.specs.NameParts.{NameParts}
use Rattle.object_graph.specs.Names.{root_name}
use Rattle.object_graph.specs.Graphs.{has_name}
use Rattle.object_graph.specs.Slots.{least}
use Rattle.object_graph.specs.declared.calls.Call.{Call}
use Rattle.object_graph.specs.declared.calls.Call.TheVariants.{Begin, Get, Set, Put, New, Commit}
use Rattle.object_graph.specs.declared.calls.Reply.TheVariants.{Refused}
use Rattle.object_graph.specs.declared.calls.Refusal.{Refusal}
use Rattle.object_graph.specs.declared.calls.Refusal.TheVariants.{NotOpen, Stranger, BadField, NoPage, Busy, TooWide, KnowsTooMany, AlreadyOpen, TooMany, Spent, Broken}
use Rattle.object_graph.specs.declared.limits.TheConstants.{MOST_OPEN, MOST_WRITTEN, MOST_KNOWN, MOST_COUNTED}
use Rattle.store_model.specs.Worlds.{World, Transaction, Note, Write, find_transaction, transaction, fresh_transaction}
use Rattle.store_model.specs.Causes.{has_page, first_met, first_refusal, when, holder, busy_to_read, busy_to_write, broken, not_open, stranger, strange_target, bad_field, no_page, too_wide, knows_too_many, knows_too_many_for, page_full, spent, field_seen}
use Rattle.store_model.specs.Replies.{AllowsReply, is_free}
use Rattle.store_model.specs.Steps.{with_page, with_name, with_target, with_transaction, reads_page, writes, makes, committed}
use Rattle.generator.specs.Rounds.{store_pages, most_rounds}
use Rattle.generator.specs.Between.{IsSoundWorld, IsResting, Knows, IsAlone, learnt}
use Rattle.store_model.proofs.Lists.{with_name_keeps}
use Rattle.object_graph.proofs.Paths.{name_eq_refl}

-- ---- no cause is met

pub skip : (cause : Option Refusal) (rest : List (Option Refusal)) → cause ≡ None → first_met (cause ∷ rest) ≡ first_met rest
skip cause rest e = ap (λ c. first_met (c ∷ rest)) e

-- where none is met, a refusal is a free one
pub free_alone : (w : World) (call : Call) (note : Note) (why : Refusal) → first_refusal w call note ≡ None → AllowsReply w call note (Refused why) → is_free call why ≡ true
free_alone w call note why none may = subst (λ (o : Option Refusal). MatchOption o (is_free call why ≡ true) (λ first. why ≡ first)) none may

pub unbroken : (w : World) → IsSoundWorld w → broken w ≡ None
unbroken w s = ap (option_map (λ count. Broken count)) s.whole

pub uncounted : (n : ℕ) → n < MOST_COUNTED → spent n ≡ None
uncounted n low = by_test (nat_le MOST_COUNTED n) refl
  where
    by_test : (b : Bool) → nat_le MOST_COUNTED n ≡ b → when b (Spent n) ≡ None
    by_test true e = let high : MOST_COUNTED ≤ n = leb-true MOST_COUNTED n e in absurd (omega arith)
    by_test false e = refl

-- ---- the one open transaction

found : (t : Transaction) → t.number ≡ 1 → find (λ (u : Transaction). u.number == 1) (t ∷ []) ≡ Some t
found t is = ap (λ b. cond b (Some t) None) (eq-eqb t.number 1 is)

nobody : (t : Transaction) (test : Transaction → Bool) → t.number ≡ 1 → filter (λ (u : Transaction). not (u.number == 1) && test u) (t ∷ []) ≡ []
nobody t test is = ap (λ b. cond (not b && test t) (t ∷ []) []) (eq-eqb t.number 1 is)

-- the target is none, or known
abbrev pub IsKnown : Transaction → Option NameParts → Type 0
IsKnown t None = Unit {0}
IsKnown t (Some target) = has_name t.known target ≡ true

module _ (names : List NameParts) (calls : ℕ) (w : World) (a : IsAlone names calls w) where
  abbrev pub t : Transaction
  t = a.transaction

  is_found : find_transaction w 1 ≡ Some t
  is_found = ap (find (λ (u : Transaction). u.number == 1)) a.only ∙ found t a.knows.number

  pub is_it : transaction w 1 ≡ t
  is_it = ap (λ o. unwrap_or o (fresh_transaction 1)) is_found

  is_open : not_open w 1 ≡ None
  is_open = ap (λ o. when (is_none o) NotOpen) is_found

  no_holder : (test : Transaction → Bool) → holder w 1 test ≡ None
  no_holder test =
      ap (λ (ts : List Transaction). least (map (λ (u : Transaction). u.number) (filter (λ (u : Transaction). not (u.number == 1) && test u) ts))) a.only
      ∙ ap (λ (ts : List Transaction). least (map (λ (u : Transaction). u.number) ts)) (nobody t test a.knows.number)

  free_to_read : (page : ℕ) → busy_to_read w 1 page ≡ None
  free_to_read page = ap (option_map (λ h. Busy h)) (no_holder (λ u. has_page u.pages_written page))

  free_to_write : (page : ℕ) → busy_to_write w 1 page ≡ None
  free_to_write page = ap (option_map (λ h. Busy h)) (no_holder (λ u. has_page u.pages_read page || has_page u.pages_written page))

  no_stranger : (name : NameParts) → has_name t.known name ≡ true → stranger w 1 name ≡ None
  no_stranger name k = ap (λ (u : Transaction). when (not (has_name u.known name)) Stranger) is_it ∙ ap (λ b. when (not b) Stranger) k

  right_field : (name : NameParts) (field : ℕ) → field < OBJECT_FIELDS → bad_field w name field ≡ None
  right_field name field low = ap (λ b. when (not b) BadField) (lt-ltb field OBJECT_FIELDS low)

  right_page : (page : ℕ) → page < store_pages → no_page w page ≡ None
  right_page page low = ap (λ b. when (not b) NoPage) (lt-ltb page w.pages (let p = a.sound.right in omega arith))

  not_wide : (page : ℕ) → calls < 60 → too_wide w 1 page ≡ None
  not_wide page few =
      ap (λ (u : Transaction). when (nat_le MOST_WRITTEN (length u.pages_written) && not (has_page u.pages_written page)) TooWide) is_it
      ∙ by_test (nat_le MOST_WRITTEN (length t.pages_written)) refl
    where
      by_test : (b : Bool) → nat_le MOST_WRITTEN (length t.pages_written) ≡ b → when (b && not (has_page t.pages_written page)) TooWide ≡ None
      by_test true e = let high : MOST_WRITTEN ≤ length t.pages_written = leb-true MOST_WRITTEN (length t.pages_written) e in absurd (omega (arith, a.knows.few_written))
      by_test false e = refl

  knows_few : calls < 60 → nat_le MOST_KNOWN (length t.known) ≡ false
  knows_few few = by_test (nat_le MOST_KNOWN (length t.known)) refl
    where
      by_test : (b : Bool) → nat_le MOST_KNOWN (length t.known) ≡ b → b ≡ false
      by_test true e = let high : MOST_KNOWN ≤ length t.known = leb-true MOST_KNOWN (length t.known) e in absurd (omega (arith, a.knows.few_known))
      by_test false e = refl

  room_to_know : calls < 60 → knows_too_many w 1 ≡ None
  room_to_know few = ap (λ (u : Transaction). when (nat_le MOST_KNOWN (length u.known)) KnowsTooMany) is_it ∙ ap (λ b. when b KnowsTooMany) (knows_few few)

  room_for : (target : Option NameParts) → calls < 60 → knows_too_many_for w 1 target ≡ None
  room_for None few = refl
  room_for (Some target) few =
      ap (λ (u : Transaction). when (nat_le MOST_KNOWN (length u.known) && not (has_name u.known target)) KnowsTooMany) is_it
      ∙ ap (λ b. when (b && not (has_name t.known target)) KnowsTooMany) (knows_few few)

  -- ---- its calls

  pub get_may : (name : NameParts) (field : ℕ) (note : Note) → has_name t.known name ≡ true → field < OBJECT_FIELDS → calls < 60 → first_refusal w (Get 1 name field) note ≡ None
  get_may name field note k low few =
      skip (broken w) _ (unbroken w a.sound) ∙ (skip (not_open w 1) _ is_open ∙ (skip (stranger w 1 name) _ (no_stranger name k)
      ∙ (skip (bad_field w name field) _ (right_field name field low) ∙ (skip (busy_to_read w 1 name.page) _ (free_to_read name.page)
      ∙ skip (knows_too_many_for w 1 (field_seen w 1 name field)) [] (room_for (field_seen w 1 name field) few)))))

  known_target : (target : Option NameParts) → IsKnown t target → strange_target w 1 target ≡ None
  known_target None k = refl
  known_target (Some target) k = no_stranger target k

  pub set_may : (name : NameParts) (field : ℕ) (target : Option NameParts) (note : Note) → has_name t.known name ≡ true → IsKnown t target → field < OBJECT_FIELDS → calls < 60
      → first_refusal w (Set 1 name field target) note ≡ None
  set_may name field target note k known low few =
      skip (broken w) _ (unbroken w a.sound) ∙ (skip (not_open w 1) _ is_open ∙ (skip (stranger w 1 name) _ (no_stranger name k)
      ∙ (skip (strange_target w 1 target) _ (known_target target known) ∙ (skip (bad_field w name field) _ (right_field name field low)
      ∙ (skip (busy_to_write w 1 name.page) _ (free_to_write name.page) ∙ skip (too_wide w 1 name.page) [] (not_wide name.page few))))))

  pub put_may : (name : NameParts) (value : ℕ) (note : Note) → has_name t.known name ≡ true → calls < 60 → first_refusal w (Put 1 name value) note ≡ None
  put_may name value note k few =
      skip (broken w) _ (unbroken w a.sound) ∙ (skip (not_open w 1) _ is_open ∙ (skip (stranger w 1 name) _ (no_stranger name k)
      ∙ (skip (busy_to_write w 1 name.page) _ (free_to_write name.page) ∙ skip (too_wide w 1 name.page) [] (not_wide name.page few))))

  pub new_may : (page : ℕ) (note : Note) → page < store_pages → calls < 60 → first_refusal w (New 1 page) note ≡ page_full w 1 page
  new_may page note low few =
      skip (broken w) _ (unbroken w a.sound) ∙ (skip (not_open w 1) _ is_open ∙ (skip (no_page w page) _ (right_page page low)
      ∙ (skip (busy_to_write w 1 page) _ (free_to_write page) ∙ (skip (too_wide w 1 page) _ (not_wide page few)
      ∙ (skip (knows_too_many w 1) _ (room_to_know few) ∙ last (page_full w 1 page))))))
    where
      last : (cause : Option Refusal) → first_met (cause ∷ []) ≡ cause
      last None = refl
      last (Some why) = refl

  pub commit_may : (note : Note) → first_refusal w (Commit 1) note ≡ None
  commit_may note =
      skip (broken w) _ (unbroken w a.sound) ∙ (skip (not_open w 1) _ is_open
      ∙ skip (spent w.commits) [] (uncounted w.commits (let f = a.sound.few in omega arith)))

  -- ---- the world after a change of it

  changed_once : (change : Transaction → Transaction) → (with_transaction w 1 change).transactions ≡ change t ∷ []
  changed_once change =
      ap (map (λ (u : Transaction). cond (u.number == 1) (change u) u)) a.only ∙ ap (λ b. cond b (change t) t ∷ []) (eq-eqb t.number 1 a.knows.number)

  pub changes : (more : List NameParts) (change : Transaction → Transaction) → Knows more (calls + 1) (change t) → IsAlone more (calls + 1) (with_transaction w 1 change)
  changes more change knows = record { sound = a.sound; no_cut = a.no_cut; transaction = change t; only = changed_once change; knows = knows }

-- ---- what it knows after a call

has_added : (name : NameParts) (names : List NameParts) → has_name (with_name name names) name ≡ true
has_added name names = by_test (has_name names name) refl
  where
    by_test : (b : Bool) → has_name names name ≡ b → has_name (cond b names (name ∷ names)) name ≡ true
    by_test true e = e
    by_test false e = ap (λ b. b || has_name names name) (name_eq_refl name)

longer : (name : NameParts) (names : List NameParts) → length (with_name name names) ≤ length names + 1
longer name names = by_test (has_name names name)
  where
    by_test : (b : Bool) → length (cond b names (name ∷ names)) ≤ length names + 1
    by_test true = omega arith
    by_test false = omega arith

wider : (page : ℕ) (pages : List ℕ) → length (with_page page pages) ≤ length pages + 1
wider page pages = by_test (has_page pages page)
  where
    by_test : (b : Bool) → length (cond b pages (page ∷ pages)) ≤ length pages + 1
    by_test true = omega arith
    by_test false = omega arith

all_kept : (names : List NameParts) (before after : List NameParts) → ((name : NameParts) → has_name before name ≡ true → has_name after name ≡ true)
    → AllByRecursion (λ (name : NameParts). has_name before name ≡ true) names → AllByRecursion (λ (name : NameParts). has_name after name ≡ true) names
all_kept [] before after keeps k = tt
all_kept (name ∷ names) before after keeps k = (keeps name k.0, all_kept names before after keeps k.1)

pub knows_read : (names : List NameParts) (calls page : ℕ) (target : Option NameParts) (t : Transaction) → Knows names calls t
    → Knows (learnt target names) (calls + 1) (reads_page page (record t { known = with_target target t.known }))
knows_read names calls page None t k = record { number = k.number; known = k.known; few_known = omega (arith, k.few_known); few_written = omega (arith, k.few_written) }
knows_read names calls page (Some name) t k = record {
  number = k.number;
  known = (has_added name t.known, all_kept names t.known (with_name name t.known) (λ other h. with_name_keeps name other t.known h) k.known);
  few_known = omega (arith, k.few_known, longer name t.known);
  few_written = omega (arith, k.few_written);
}

pub knows_written : (names : List NameParts) (calls page : ℕ) (write : Write) (t : Transaction) → Knows names calls t → Knows names (calls + 1) (writes write page t)
knows_written names calls page write t k =
    record { number = k.number; known = k.known; few_known = omega (arith, k.few_known); few_written = omega (arith, k.few_written, wider page t.pages_written) }

pub knows_made : (names : List NameParts) (calls : ℕ) (name : NameParts) (t : Transaction) → Knows names calls t → Knows (name ∷ names) (calls + 1) (makes name t)
knows_made names calls name t k = record {
  number = k.number;
  known = (has_added name t.known, all_kept names t.known (with_name name t.known) (λ other h. with_name_keeps name other t.known h) k.known);
  few_known = omega (arith, k.few_known, longer name t.known);
  few_written = omega (arith, k.few_written, wider name.page t.pages_written);
}

-- ---- its beginning and its end

pub begin_may : (w : World) (note : Note) → IsResting w → first_refusal w (Begin 1) note ≡ None
begin_may w note r =
    skip (broken w) _ (unbroken w r.sound) ∙ (ap (λ (ts : List Transaction). first_met (begins ts)) r.closed)
  where
    begins : List Transaction → List (Option Refusal)
    begins ts = when (is_some (find (λ (u : Transaction). u.number == 1) ts)) AlreadyOpen ∷ when (nat_le MOST_OPEN (length ts)) TooMany ∷ []

pub begun : (w : World) → IsResting w → IsAlone (root_name ∷ []) 0 (record w { transactions = fresh_transaction 1 ∷ w.transactions })
begun w r = record {
  sound = r.sound;
  no_cut = r.no_cut;
  transaction = fresh_transaction 1;
  only = ap (λ (ts : List Transaction). fresh_transaction 1 ∷ ts) r.closed;
  knows = record { number = refl; known = (refl, tt); few_known = omega arith; few_written = omega arith };
}

commits_alone : (t : Transaction) → t.number ≡ 1 → filter (λ (u : Transaction). not (u.number == 1)) (t ∷ []) ≡ []
commits_alone t is = ap (λ b. cond (not b) (t ∷ []) []) (eq-eqb t.number 1 is)

pub committed_rests : (names : List NameParts) (calls : ℕ) (w : World) → IsAlone names calls w → w.commits < most_rounds → IsResting (committed w 1)
committed_rests names calls w a low = record {
  sound = record { right = a.sound.right; whole = a.sound.whole; cuts = omega (arith, a.sound.cuts); few = omega arith };
  closed = ap (filter (λ (u : Transaction). not (u.number == 1))) a.only ∙ commits_alone a.transaction a.knows.number;
  no_cut = a.no_cut;
}
