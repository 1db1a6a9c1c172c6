-- A transaction begins.
use Rattle.std.proofs.Common.{◌≡◌, ◌≢◌, ℕ, Bool, true, false, ◌||◌, ◌==◌, cond, List, [], ◌∷◌, ◌++◌, map, length, Option, Some, None, refl, sym, subst, ap, ◌∙◌, inl, inr, nat_eq, nat_le}
use Rattle.std.specs.List.{list_any}
use Rattle.std.specs.Option.{is_some, option_map, unwrap_or, MatchOption}
use Rattle.std.specs.Map.{keys_of}
use Rattle.std.proofs.lemmas.Bool.{cases_Bool, cases_eq, eq-eqb, ne_eqb}
use Rattle.std.proofs.lemmas.List.{reverse-append, length-reverse, length-map, map-append}
use Rattle.object_graph.specs.declared.calls.Call.TheVariants.{Begin}
use Rattle.object_graph.specs.declared.calls.Reply.TheVariants.{Done, Refused}
use Rattle.object_graph.specs.declared.calls.Refusal.{Refusal}
use Rattle.object_graph.specs.declared.calls.Refusal.TheVariants.{AlreadyOpen, TooMany, Memory, Broken}
use Rattle.object_graph.specs.declared.limits.TheConstants.{MOST_OPEN}
use Rattle.store_model.specs.Worlds.{World, Transaction, nothing, find_transaction, transaction, fresh_transaction, view}
use Rattle.store_model.specs.Causes.{first_met, first_refusal, when, has_page}
use Rattle.store_model.specs.Replies.{AllowsReply, is_free}
use Rattle.store_model.specs.Steps.{after_answer}
use Rattle.page_locks.specs.Holding.{Held, LockTable, numbers, is_admitted, HaveSameLocks}
use Rattle.transactions.specs.Tables.{OpenParts, Entries, entry_of, fresh_entry}
use Rattle.transactions.specs.Standing.{TransactionsParts, open_numbers, wrote, AreAlike, IsTable, AreLocks, image_in, IsReady, AreTransactionsOf}
use Rattle.transactions.proofs.Entries.{alike_by}
use Rattle.transactions.proofs.Refusals.{refused}

-- ---- the world after

abbrev pub begun : World → ℕ → World
begun w txn = after_answer w (Begin txn) nothing Done

-- it is found under its number, and the others as before
find_begun : (w : World) (txn other : ℕ) → find_transaction (begun w txn) other ≡ cond (txn == other) (Some (fresh_transaction txn)) (find_transaction w other)
find_begun w txn other = refl

found_begun : (w : World) (txn : ℕ) → find_transaction (begun w txn) txn ≡ Some (fresh_transaction txn)
found_begun w txn = ap (λ b. cond b (Some (fresh_transaction txn)) (find_transaction w txn)) (eq-eqb txn txn refl)

found_before : (w : World) (txn other : ℕ) → other ≢ txn → find_transaction (begun w txn) other ≡ find_transaction w other
found_before w txn other ne = ap (λ b. cond b (Some (fresh_transaction txn)) (find_transaction w other)) (ne_eqb txn other (λ e. ne (sym e)))

-- what is open, or would be, has read and written nothing more
same_transaction : (w : World) (txn other : ℕ) → find_transaction w txn ≡ None → transaction (begun w txn) other ≡ transaction w other
same_transaction w txn other closed = elim (cases_eq other txn) [
  | inl same ↦
      ap (transaction (begun w txn)) same
      ∙ (ap (λ o. unwrap_or o (fresh_transaction txn)) (found_begun w txn ∙ refl)
      ∙ (sym (ap (λ o. unwrap_or o (fresh_transaction txn)) closed)
      ∙ ap (transaction w) (sym same)))
  | inr ne ↦ ap (λ o. unwrap_or o (fresh_transaction other)) (found_before w txn other ne)
]

numbers_begun : (w : World) (txn : ℕ) → open_numbers (begun w txn) ≡ open_numbers w ++ txn ∷ []
numbers_begun w txn = reverse-append (txn ∷ []) (map (λ (t : Transaction). t.number) w.transactions)

-- ---- the table

lookup_last : (es : Entries) (txn : ℕ) (e : OpenParts) → entry_of es txn ≡ None → entry_of (es ++ (txn, e) ∷ []) txn ≡ Some e
lookup_last [] txn e none = ap (λ b. cond b (Some e) None) (eq-eqb txn txn refl)
lookup_last (x ∷ es) txn e none = by (lookup_last es txn e) (nat_eq txn x.0) refl
  where
    by : (entry_of es txn ≡ None → entry_of (es ++ (txn, e) ∷ []) txn ≡ Some e) → (b : Bool) → nat_eq txn x.0 ≡ b → entry_of ((x ∷ es) ++ (txn, e) ∷ []) txn ≡ Some e
    by again true is = let z : Some x.1 ≡ None = sym (ap (λ b. cond b (Some x.1) (entry_of es txn)) is) ∙ none in cc
    by again false is = ap (λ b. cond b (Some x.1) (entry_of (es ++ (txn, e) ∷ []) txn)) is ∙ again (sym (ap (λ b. cond b (Some x.1) (entry_of es txn)) is) ∙ none)

lookup_before : (es : Entries) (txn other : ℕ) (e : OpenParts) → other ≢ txn → entry_of (es ++ (txn, e) ∷ []) other ≡ entry_of es other
lookup_before [] txn other e ne = ap (λ b. cond b (Some e) None) (ne_eqb other txn ne)
lookup_before (x ∷ es) txn other e ne = ap (λ o. cond (nat_eq other x.0) (Some x.1) o) (lookup_before es txn other e ne)

table_begun : (w : World) (table : Entries) (txn : ℕ) → IsTable w table → entry_of table txn ≡ None → IsTable (begun w txn) (table ++ (txn, fresh_entry) ∷ [])
table_begun w table txn h none = record {
  numbers = map-append (λ (e : ℕ × OpenParts). e.0) table ((txn, fresh_entry) ∷ []) ∙ (ap (λ ns. ns ++ txn ∷ []) h.numbers ∙ sym (numbers_begun w txn));
  each = λ u. elim (cases_eq u txn) [
    | inl same ↦
        subst (λ v. AreAlike (entry_of (table ++ (txn, fresh_entry) ∷ []) v) (find_transaction (begun w txn) v)) (sym same)
        (alike_by (Some fresh_entry) (entry_of (table ++ (txn, fresh_entry) ∷ []) txn) (Some (fresh_transaction txn)) (find_transaction (begun w txn) txn)
        (sym (lookup_last table txn fresh_entry none)) (sym (found_begun w txn))
        (record { known = record { count = refl; each = λ name. refl }; written = record { count = refl; each = λ page. refl } }))
    | inr ne ↦
        alike_by (entry_of table u) (entry_of (table ++ (txn, fresh_entry) ∷ []) u) (find_transaction w u) (find_transaction (begun w txn) u)
        (sym (lookup_before table txn u fresh_entry ne)) (sym (found_before w txn u ne)) (h.each u)
  ];
}

-- ---- the locks and the frames

locks_begun : (w : World) (old new : LockTable) (txn : ℕ) → AreLocks w old → find_transaction w txn ≡ None → numbers new.held ≡ numbers old.held ++ txn ∷ []
    → HaveSameLocks old.held new.held → new.pages ≡ old.pages → AreLocks (begun w txn) new
locks_begun w old new txn h closed admitted same pages = record {
  pages = pages ∙ h.pages;
  admitted = admitted ∙ (ap (λ ns. ns ++ txn ∷ []) h.admitted ∙ sym (numbers_begun w txn));
  shared = λ u p. same.shared u p ∙ (h.shared u p ∙ ap (λ (t : Transaction). has_page t.pages_read p) (sym (same_transaction w txn u closed)));
  exclusive = λ u p. same.exclusive u p ∙ (h.exclusive u p ∙ ap (λ (t : Transaction). has_page t.pages_written p) (sym (same_transaction w txn u closed)));
}

-- ---- all of it

pub stands_begun : (s : TransactionsParts) (w : World) (txn : ℕ) (locks : LockTable) → AreTransactionsOf s w → entry_of s.table txn ≡ None → find_transaction w txn ≡ None
    → numbers locks.held ≡ numbers s.locks.held ++ txn ∷ [] → HaveSameLocks s.locks.held locks.held → locks.pages ≡ s.locks.pages
    → AreTransactionsOf (record { table = s.table ++ (txn, fresh_entry) ∷ []; locks = locks; frames = s.frames }) (begun w txn)
stands_begun s w txn locks h none closed admitted same pages = record {
  fields = h.fields;
  table = table_begun w s.table txn h.table none;
  locks = locks_begun w s.locks locks txn h.locks closed admitted same pages;
  frames = record {
    count = h.frames.count;
    written = λ u p wrote_it. h.frames.written u p (sym (wrote_same u p) ∙ wrote_it);
    each = λ p low.
        let f = h.frames.each p low in
        record {
          before = f.before;
          current = λ u wrote_it. f.current u (sym (wrote_same u p) ∙ wrote_it) ∙ ap (λ (t : Transaction). image_in w (view w t) p) (sym (same_transaction w txn u closed));
          dirty = λ u wrote_it. f.dirty u (sym (wrote_same u p) ∙ wrote_it);
          clean = λ nobody. f.clean (λ u. sym (wrote_same u p) ∙ nobody u);
        };
  };
}
  where
    wrote_same : (u p : ℕ) → wrote (begun w txn) u p ≡ wrote w u p
    wrote_same u p = ap (λ (t : Transaction). has_page t.pages_written p) (same_transaction w txn u closed)

-- ---- the replies

-- the numbers in the table, of those admitted, and of the open transactions are as many
pub count_open : (s : TransactionsParts) (w : World) → AreTransactionsOf s w → length s.table ≡ length w.transactions
count_open s w h =
    sym (length-map s.table (λ (e : ℕ × OpenParts). e.0))
    ∙ (ap length h.table.numbers ∙ (length-reverse (map (λ (t : Transaction). t.number) w.transactions) ∙ length-map w.transactions (λ (t : Transaction). t.number)))

pub count_admitted : (s : TransactionsParts) (w : World) → AreTransactionsOf s w → length s.locks.held ≡ length s.table
count_admitted s w h =
    sym (length-map s.locks.held (λ (l : Held). l.txn))
    ∙ (ap length (h.locks.admitted ∙ sym h.table.numbers) ∙ length-map s.table (λ (e : ℕ × OpenParts). e.0))

-- who isn't open isn't admitted
pub not_admitted : (s : TransactionsParts) (w : World) (txn : ℕ) → AreTransactionsOf s w → entry_of s.table txn ≡ None → is_admitted s.locks.held txn ≡ false
not_admitted s w txn h none = elim (cases_Bool (is_admitted s.locks.held txn)) [
  | inr e ↦ e
  | inl e ↦ absurd (held_not s.table s.locks.held (h.locks.admitted ∙ sym h.table.numbers) e none)
]
  where
    any_number : (held : List Held) → is_admitted held txn ≡ list_any (λ n. n == txn) (numbers held)
    any_number [] = refl
    any_number (l ∷ held) = ap (λ b. (l.txn == txn) || b) (any_number held)

    any_key : (es : Entries) → entry_of es txn ≡ None → list_any (λ n. n == txn) (keys_of es) ≡ false
    any_key [] none = refl
    any_key (x ∷ es) none = elim (cases_eq x.0 txn) [
      | inl same ↦ let z : Some x.1 ≡ None = sym (ap (λ b. cond b (Some x.1) (entry_of es txn)) (eq-eqb txn x.0 (sym same))) ∙ none in absurd cc
      | inr ne ↦
          let rest : entry_of es txn ≡ None = sym (ap (λ b. cond b (Some x.1) (entry_of es txn)) (ne_eqb txn x.0 (λ e. ne (sym e)))) ∙ none in
          ap (λ b. b || list_any (λ n. n == txn) (keys_of es)) (ne_eqb x.0 txn ne) ∙ any_key es rest
    ]

    held_not : (es : Entries) (held : List Held) → numbers held ≡ keys_of es → is_admitted held txn ≡ true → entry_of es txn ≡ None → ⊥
    held_not es held same there none =
        let z : true ≡ false = sym there ∙ (any_number held ∙ (ap (list_any (λ n. n == txn)) same ∙ any_key es none)) in cc

-- the causes of a refusal: none, or the first that is met
abbrev causes_by : Bool → Bool → Option Refusal
causes_by there most = first_met (when there AlreadyOpen ∷ when most TooMany ∷ [])

refusal_is : (s : TransactionsParts) (w : World) (txn : ℕ) → IsReady s w → first_refusal w (Begin txn) nothing ≡ causes_by (is_some (find_transaction w txn)) (nat_le MOST_OPEN (length s.table))
refusal_is s w txn h =
    ap (λ b. first_met (option_map (λ count. Broken count) b ∷ when (is_some (find_transaction w txn)) AlreadyOpen ∷ when (nat_le MOST_OPEN (length w.transactions)) TooMany ∷ [])) h.sound
    ∙ (λ i. causes_by (is_some (find_transaction w txn)) (nat_le MOST_OPEN (sym (count_open s w h.stands) i)))

pub already_open : (s : TransactionsParts) (w : World) (txn : ℕ) → IsReady s w → is_some (find_transaction w txn) ≡ true → AllowsReply w (Begin txn) nothing (Refused AlreadyOpen)
already_open s w txn h there = refused w (Begin txn) AlreadyOpen (refusal_is s w txn h ∙ ap (λ b. causes_by b (nat_le MOST_OPEN (length s.table))) there)

pub too_many : (s : TransactionsParts) (w : World) (txn : ℕ) → IsReady s w → find_transaction w txn ≡ None → nat_le MOST_OPEN (length s.table) ≡ true → AllowsReply w (Begin txn) nothing (Refused TooMany)
too_many s w txn h closed most = refused w (Begin txn) TooMany (refusal_is s w txn h ∙ (λ i. causes_by (is_some (closed i)) (most i)))

pub none_met : (s : TransactionsParts) (w : World) (txn : ℕ) → IsReady s w → find_transaction w txn ≡ None → nat_le MOST_OPEN (length s.table) ≡ false → first_refusal w (Begin txn) nothing ≡ None
none_met s w txn h closed few = refusal_is s w txn h ∙ (λ i. causes_by (is_some (closed i)) (few i))

pub may_lack : (w : World) (txn : ℕ) → first_refusal w (Begin txn) nothing ≡ None → AllowsReply w (Begin txn) nothing (Refused Memory)
may_lack w txn none = subst (λ o. MatchOption o (is_free (Begin txn) Memory ≡ true) (λ first. Memory ≡ first)) (sym none) refl

pub no_entry : (o : Option OpenParts) → is_some o ≡ false → o ≡ None
no_entry None e = refl
no_entry (Some x) e = cc

pub opened_there : (o : Option OpenParts) (t : Option Transaction) → AreAlike o t → is_some o ≡ true → is_some t ≡ true
opened_there None t alike e = cc
opened_there (Some x) None alike e = absurd alike
opened_there (Some x) (Some t) alike e = refl
