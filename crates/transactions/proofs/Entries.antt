-- The table of open transactions, and the entry of one of them.
use Rattle.std.proofs.Common.{◌≡◌, ℕ, ◌+◌, Bool, true, false, ◌||◌, ◌==◌, cond, List, [], ◌∷◌, map, reverse, length, Option, Some, None, refl, sym, subst, ap, ◌∙◌, inl, inr, arith, nat_eq, not, filter}
use Rattle.std.proofs.lemmas.Bool.{cases_Bool, cases_eq, eq-eqb, ne_eqb, eqb-true}
use Rattle.std.proofs.lemmas.Map.Keys.{IsDistinct-head, IsDistinct-tail}
use Rattle.std.specs.List.{AllByRecursion, IsDistinct, slice_get}
use Rattle.std.specs.Option.{IsSomeAnd}
use Rattle.std.specs.Map.{keys_of, lookup, remove_entry}
use Rattle.object_graph.specs.NameParts.{NameParts}
use Rattle.object_graph.specs.Names.{name_eq}
use Rattle.object_graph.specs.Graphs.{has_name}
use Rattle.object_graph.proofs.Paths.{name_eq_same}
use Rattle.store_model.specs.Worlds.{World, Transaction, find_transaction}
use Rattle.store_model.specs.Causes.{has_page}
use Rattle.store_model.specs.Steps.{with_page, with_name, with_target, with_transaction}
use Rattle.transactions.specs.Tables.{OpenParts, Entries, entry_of, ChangesEntry, HaveSamePages, HaveSameNames}
use Rattle.transactions.specs.Standing.{open_numbers, IsEntry, AreAlike, IsTable}
use Rattle.indexmap.specs.Layout.{set_value_at}
use Rattle.transactions.proofs.Numbers.{KeepsNumber, find-with_same, find-with_other}

-- ---- lists of pages and of names

pub or_false : (a : Bool) → (a || false) ≡ a
or_false true = refl
or_false false = refl

pub or_true : (a : Bool) → (a || true) ≡ true
or_true true = refl
or_true false = refl

or_comm : (a b : Bool) → (a || b) ≡ (b || a)
or_comm true true = refl
or_comm true false = refl
or_comm false true = refl
or_comm false false = refl

pub has_page-with_page : (page other : ℕ) (pages : List ℕ) → has_page (with_page page pages) other ≡ (has_page pages other || (page == other))
has_page-with_page page other pages = elim (cases_Bool (has_page pages page)) [
  | inl e ↦ ap (λ b. has_page (cond b pages (page ∷ pages)) other) e ∙ elim (cases_eq page other) [
    | inl same ↦ subst (λ p. has_page pages p ≡ true) same e ∙ sym (ap (λ b. has_page pages other || b) (eq-eqb page other same) ∙ or_true (has_page pages other))
    | inr ne ↦ sym (ap (λ b. has_page pages other || b) (ne_eqb page other ne) ∙ or_false (has_page pages other))
  ]
  | inr e ↦ ap (λ b. has_page (cond b pages (page ∷ pages)) other) e ∙ or_comm (page == other) (has_page pages other)
]

has_name-with_name : (name other : NameParts) (names : List NameParts) → has_name (with_name name names) other ≡ (has_name names other || name_eq name other)
has_name-with_name name other names = elim (cases_Bool (has_name names name)) [
  | inl e ↦ ap (λ b. has_name (cond b names (name ∷ names)) other) e ∙ elim (cases_Bool (name_eq name other)) [
    | inl same ↦ subst (λ n. has_name names n ≡ true) (name_eq_same name other same) e ∙ sym (ap (λ b. has_name names other || b) same ∙ or_true (has_name names other))
    | inr ne ↦ sym (ap (λ b. has_name names other || b) ne ∙ or_false (has_name names other))
  ]
  | inr e ↦ ap (λ b. has_name (cond b names (name ∷ names)) other) e ∙ or_comm (name_eq name other) (has_name names other)
]

length-added : {A : Type 0} (x : A) (xs : List A) (there : Bool) → length (cond there xs (x ∷ xs)) ≡ length xs + cond there 0 1
length-added x xs true = omega arith
length-added x xs false = omega arith

pub same_pages : (a b c : List ℕ) → HaveSamePages a b → HaveSamePages b c → HaveSamePages a c
same_pages a b c f g = record { count = f.count ∙ g.count; each = λ page. f.each page ∙ g.each page }

pub same_names : (a b c : List NameParts) → HaveSameNames a b → HaveSameNames b c → HaveSameNames a c
same_names a b c f g = record { count = f.count ∙ g.count; each = λ name. f.each name ∙ g.each name }

pub same_with_page : (page : ℕ) (a b : List ℕ) → HaveSamePages a b → HaveSamePages (with_page page a) (with_page page b)
same_with_page page a b h = record {
  count = length-added page a (has_page a page)
      ∙ (ap (λ n. n + cond (has_page a page) 0 1) h.count ∙ (ap (λ t. length b + cond t 0 1) (h.each page) ∙ sym (length-added page b (has_page b page))));
  each = λ p. has_page-with_page page p a ∙ (ap (λ t. t || (page == p)) (h.each p) ∙ sym (has_page-with_page page p b));
}

pub same_with_target : (target : Option NameParts) (a b : List NameParts) → HaveSameNames a b → HaveSameNames (with_target target a) (with_target target b)
same_with_target None a b h = h
same_with_target (Some name) a b h = record {
  count = length-added name a (has_name a name)
      ∙ (ap (λ n. n + cond (has_name a name) 0 1) h.count ∙ (ap (λ t. length b + cond t 0 1) (h.each name) ∙ sym (length-added name b (has_name b name))));
  each = λ n. has_name-with_name name n a ∙ (ap (λ t. t || name_eq name n) (h.each n) ∙ sym (has_name-with_name name n b));
}

-- ---- an entry and its transaction

pub alike_some : (e : OpenParts) (o : Option Transaction) → AreAlike (Some e) o → (t : Transaction) × (o ≡ Some t) × IsEntry e t
alike_some e None h = absurd h
alike_some e (Some t) h = (t, refl, h)

pub alike_none : (o : Option Transaction) → AreAlike None o → o ≡ None
alike_none None h = refl
alike_none (Some t) h = absurd h

pub alike_by : (a b : Option OpenParts) (x y : Option Transaction) → a ≡ b → x ≡ y → AreAlike a x → AreAlike b y
alike_by a b x y e f h = subst (λ o. AreAlike o y) e (subst (λ t. AreAlike a t) f h)

-- ---- the table

map-kept : {A B : Type 0} (f : A → B) (g : A → A) → ((x : A) → f (g x) ≡ f x) → (xs : List A) → map f (map g xs) ≡ map f xs
map-kept f g e [] = refl
map-kept f g e (x ∷ xs) = ap (λ y. y ∷ map f (map g xs)) (e x) ∙ ap (λ ys. f x ∷ ys) (map-kept f g e xs)

-- a change of one transaction leaves the numbers
pub numbers-with_transaction : (w : World) (txn : ℕ) (change : Transaction → Transaction) → KeepsNumber change → open_numbers (with_transaction w txn change) ≡ open_numbers w
numbers-with_transaction w txn change kept =
    ap reverse (map-kept (λ (t : Transaction). t.number) (λ t. cond (t.number == txn) (change t) t) (λ t. kept_by t (t.number == txn)) w.transactions)
  where
    kept_by : (t : Transaction) (b : Bool) → (cond b (change t) t).number ≡ t.number
    kept_by t true = kept t
    kept_by t false = refl

-- an entry and its transaction change together
pub table_changes : (w : World) (old new : Entries) (txn : ℕ) (e : OpenParts) (t : Transaction) (how : OpenParts → OpenParts → Type 0) (change : Transaction → Transaction)
    → IsTable w old → entry_of old txn ≡ Some e → find_transaction w txn ≡ Some t → KeepsNumber change
    → ChangesEntry how txn old new → ((f : OpenParts) → how e f → IsEntry f (change t)) → IsTable (with_transaction w txn change) new
table_changes w old new txn e t how change h is found kept run entry = record {
  numbers = run.numbers ∙ (h.numbers ∙ sym (numbers-with_transaction w txn change kept));
  each = λ u. elim (cases_eq u txn) [
    | inl same ↦
        let f = run.changed e is in
        subst (λ v. AreAlike (entry_of new v) (find_transaction (with_transaction w txn change) v)) (sym same)
        (alike_by (Some f.0) (entry_of new txn) (Some (change t)) (find_transaction (with_transaction w txn change) txn)
        (sym f.1) (sym (find-with_same w txn change t kept found)) (entry f.0 f.2))
    | inr ne ↦
        alike_by (entry_of old u) (entry_of new u) (find_transaction w u) (find_transaction (with_transaction w txn change) u)
        (sym (run.others u ne)) (sym (find-with_other w txn u change kept ne)) (h.each u)
  ];
}

-- the table stays where nothing that an entry has changes
pub table_stays : (w : World) (table : Entries) (txn : ℕ) (t : Transaction) (change : Transaction → Transaction) → IsTable w table → find_transaction w txn ≡ Some t → KeepsNumber change
    → ((e : OpenParts) → IsEntry e t → IsEntry e (change t)) → IsTable (with_transaction w txn change) table
table_stays w table txn t change h found kept entry = record {
  numbers = h.numbers ∙ sym (numbers-with_transaction w txn change kept);
  each = λ u. elim (cases_eq u txn) [
    | inl same ↦
        subst (λ v. AreAlike (entry_of table v) (find_transaction (with_transaction w txn change) v)) (sym same)
        (alike_by (entry_of table txn) (entry_of table txn) (Some (change t)) (find_transaction (with_transaction w txn change) txn) refl (sym (find-with_same w txn change t kept found))
        (still (entry_of table txn) (subst (λ o. AreAlike (entry_of table txn) o) found (h.each txn))))
    | inr ne ↦
        alike_by (entry_of table u) (entry_of table u) (find_transaction w u) (find_transaction (with_transaction w txn change) u) refl (sym (find-with_other w txn u change kept ne)) (h.each u)
  ];
}
  where
    still : (o : Option OpenParts) → AreAlike o (Some t) → AreAlike o (Some (change t))
    still None k = absurd k
    still (Some e) k = entry e k

-- two changes of one entry
abbrev pub ChangesTwice : (OpenParts → OpenParts → Type 0) → (OpenParts → OpenParts → Type 0) → OpenParts → OpenParts → Type 0
ChangesTwice how more e f = (g : OpenParts) × how e g × more g f

pub changes_twice : (how more : OpenParts → OpenParts → Type 0) (txn : ℕ) (old mid new : Entries) → ChangesEntry how txn old mid → ChangesEntry more txn mid new
    → ChangesEntry (ChangesTwice how more) txn old new
changes_twice how more txn old mid new a b = record {
  numbers = b.numbers ∙ a.numbers;
  others = λ other ne. b.others other ne ∙ a.others other ne;
  changed = λ e is. let g = a.changed e is in let f = b.changed g.0 g.1 in (f.0, f.1, (g.0, g.2, f.2));
}

-- ---- one entry taken out

others_stay : (txn : ℕ) (es : Entries) → AllByRecursion (λ number. nat_eq txn number ≡ false) (keys_of es) → es ≡ filter (λ (e : ℕ × OpenParts). not (nat_eq txn e.0)) es
others_stay txn [] apart = refl
others_stay txn (e ∷ es) apart = rw apart.0 (ap (λ (l : Entries). e ∷ l) (others_stay txn es apart.1))

-- where no number is there twice, what is left are the entries of the others
pub one_taken_out : (txn : ℕ) (es : Entries) → IsDistinct nat_eq (keys_of es) → remove_entry (nat_eq txn) es ≡ filter (λ (e : ℕ × OpenParts). not (nat_eq txn e.0)) es
one_taken_out txn [] apart = refl
one_taken_out txn (e ∷ es) apart = by_test (nat_eq txn e.0) refl (one_taken_out txn es (IsDistinct-tail nat_eq e.0 (keys_of es) apart))
  where
    by_test : (b : Bool) → nat_eq txn e.0 ≡ b → remove_entry (nat_eq txn) es ≡ filter (λ (e : ℕ × OpenParts). not (nat_eq txn e.0)) es
        → cond b es (e ∷ remove_entry (nat_eq txn) es) ≡ cond (not b) (e ∷ filter (λ (e : ℕ × OpenParts). not (nat_eq txn e.0)) es) (filter (λ (e : ℕ × OpenParts). not (nat_eq txn e.0)) es)
    by_test true is rest =
        others_stay txn es
        (subst (λ (n : ℕ). AllByRecursion (λ number. nat_eq n number ≡ false) (keys_of es)) (sym (eqb-true txn e.0 is)) (IsDistinct-head nat_eq e.0 (keys_of es) apart))
    by_test false is rest = ap (λ (l : Entries). e ∷ l) rest

-- the oldest entry stands first, and is changed there
abbrev pub IsOldest : ℕ → Entries → Type 0
IsOldest txn table = IsSomeAnd (slice_get table 0) (λ e. e.0 ≡ txn)

abbrev pub first_entry : Entries → Option OpenParts
first_entry table = slice_get (map (λ e. e.1) table) 0

pub oldest_there : (txn : ℕ) (table : Entries) → IsOldest txn table → None ≡ first_entry table → ⊥
oldest_there txn [] is none = is
oldest_there txn (e ∷ es) is none = cc

pub oldest_found : (txn : ℕ) (table : Entries) (v : OpenParts) → IsOldest txn table → Some v ≡ first_entry table → entry_of table txn ≡ Some v
oldest_found txn [] v is at = absurd is
oldest_found txn (e ∷ es) v is at = ap (λ b. cond b (Some e.1) (lookup (nat_eq txn) es)) (eq-eqb txn e.0 (sym is)) ∙ sym at

pub oldest_changes : (how : OpenParts → OpenParts → Type 0) (txn : ℕ) (old : Entries) (v w : OpenParts) → IsOldest txn old → Some v ≡ first_entry old → how v w → ChangesEntry how txn old (set_value_at old 0 w)
oldest_changes how txn [] v w is at h = absurd is
oldest_changes how txn (e ∷ es) v w is at h = record {
  numbers = refl;
  others = λ other ne. let apart : nat_eq other e.0 ≡ false = ne_eqb other e.0 (λ same. ne (same ∙ is)) in rw apart refl;
  changed = λ f found.
      let both : ◌≡◌ {A = Option OpenParts} (Some v) (Some f) = sym (oldest_found txn (e ∷ es) v is at) ∙ found in
      let same : v ≡ f = cc in
      (w, ap (λ b. cond b (Some w) (lookup (nat_eq txn) es)) (eq-eqb txn e.0 (sym is)), subst (λ x. how x w) same h);
}
