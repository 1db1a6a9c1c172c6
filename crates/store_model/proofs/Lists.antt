-- Lists of pages, of names and of transactions.
use Rattle.object_graph.specs.Slots.{below}
use Rattle.std.proofs.Common.{◌≡◌, ◌≢◌, ℕ, zero, suc, ◌<◌, ◌≤◌, ◌==◌, Bool, true, false, ◌||◌, cond, List, [], ◌∷◌, map, length, Some, None, refl, sym, subst, ap, ◌∙◌, ◌⊎◌, inl, inr, arith}
use Rattle.std.specs.List.{list_any, find, filter, slice_get, AllByRecursion}
use Rattle.std.proofs.lemmas.Bool.{eqb-true, eq-eqb, cases_lt}
use Rattle.object_graph.specs.NameParts.{NameParts}
use Rattle.object_graph.specs.Names.{name_eq}
use Rattle.object_graph.specs.Graphs.{has_name}
use Rattle.store_model.specs.Worlds.{Transaction}
use Rattle.store_model.specs.Causes.{has_page}
use Rattle.store_model.specs.Steps.{with_page, with_name}
use Rattle.store_model.specs.Lawful.{IsApart, AreApart}
use Rattle.object_graph.proofs.Members.{In, each_in, each_from, or_right, append_left, append_right}

-- ---- elements

pub all_map : {A : Type 0} (P Q : A → Type 0) (xs : List A) → AllByRecursion P xs → ((x : A) → In x xs → P x → Q x) → AllByRecursion Q xs
all_map P Q xs h f = each_from Q xs (λ x m. f x m (each_in P xs x h m))

pub two_in : {A : Type 0} (xs : List A) (a b : A) → length xs < 2 → In a xs → In b xs → a ≡ b
two_in [] a b few i j = absurd i
two_in (x ∷ []) a b few i j = elim i [
  | inl p ↦ elim j [ inl q ↦ p ∙ sym q | inr z ↦ absurd z ]
  | inr z ↦ absurd z
]
two_in (x ∷ y ∷ xs) a b few i j = absurd (omega arith)

pub filter_filter : {A : Type 0} (p q : A → Bool) (xs : List A) → length (filter p (filter q xs)) ≤ length (filter p xs)
filter_filter p q [] = omega arith
filter_filter p q (x ∷ xs) = by_tests p q x xs (filter_filter p q xs) (q x) (p x) refl
  where
    by_tests : {A : Type 0} (p q : A → Bool) (x : A) (xs : List A) → length (filter p (filter q xs)) ≤ length (filter p xs) → (b c : Bool) → p x ≡ c
        → length (filter p (cond b (x ∷ filter q xs) (filter q xs))) ≤ length (cond c (x ∷ filter p xs) (filter p xs))
    by_tests p q x xs h true true e = rw e (omega arith)
    by_tests p q x xs h true false e = rw e h
    by_tests p q x xs h false true e = omega arith
    by_tests p q x xs h false false e = h

pub find_none_filter : {A : Type 0} (p : A → Bool) (xs : List A) → find p xs ≡ None → filter p xs ≡ []
find_none_filter p [] e = refl
find_none_filter p (x ∷ xs) e = by_test p x xs (find_none_filter p xs) (p x) e
  where
    by_test : {A : Type 0} (p : A → Bool) (x : A) (xs : List A) → (find p xs ≡ None → filter p xs ≡ []) → (b : Bool) → cond b (Some x) (find p xs) ≡ None
        → cond b (x ∷ filter p xs) (filter p xs) ≡ []
    by_test p x xs h true e = cc
    by_test p x xs h false e = h e

pub find_in : {A : Type 0} (p : A → Bool) (xs : List A) (x : A) → find p xs ≡ Some x → In x xs
find_in p [] x e = cc
find_in p (y ∷ ys) x e = by_test p y ys x (find_in p ys x) (p y) refl e
  where
    by_test : {A : Type 0} (p : A → Bool) (y : A) (ys : List A) (x : A) → (find p ys ≡ Some x → In x ys) → (b : Bool) → p y ≡ b → cond b (Some y) (find p ys) ≡ Some x → In x (y ∷ ys)
    by_test p y ys x h true q e = inl (let z : y ≡ x = cc in sym z)
    by_test p y ys x h false q e = inr (h e)

pub filter_same : {A : Type 0} (p q : A → Bool) (xs : List A) → ((x : A) → p x ≡ q x) → filter p xs ≡ filter q xs
filter_same p q [] h = refl
filter_same p q (x ∷ xs) h =
    ap (λ b. cond b (x ∷ filter p xs) (filter p xs)) (h x) ∙ ap (λ ys. cond (q x) (x ∷ ys) ys) (filter_same p q xs h)

pub find_passes : {A : Type 0} (p : A → Bool) (xs : List A) (x : A) → find p xs ≡ Some x → p x ≡ true
find_passes p [] x e = cc
find_passes p (y ∷ ys) x e = by_test p y ys x (find_passes p ys x) (p y) refl e
  where
    by_test : {A : Type 0} (p : A → Bool) (y : A) (ys : List A) (x : A) → (find p ys ≡ Some x → p x ≡ true) → (b : Bool) → p y ≡ b → cond b (Some y) (find p ys) ≡ Some x → p x ≡ true
    by_test p y ys x h true q e = let z : y ≡ x = cc in subst (λ k. p k ≡ true) z q
    by_test p y ys x h false q e = h e

pub get_in : {A : Type 0} (xs : List A) (i : ℕ) (x : A) → slice_get xs i ≡ Some x → In x xs
get_in [] i x e = cc
get_in (y ∷ ys) zero x e = inl (let z : y ≡ x = cc in sym z)
get_in (y ∷ ys) (suc i) x e = inr (get_in ys i x e)

pub any_false_filter : {A : Type 0} (p : A → Bool) (xs : List A) → list_any p xs ≡ false → filter p xs ≡ []
any_false_filter p [] e = refl
any_false_filter p (x ∷ xs) e = by_test p x xs (any_false_filter p xs) (p x) e
  where
    by_test : {A : Type 0} (p : A → Bool) (x : A) (xs : List A) → (list_any p xs ≡ false → filter p xs ≡ []) → (b : Bool) → (b || list_any p xs) ≡ false
        → cond b (x ∷ filter p xs) (filter p xs) ≡ []
    by_test p x xs h true e = cc
    by_test p x xs h false e = h e

pub find_none_each : {A : Type 0} (p : A → Bool) (xs : List A) (x : A) → find p xs ≡ None → In x xs → p x ≡ false
find_none_each p [] x e m = absurd m
find_none_each p (y ∷ ys) x e m = by_test p y ys x (find_none_each p ys x) m (p y) refl e
  where
    by_test : {A : Type 0} (p : A → Bool) (y : A) (ys : List A) (x : A) → (find p ys ≡ None → In x ys → p x ≡ false) → In x (y ∷ ys) → (b : Bool) → p y ≡ b
        → cond b (Some y) (find p ys) ≡ None → p x ≡ false
    by_test p y ys x h m true q e = cc
    by_test p y ys x h m false q e = elim m [ inl s ↦ subst (λ k. p k ≡ false) (sym s) q | inr r ↦ h e r ]

pub in_below : (n j : ℕ) → j < n → In j (below n)
in_below zero j h = absurd (omega arith)
in_below (suc n) j h = elim (cases_lt j n) [
  | inl a ↦ append_left (below n) (n ∷ []) j (in_below n j a)
  | inr b ↦ append_right (below n) (n ∷ []) j (inl (omega arith))
]

-- ---- pages and names

pub with_page_has : (page : ℕ) (pages : List ℕ) → has_page (with_page page pages) page ≡ true
with_page_has page pages = by_test (has_page pages page) refl
  where
    by_test : (b : Bool) → has_page pages page ≡ b → has_page (cond b pages (page ∷ pages)) page ≡ true
    by_test true e = e
    by_test false e = let h : (page == page) ≡ true = eq-eqb page page refl in rw h refl

pub with_page_keeps : (page other : ℕ) (pages : List ℕ) → has_page pages other ≡ true → has_page (with_page page pages) other ≡ true
with_page_keeps page other pages h = by_test (has_page pages page)
  where
    by_test : (b : Bool) → has_page (cond b pages (page ∷ pages)) other ≡ true
    by_test true = h
    by_test false = or_right (page == other) (has_page pages other) h

pub with_name_keeps : (name other : NameParts) (names : List NameParts) → has_name names other ≡ true → has_name (with_name name names) other ≡ true
with_name_keeps name other names h = by_test (has_name names name)
  where
    by_test : (b : Bool) → has_name (cond b names (name ∷ names)) other ≡ true
    by_test true = h
    by_test false = or_right (name_eq name other) (has_name names other) h

pub in_with_name : (name other : NameParts) (names : List NameParts) → In other (with_name name names) → (other ≡ name) ⊎ In other names
in_with_name name other names m = by_test (has_name names name) m
  where
    by_test : (b : Bool) → In other (cond b names (name ∷ names)) → (other ≡ name) ⊎ In other names
    by_test true m = inr m
    by_test false m = m

-- ---- transactions

-- a transaction of a list in which those of a number were changed
pub in_changed : (n : ℕ) (f : Transaction → Transaction) (ts : List Transaction) (u : Transaction) → In u (map (λ t. cond (t.number == n) (f t) t) ts)
    → (t : Transaction) × In t ts × (((t.number ≡ n) × (u ≡ f t)) ⊎ ((t.number ≢ n) × (u ≡ t)))
in_changed n f [] u m = absurd m
in_changed n f (t ∷ ts) u m = elim m [
  | inr r ↦ let s = in_changed n f ts u r in (s.0, inr s.1, s.2)
  | inl e ↦ (t, inl refl, by_test (t.number == n) refl e)
]
  where
    by_test : (b : Bool) → (t.number == n) ≡ b → u ≡ cond b (f t) t → ((t.number ≡ n) × (u ≡ f t)) ⊎ ((t.number ≢ n) × (u ≡ t))
    by_test true q e = inl (eqb-true t.number n q, e)
    by_test false q e = inr ((λ s. let z = eq-eqb t.number n s in cc), e)

pub apart_at : (ts : List Transaction) (t u : Transaction) → AreApart ts → In t ts → In u ts → u.number ≢ t.number → IsApart t u
apart_at ts t u h i j =
    each_in (λ (u : Transaction). u.number ≢ t.number → IsApart t u) ts u
    (each_in (λ (t : Transaction). AllByRecursion (λ (u : Transaction). u.number ≢ t.number → IsApart t u) ts) ts t h i) j

pub apart_from : (ts : List Transaction) → ((t u : Transaction) → In t ts → In u ts → u.number ≢ t.number → IsApart t u) → AreApart ts
apart_from ts f =
    each_from (λ (t : Transaction). AllByRecursion (λ (u : Transaction). u.number ≢ t.number → IsApart t u) ts) ts (λ t i.
    each_from (λ (u : Transaction). u.number ≢ t.number → IsApart t u) ts (λ u j. f t u i j))
