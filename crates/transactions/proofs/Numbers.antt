-- Open transactions by their numbers.
use Rattle.std.proofs.Common.{◌≡◌, ◌≢◌, ℕ, ◌<◌, ◌≤◌, Bool, true, false, not, ◌&&◌, ◌==◌, cond, List, [], ◌∷◌, map, length, Option, Some, None, refl, sym, subst, ap, ◌∙◌, inl, inr, arith, nat_lt}
use Rattle.std.specs.List.{filter, find}
use Rattle.std.specs.Option.{option_map, unwrap_or}
use Rattle.std.proofs.lemmas.Bool.{and_parts, and_from, cases_Bool, eqb-true, eq-eqb, ne_eqb, cond-false, cond-true, ltb-true, ltb-false, not-true, eqb-false}
use Rattle.object_graph.specs.Slots.{least, least_with}
use Rattle.store_model.specs.Worlds.{World, Transaction, find_transaction, transaction, fresh_transaction}
use Rattle.store_model.specs.Causes.{holder}
use Rattle.store_model.specs.Steps.{with_transaction, without}
use Rattle.store_model.proofs.Lists.{find_in, find_passes}
use Rattle.object_graph.proofs.Members.{In, in_filter, filter_in, in_map, map_in}

abbrev pub KeepsNumber : (Transaction → Transaction) → Type 0
KeepsNumber change = (t : Transaction) → (change t).number ≡ t.number

find-changed : (n m : ℕ) (change : Transaction → Transaction) (ts : List Transaction) → KeepsNumber change
    → find (λ t. t.number == m) (map (λ t. cond (t.number == n) (change t) t) ts)
    ≡ option_map (λ t. cond (t.number == n) (change t) t) (find (λ t. t.number == m) ts)
find-changed n m change [] kept = refl
find-changed n m change (t ∷ ts) kept =
    ap (λ k. cond (k == m) (Some (cond (t.number == n) (change t) t)) (find (λ t. t.number == m) (map (λ t. cond (t.number == n) (change t) t) ts))) (kept_by (t.number == n))
    ∙ one (find-changed n m change ts kept) (t.number == m)
  where
    kept_by : (b : Bool) → (cond b (change t) t).number ≡ t.number
    kept_by true = kept t
    kept_by false = refl

    one : find (λ t. t.number == m) (map (λ t. cond (t.number == n) (change t) t) ts) ≡ option_map (λ t. cond (t.number == n) (change t) t) (find (λ t. t.number == m) ts)
        → (b : Bool) → cond b (Some (cond (t.number == n) (change t) t)) (find (λ t. t.number == m) (map (λ t. cond (t.number == n) (change t) t) ts))
        ≡ option_map (λ t. cond (t.number == n) (change t) t) (cond b (Some t) (find (λ t. t.number == m) ts))
    one ih true = refl
    one ih false = ih

-- what is found passes the test
pub found_in_list : {A : Type 0} (p : A → Bool) (xs : List A) (x : A) → find p xs ≡ Some x → In x xs × (p x ≡ true)
found_in_list p xs x e = (find_in p xs x e, find_passes p xs x e)

pub find-filter : {A : Type 0} (p : A → Bool) (xs : List A) (y : A) (ys : List A) → filter p xs ≡ y ∷ ys → find p xs ≡ Some y
find-filter p [] y ys e = cc
find-filter p (x ∷ xs) y ys e = one p x xs y ys (find-filter p xs y ys) (p x) e
  where
    one : {A : Type 0} (p : A → Bool) (x : A) (xs : List A) (y : A) (ys : List A) → (filter p xs ≡ y ∷ ys → find p xs ≡ Some y)
        → (b : Bool) → cond b (x ∷ filter p xs) (filter p xs) ≡ y ∷ ys → cond b (Some x) (find p xs) ≡ Some y
    one p x xs y ys h true e = cc
    one p x xs y ys h false e = h e

-- an open transaction is the one of its number
pub found_at : (w : World) (t : Transaction) → ((number : ℕ) → length (filter (λ u. u.number == number) w.transactions) < 2) → In t w.transactions → find_transaction w t.number ≡ Some t
found_at w t distinct m =
    one (filter (λ (u : Transaction). u.number == t.number) w.transactions) refl (distinct t.number)
    (filter_in (λ (u : Transaction). u.number == t.number) w.transactions t m (eq-eqb t.number t.number refl))
  where
    one : (us : List Transaction) → filter (λ (u : Transaction). u.number == t.number) w.transactions ≡ us → length us < 2 → In t us → find_transaction w t.number ≡ Some t
    one [] e few i = absurd i
    one (u ∷ []) e few i = elim i [
      | inl s ↦ find-filter (λ (u : Transaction). u.number == t.number) w.transactions u [] e ∙ ap (λ v. Some v) (sym s)
      | inr z ↦ absurd z
    ]
    one (u ∷ v ∷ us) e few i = absurd (omega arith)

pub transaction_found : (w : World) (n : ℕ) (t : Transaction) → find_transaction w n ≡ Some t → transaction w n ≡ t
transaction_found w n t e = ap (λ o. unwrap_or o (fresh_transaction n)) e

-- a change of one open transaction
pub find-with_same : (w : World) (n : ℕ) (change : Transaction → Transaction) (t : Transaction) → KeepsNumber change → find_transaction w n ≡ Some t
    → find_transaction (with_transaction w n change) n ≡ Some (change t)
find-with_same w n change t kept e =
    find-changed n n change w.transactions kept
    ∙ (ap (option_map (λ t. cond (t.number == n) (change t) t)) e
    ∙ ap (λ u. Some u) (cond-true (t.number == n) (change t) t (found_in_list (λ (t : Transaction). t.number == n) w.transactions t e).1))

pub find-with_other : (w : World) (n m : ℕ) (change : Transaction → Transaction) → KeepsNumber change → m ≢ n
    → find_transaction (with_transaction w n change) m ≡ find_transaction w m
find-with_other w n m change kept ne = find-changed n m change w.transactions kept ∙ one (find (λ t. t.number == m) w.transactions) refl
  where
    one : (o : Option Transaction) → find (λ t. t.number == m) w.transactions ≡ o → option_map (λ t. cond (t.number == n) (change t) t) o ≡ o
    one None e = refl
    one (Some t) e =
        let k : t.number ≡ m = eqb-true t.number m (found_in_list (λ (t : Transaction). t.number == m) w.transactions t e).1 in
        ap (λ u. Some u) (cond-false (t.number == n) (change t) t (ne_eqb t.number n (λ f. ne (sym k ∙ f))))

-- without one
find-without : (n m : ℕ) (ts : List Transaction) → m ≢ n → find (λ t. t.number == m) (filter (λ t. not (t.number == n)) ts) ≡ find (λ t. t.number == m) ts
find-without n m [] ne = refl
find-without n m (t ∷ ts) ne = one (find-without n m ts ne) (t.number == n) refl
  where
    one : find (λ t. t.number == m) (filter (λ t. not (t.number == n)) ts) ≡ find (λ t. t.number == m) ts → (b : Bool) → (t.number == n) ≡ b → find (λ t. t.number == m) (cond (not (t.number == n)) (t ∷ filter (λ t. not (t.number == n)) ts) (filter (λ t. not (t.number == n)) ts)) ≡ cond (t.number == m) (Some t) (find (λ t. t.number == m) ts)
    one ih true e =
        let off : (t.number == m) ≡ false = ne_eqb t.number m (λ f. ne (sym f ∙ eqb-true t.number n e)) in
        rw (e, off) ih
    one ih false e = rw e (ap (λ o. cond (t.number == m) (Some t) o) ih)

pub find-without_other : (w : World) (n m : ℕ) → m ≢ n → find (λ t. t.number == m) (without w n) ≡ find_transaction w m
find-without_other w n m ne = find-without n m w.transactions ne

find_gone : (n : ℕ) (ts : List Transaction) → find (λ t. t.number == n) (filter (λ t. not (t.number == n)) ts) ≡ None
find_gone n [] = refl
find_gone n (t ∷ ts) = one (find_gone n ts) (t.number == n) refl
  where
    one : find (λ t. t.number == n) (filter (λ t. not (t.number == n)) ts) ≡ None → (b : Bool) → (t.number == n) ≡ b → find (λ t. t.number == n) (cond (not (t.number == n)) (t ∷ filter (λ t. not (t.number == n)) ts) (filter (λ t. not (t.number == n)) ts)) ≡ None
    one ih true e = rw e ih
    one ih false e = rw e (rw e ih)

pub find-without_same : (w : World) (n : ℕ) → find (λ t. t.number == n) (without w n) ≡ None
find-without_same w n = find_gone n w.transactions

-- ---- the least holder

least_member_by : (n : ℕ) (ns : List ℕ) (k : ℕ) (o : Option ℕ) → ((j : ℕ) → o ≡ Some j → In j ns) → least_with n o ≡ Some k → In k (n ∷ ns)
least_member_by n ns k None h e = let s : n ≡ k = cc in inl (sym s)
least_member_by n ns k (Some j) h e = elim (cases_Bool (nat_lt j n)) [
  | inl lt ↦ let s : Some j ≡ Some k = sym (ap (λ b. Some (cond b j n)) lt) ∙ e in inr (h k s)
  | inr ge ↦ let s : Some n ≡ Some k = sym (ap (λ b. Some (cond b j n)) ge) ∙ e in let r : n ≡ k = cc in inl (sym r)
]

least_member : (ns : List ℕ) (k : ℕ) → least ns ≡ Some k → In k ns
least_member [] k e = cc
least_member (n ∷ ns) k e = least_member_by n ns k (least ns) (λ j q. least_member ns j q) e

pub least_is : (ns : List ℕ) (m : ℕ) → In m ns → ((k : ℕ) → In k ns → m ≤ k) → least ns ≡ Some m
least_is [] m i h = absurd i
least_is (n ∷ ns) m i h = elim i [
  | inl e ↦ first (least ns) refl e
  | inr r ↦
      let ih : least ns ≡ Some m = least_is ns m r (λ k j. h k (inr j)) in
      let le : m ≤ n = h n (inl refl) in
      ap (least_with n) ih ∙ elim (cases_Bool (nat_lt m n)) [
        | inl lt ↦ ap (λ b. Some (cond b m n)) lt
        | inr ge ↦ let q = ltb-false m n ge in let e : n ≡ m = omega arith in ap (λ b. Some (cond b m n)) ge ∙ ap (λ k. Some k) e
      ]
]
  where
    first : (o : Option ℕ) → least ns ≡ o → m ≡ n → least_with n o ≡ Some m
    first None q e = ap (λ k. Some k) (sym e)
    first (Some j) q e =
        let le : m ≤ j = h j (inr (least_member ns j q)) in
        elim (cases_Bool (nat_lt j n)) [
          | inl lt ↦ let z = ltb-true j n lt in absurd (omega arith)
          | inr ge ↦ ap (λ b. Some (cond b j n)) ge ∙ ap (λ k. Some k) (sym e)
        ]

-- nobody else passes the test
pub holder_none : (w : World) (n : ℕ) (test : Transaction → Bool) → ((u : Transaction) → In u w.transactions → u.number ≢ n → test u ≡ false) → holder w n test ≡ None
holder_none w n test h = ap (λ us. least (map (λ t. t.number) us)) (nothing w.transactions (λ u m. h u m))
  where
    nothing : (ts : List Transaction) → ((u : Transaction) → In u ts → u.number ≢ n → test u ≡ false) → filter (λ t. not (t.number == n) && test t) ts ≡ []
    nothing [] h = refl
    nothing (t ∷ ts) h =
        ap (λ b. cond b (t ∷ filter (λ t. not (t.number == n) && test t) ts) (filter (λ t. not (t.number == n) && test t) ts)) (off (t.number == n) refl)
        ∙ nothing ts (λ u m. h u (inr m))
      where
        off : (b : Bool) → (t.number == n) ≡ b → (not (t.number == n) && test t) ≡ false
        off true e = rw e refl
        off false e = rw e (h t (inl refl) (eqb-false t.number n e))

-- the least of the others that pass the test
pub holder_some : (w : World) (n : ℕ) (test : Transaction → Bool) (t : Transaction) → In t w.transactions → t.number ≢ n → test t ≡ true
    → ((u : Transaction) → In u w.transactions → u.number ≢ n → test u ≡ true → t.number ≤ u.number) → holder w n test ≡ Some t.number
holder_some w n test t m ne e h =
    let picks : Transaction → Bool = λ t. not (t.number == n) && test t in
    least_is (map (λ t. t.number) (filter picks w.transactions)) t.number
    (map_in (λ (t : Transaction). t.number) (filter picks w.transactions) t (filter_in picks w.transactions t m (and_from (not (t.number == n)) (test t) (ap not (ne_eqb t.number n ne)) e)))
    (λ k i.
    let a = in_map (λ (t : Transaction). t.number) (filter picks w.transactions) k i in
    let u : Transaction = a.0 in
    let b = in_filter picks w.transactions u a.1 in
    let p = and_parts (not (u.number == n)) (test u) b.1 in
    let l = h u b.0 (eqb-false u.number n (not-true (u.number == n) p.0)) p.1 in
    subst (λ j. t.number ≤ j) (sym a.2) l)
