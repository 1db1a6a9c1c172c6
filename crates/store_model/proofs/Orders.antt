-- Each call of a transaction leaves the world orderly.
use Rattle.std.proofs.Common.{◌≡◌, ◌≢◌, ℕ, ◌<◌, ◌==◌, Bool, true, false, cond, List, map, length, refl, sym, subst, ap, ◌∙◌, inl, inr}
use Rattle.std.specs.List.{filter, AllByRecursion}
use Rattle.std.proofs.lemmas.Bool.{eq-eqb}
use Rattle.std.proofs.lemmas.List.{length-map}
use Rattle.object_graph.specs.NameParts.{NameParts}
use Rattle.store_model.specs.Worlds.{World, Transaction, slots_of, transaction}
use Rattle.store_model.specs.Steps.{with_transaction}
use Rattle.store_model.specs.Lawful.{IsPlaced, IsLawfulTransaction, IsApart}
use Rattle.object_graph.proofs.Members.{In, filter_in, each_in, each_from}
use Rattle.store_model.proofs.Places.{filter_of_map}
use Rattle.store_model.specs.Lawful.{IsOrderly}
use Rattle.store_model.proofs.Lists.{filter_same}
use Rattle.store_model.proofs.Lists.{two_in, in_changed, apart_at, apart_from}

abbrev pub IsPlacedName : World → NameParts → Type 0
IsPlacedName w n = IsPlaced w.pages (slots_of w) n

pub lawful_one : (w : World) (t : Transaction) → IsOrderly w → In t w.transactions → IsLawfulTransaction w.graph w.freed t
lawful_one w t lawful m = each_in (IsLawfulTransaction w.graph w.freed) w.transactions t lawful.transactions m

pub placed_one : (w : World) (t : Transaction) → IsOrderly w → In t w.transactions → AllByRecursion (IsPlacedName w) t.own
placed_one w t lawful m = each_in (λ (t : Transaction). AllByRecursion (IsPlacedName w) t.own) w.transactions t lawful.own_placed m

-- ---- one transaction changes

-- the changed transaction is lawful, and apart from the others
pub record IsLawfulChange (w : World) (n : ℕ) (f : Transaction → Transaction) : Type 0 where
  pub is_open : In (transaction w n) w.transactions
  pub number : (transaction w n).number ≡ n
  pub numbers : (t : Transaction) → (f t).number ≡ t.number
  pub lawful : IsLawfulTransaction w.graph w.freed (f (transaction w n))
  pub placed : AllByRecursion (IsPlacedName w) (f (transaction w n)).own
  pub apart : (u : Transaction) → In u w.transactions → u.number ≢ n → IsApart (f (transaction w n)) u × IsApart u (f (transaction w n))

pub the_one : (w : World) (n : ℕ) (t u : Transaction) → IsOrderly w → In t w.transactions → In u w.transactions → t.number ≡ n → u.number ≡ n → t ≡ u
the_one w n t u lawful i j a b =
    two_in (filter (λ (t : Transaction). t.number == n) w.transactions) t u (lawful.distinct n)
    (filter_in (λ (t : Transaction). t.number == n) w.transactions t i (eq-eqb t.number n a))
    (filter_in (λ (t : Transaction). t.number == n) w.transactions u j (eq-eqb u.number n b))

number_changed : (n : ℕ) (f : Transaction → Transaction) (t : Transaction) → ((t : Transaction) → (f t).number ≡ t.number) → (cond (t.number == n) (f t) t).number ≡ t.number
number_changed n f t h = by_test (t.number == n)
  where
    by_test : (b : Bool) → (cond b (f t) t).number ≡ t.number
    by_test true = h t
    by_test false = refl

distinct_changed : (n k : ℕ) (f : Transaction → Transaction) (ts : List Transaction) → ((t : Transaction) → (f t).number ≡ t.number)
    → length (filter (λ (t : Transaction). t.number == k) (map (λ t. cond (t.number == n) (f t) t) ts)) ≡ length (filter (λ (t : Transaction). t.number == k) ts)
distinct_changed n k f ts h =
    let g : Transaction → Transaction = λ t. cond (t.number == n) (f t) t in
    ap length (filter_of_map g (λ (t : Transaction). t.number == k) ts)
    ∙ (length-map (filter (λ (t : Transaction). (g t).number == k) ts) g
    ∙ ap length (filter_same (λ (t : Transaction). (g t).number == k) (λ (t : Transaction). t.number == k) ts (λ t. ap (λ m. m == k) (number_changed n f t h))))

pub change_is_orderly : (w : World) (n : ℕ) (f : Transaction → Transaction) → IsOrderly w → IsLawfulChange w n f → IsOrderly (with_transaction w n f)
change_is_orderly w n f lawful change = record {
  root = lawful.root;
  placed = lawful.placed;
  own_placed = each_from (λ (t : Transaction). AllByRecursion (IsPlacedName w) t.own) after (λ u m.
      let a = in_changed n f w.transactions u m in
      elim a.2 [
        | inl e ↦ subst (λ (t : Transaction). AllByRecursion (IsPlacedName w) t.own) (sym (is_one a.0 u a.1 e.0 e.1)) change.placed
        | inr e ↦ subst (λ (t : Transaction). AllByRecursion (IsPlacedName w) t.own) (sym e.1) (placed_one w a.0 lawful a.1)
      ]);
  whole = lawful.whole;
  counted = lawful.counted;
  last = lawful.last;
  distinct = λ k. subst (λ m. m < 2) (sym (distinct_changed n k f w.transactions change.numbers)) (lawful.distinct k);
  transactions = each_from (IsLawfulTransaction w.graph w.freed) after (λ u m.
      let a = in_changed n f w.transactions u m in
      elim a.2 [
        | inl e ↦ subst (IsLawfulTransaction w.graph w.freed) (sym (is_one a.0 u a.1 e.0 e.1)) change.lawful
        | inr e ↦ subst (IsLawfulTransaction w.graph w.freed) (sym e.1) (lawful_one w a.0 lawful a.1)
      ]);
  apart = apart_from after (λ t u i j ne.
      let a = in_changed n f w.transactions t i in
      let b = in_changed n f w.transactions u j in
      elim a.2 [
        | inl e ↦ elim b.2 [
          | inl g ↦
              let p : t.number ≡ n = ap (λ (t : Transaction). t.number) e.1 ∙ (change.numbers a.0 ∙ e.0) in
              let q : u.number ≡ n = ap (λ (t : Transaction). t.number) g.1 ∙ (change.numbers b.0 ∙ g.0) in
              absurd (ne (q ∙ sym p))
          | inr g ↦
              subst (λ t. IsApart t u) (sym (is_one a.0 t a.1 e.0 e.1))
              (subst (λ u. IsApart (f (transaction w n)) u) (sym g.1) (change.apart b.0 b.1 g.0).0)
        ]
        | inr e ↦ elim b.2 [
          | inl g ↦
              subst (λ u. IsApart t u) (sym (is_one b.0 u b.1 g.0 g.1))
              (subst (λ t. IsApart t (f (transaction w n))) (sym e.1) (change.apart a.0 a.1 e.0).1)
          | inr g ↦
              subst (λ t. IsApart t u) (sym e.1) (subst (λ u. IsApart a.0 u) (sym g.1)
              (apart_at w.transactions a.0 b.0 lawful.apart a.1 b.1
              (λ q. ne (ap (λ (t : Transaction). t.number) g.1 ∙ (q ∙ sym (ap (λ (t : Transaction). t.number) e.1))))))
        ]
      ]);
  freed_there = lawful.freed_there;
}
  where
    after : List Transaction
    after = map (λ t. cond (t.number == n) (f t) t) w.transactions

    is_one : (t u : Transaction) → In t w.transactions → t.number ≡ n → u ≡ f t → u ≡ f (transaction w n)
    is_one t u i e q = q ∙ ap f (the_one w n t (transaction w n) lawful i change.is_open e change.number)
