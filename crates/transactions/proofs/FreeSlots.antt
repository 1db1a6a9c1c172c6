-- The slot and the name of a new object.
use Rattle.std.proofs.Common.{◌-◌, ◌≡◌, ℕ, zero, suc, ◌<◌, ◌≤◌, Bool, true, false, not, ◌||◌, ◌==◌, cond, List, [], ◌∷◌, ◌++◌, map, length, Some, None, refl, sym, subst, ap, ◌∙◌, inl, inr, arith, append-nil, nat_lt}
use Rattle.std.specs.List.{filter, find, list_any}
use Rattle.std.specs.Option.{option_or}
use Rattle.std.proofs.lemmas.Bool.{cases_eq, eq-eqb, ne_eqb, lt-ltb, le-ltb, cases_lt, false_from_ne_true}
use Rattle.std.proofs.lemmas.List.Folds.{find-append, list_any-append}
use Rattle.std.proofs.lemmas.List.{map-append, length-map}
use Rattle.object_graph.specs.NameParts.{NameParts}
use Rattle.object_graph.specs.ObjectParts.{ObjectParts}
use Rattle.object_graph.specs.Graphs.{is_at, objects_at, has_name}
use Rattle.object_graph.specs.Slots.{below}
use Rattle.object_graph.specs.declared.limits.TheConstants.{LAST_GENERATION}
use Rattle.store_model.specs.Worlds.{World, Transaction, view, with_writes, new_object, is_unfreed, slots_of, fields_of, find_transaction}
use Rattle.store_model.specs.Images.{unfreed_at, shown_slot, slot_with}
use Rattle.page_image.specs.Slots.{has_room}
use Rattle.store_model.specs.Causes.{is_occupied, free_slot}
use Rattle.store_model.specs.Lawful.{IsLawfulTransaction, IsLawful}
use Rattle.object_graph.proofs.Members.{In, in_any, any_in, in_filter, filter_in, each_in, or_left}
use Rattle.transactions.proofs.Numbers.{transaction_found, found_in_list}
use Rattle.transactions.proofs.Viewed.{objects_at-view}
use Rattle.transactions.proofs.Seen.{unfreed_at-view, nothing_unfreed, own_unfreed}

-- the first number below n that passes
find_none-below : (p : ℕ → Bool) (n : ℕ) → ((j : ℕ) → j < n → p j ≡ false) → find p (below n) ≡ None
find_none-below p zero h = refl
find_none-below p (suc n) h =
    find-append p (below n) (n ∷ [])
    ∙ (ap (λ o. option_or o (find p (n ∷ []))) (find_none-below p n (λ j lt. let l : j < suc n = omega arith in h j l))
    ∙ ap (λ b. option_or None (cond b (Some n) None)) (let l : n < suc n = omega arith in h n l))

pub find-below : (p : ℕ → Bool) (n k : ℕ) → k < n → p k ≡ true → ((j : ℕ) → j < k → p j ≡ false) → find p (below n) ≡ Some k
find-below p zero k lt e h = absurd (omega arith)
find-below p (suc n) k lt e h = elim (cases_eq k n) [
  | inl same ↦
      find-append p (below n) (n ∷ [])
      ∙ (ap (λ o. option_or o (find p (n ∷ []))) (find_none-below p n (λ j l. let m : j < k = omega arith in h j m))
      ∙ (ap (λ b. option_or None (cond b (Some n) None)) (ap p (sym same) ∙ e) ∙ ap (λ i. Some i) (sym same)))
  | inr ne ↦
      let m : k < n = omega arith in
      find-append p (below n) (n ∷ []) ∙ ap (λ o. option_or o (find p (n ∷ []))) (find-below p n k m e h)
]

-- the number m is among 1 to n
among_counts : (n m : ℕ) → list_any (λ k. k == suc m) (map suc (below n)) ≡ not (nat_lt n (suc m))
among_counts zero m = sym (ap not (let l : 0 < suc m = omega arith in lt-ltb 0 (suc m) l))
among_counts (suc n) m =
    ap (list_any (λ k. k == suc m)) (map-append suc (below n) (n ∷ []))
    ∙ (list_any-append (λ k. k == suc m) (map suc (below n)) (suc n ∷ [])
    ∙ (ap (λ b. b || ((suc n == suc m) || false)) (among_counts n m) ∙ by))
  where
    by : (not (nat_lt n (suc m)) || ((suc n == suc m) || false)) ≡ not (nat_lt (suc n) (suc m))
    by = elim (cases_lt n m) [
      | inl less ↦
          let l : n < suc m = omega arith in let k : suc n < suc m = omega arith in let ne : suc n ≡ suc m → ⊥ = λ e. absurd (omega arith) in
          ap (λ b. not b || ((suc n == suc m) || false)) (lt-ltb n (suc m) l) ∙ (ap (λ b. b || false) (ne_eqb (suc n) (suc m) ne) ∙ sym (ap not (lt-ltb (suc n) (suc m) k)))
      | inr more ↦
          let k : suc m ≤ suc n = omega arith in
          elim (cases_eq n m) [
            | inl same ↦
                let l : n < suc m = omega arith in
                ap (λ b. not b || ((suc n == suc m) || false)) (lt-ltb n (suc m) l) ∙ (ap (λ b. b || false) (eq-eqb (suc n) (suc m) (ap suc same)) ∙ sym (ap not (le-ltb (suc n) (suc m) k)))
            | inr ne ↦
                let l : suc m ≤ n = omega arith in
                ap (λ b. not b || ((suc n == suc m) || false)) (le-ltb n (suc m) l) ∙ sym (ap not (le-ltb (suc n) (suc m) k))
          ]
    ]

not_or : (a b : Bool) → b ≡ true → not (a || b) ≡ false
not_or true b e = refl
not_or false b e = ap not e

not_or_first : (a b : Bool) → a ≡ true → not (a || b) ≡ false
not_or_first a b e = ap (λ x. not (x || b)) e

any_map : (p : ℕ → Bool) (f : ObjectParts → ℕ) (xs : List ObjectParts) → list_any (λ o. p (f o)) xs ≡ list_any p (map f xs)
any_map p f [] = refl
any_map p f (x ∷ xs) = ap (λ b. p (f x) || b) (any_map p f xs)

any_same : (p q : ObjectParts → Bool) (xs : List ObjectParts) → ((x : ObjectParts) → In x xs → p x ≡ q x) → list_any p xs ≡ list_any q xs
any_same p q [] h = refl
any_same p q (x ∷ xs) h = ap (λ b. b || list_any p xs) (h x (inl refl)) ∙ ap (λ b. q x || b) (any_same p q xs (λ y m. h y (inr m)))

none_passes : (q : NameParts → Bool) (xs : List NameParts) → filter q xs ≡ [] → list_any q xs ≡ false
none_passes q xs e = false_from_ne_true (list_any q xs) (λ t. let a = any_in q xs t in subst (λ ys. In a.0 ys) e (filter_in q xs a.0 a.1 a.2))

-- what a free place shows, and what an occupied one
pub taken_as_free : (w : World) (txn : ℕ) (t : Transaction) (fields page slot : ℕ) → IsLawful w → find_transaction w txn ≡ Some t
    → has_room (shown_slot fields (view w t) w.freed page slot) ≡ not (is_occupied w txn page slot)
taken_as_free w txn t fields page slot lawful found = by (filter (is_at page slot) t.own) refl (lt.one_at_each_place page slot)
  where
    m_t : In t w.transactions
    m_t = (found_in_list (λ (t : Transaction). t.number == txn) w.transactions t found).0

    lt : IsLawfulTransaction w.graph w.freed t
    lt = each_in (IsLawfulTransaction w.graph w.freed) w.transactions t lawful.orderly.transactions m_t

    unfree : Bool
    unfree = list_any (λ o. is_unfreed w.freed o || (o.name.generation == LAST_GENERATION)) (objects_at w.graph page slot)

    occupied_is : is_occupied w txn page slot ≡ (unfree || list_any (is_at page slot) t.own)
    occupied_is = ap (λ (x : Transaction). unfree || list_any (is_at page slot) x.own) (transaction_found w txn t found)

    count : length (objects_at (view w t) page slot) ≡ length (objects_at w.graph page slot ++ map (new_object w) (filter (is_at page slot) t.own))
    count = ap length (objects_at-view w t page slot) ∙ length-map (objects_at w.graph page slot ++ map (new_object w) (filter (is_at page slot) t.own)) (with_writes t.writes)

    free : (us : List ObjectParts) → unfreed_at w.graph w.freed page slot ≡ us → filter (is_at page slot) t.own ≡ []
        → has_room (slot_with fields (map (with_writes t.writes) us) (length (objects_at w.graph page slot))) ≡ not unfree
    free (o ∷ os) e none =
        let i = in_filter (is_unfreed w.freed) (objects_at w.graph page slot) o (subst (λ us. In o us) (sym e) (inl refl)) in
        sym (ap not (in_any (λ o. is_unfreed w.freed o || (o.name.generation == LAST_GENERATION)) (objects_at w.graph page slot) o i.0 (or_left (not (has_name w.freed o.name)) (o.name.generation == LAST_GENERATION) i.1)))
    free [] e none =
        let freed_all : (x : ObjectParts) → In x (objects_at w.graph page slot) → (not (has_name w.freed x.name) || (x.name.generation == LAST_GENERATION)) ≡ (x.name.generation == LAST_GENERATION) =
        λ x m. ap (λ b. b || (x.name.generation == LAST_GENERATION)) (false_from_ne_true (not (has_name w.freed x.name)) (λ p. subst (λ us. In x us) e (filter_in (is_unfreed w.freed) (objects_at w.graph page slot) x m p))) in
        let n : ℕ = length (objects_at w.graph page slot) in
        let same : unfree ≡ not (nat_lt n LAST_GENERATION) =
        any_same (λ o. is_unfreed w.freed o || (o.name.generation == LAST_GENERATION)) (λ o. o.name.generation == LAST_GENERATION) (objects_at w.graph page slot) freed_all
        ∙ (any_map (λ k. k == LAST_GENERATION) (λ o. o.name.generation) (objects_at w.graph page slot)
        ∙ (ap (list_any (λ k. k == LAST_GENERATION)) (lawful.orderly.counted page slot) ∙ among_counts n (LAST_GENERATION - 1))) in
        twice (nat_lt n LAST_GENERATION) ∙ sym (ap not same)
      where
        twice : (b : Bool) → b ≡ not (not b)
        twice true = refl
        twice false = refl

    by : (names : List NameParts) → filter (is_at page slot) t.own ≡ names → length names < 2
        → has_room (shown_slot fields (view w t) w.freed page slot) ≡ not (is_occupied w txn page slot)
    by [] e few =
        ap (λ us. has_room (slot_with fields us (length (objects_at (view w t) page slot))))
        (unfreed_at-view w t page slot
        ∙ (ap (λ ns. map (with_writes t.writes) (unfreed_at w.graph w.freed page slot ++ filter (is_unfreed w.freed) (map (new_object w) ns))) e
        ∙ ap (map (with_writes t.writes)) (append-nil (unfreed_at w.graph w.freed page slot))))
        ∙ (ap (λ n. has_room (slot_with fields (map (with_writes t.writes) (unfreed_at w.graph w.freed page slot)) n))
        (count ∙ (ap (λ ns. length (objects_at w.graph page slot ++ map (new_object w) ns)) e ∙ ap length (append-nil (objects_at w.graph page slot))))
        ∙ (free (unfreed_at w.graph w.freed page slot) refl e
        ∙ (ap not (sym (or_no unfree)) ∙ (ap (λ b. not (unfree || b)) (sym (none_passes (is_at page slot) t.own e)) ∙ ap not (sym occupied_is)))))
      where
        or_no : (a : Bool) → (a || false) ≡ a
        or_no true = refl
        or_no false = refl
    by (n ∷ []) e few =
        let i : In n (filter (is_at page slot) t.own) = subst (λ ns. In n ns) (sym e) (inl refl) in
        let a = in_filter (is_at page slot) t.own n i in
        let new : not (has_name w.freed n) ≡ true = ap not (own_unfreed w t n lawful lt a.0) in
        ap (λ us. has_room (slot_with fields us (length (objects_at (view w t) page slot))))
        (unfreed_at-view w t page slot
        ∙ (ap (λ ns. map (with_writes t.writes) (unfreed_at w.graph w.freed page slot ++ filter (is_unfreed w.freed) (map (new_object w) ns))) e
        ∙ (ap (λ us. map (with_writes t.writes) (us ++ filter (is_unfreed w.freed) (map (new_object w) (n ∷ [])))) (nothing_unfreed w t n page slot lt i)
        ∙ ap (λ b. map (with_writes t.writes) (cond b (new_object w n ∷ []) [])) new)))
        ∙ sym (ap not occupied_is ∙ not_or unfree (list_any (is_at page slot) t.own) (in_any (is_at page slot) t.own n a.0 a.1))
    by (n ∷ k ∷ ns) e few = absurd (omega arith)

-- the first slot that shows as free is the model's
pub first_free : (w : World) (txn : ℕ) (t : Transaction) (page slot : ℕ) → IsLawful w → find_transaction w txn ≡ Some t → slot < slots_of w page
    → has_room (shown_slot (fields_of w page) (view w t) w.freed page slot) ≡ true
    → ((s : ℕ) → s < slot → has_room (shown_slot (fields_of w page) (view w t) w.freed page s) ≡ false)
    → free_slot w txn page ≡ Some slot
first_free w txn t page slot lawful found lt is_open least =
    find-below (λ s. not (is_occupied w txn page s)) (slots_of w page) slot lt
    (sym (taken_as_free w txn t (fields_of w page) page slot lawful found) ∙ is_open)
    (λ s l. sym (taken_as_free w txn t (fields_of w page) page s lawful found) ∙ least s l)

pub none_free : (w : World) (txn : ℕ) (t : Transaction) (page : ℕ) → IsLawful w → find_transaction w txn ≡ Some t
    → ((s : ℕ) → s < slots_of w page → has_room (shown_slot (fields_of w page) (view w t) w.freed page s) ≡ false) → free_slot w txn page ≡ None
none_free w txn t page lawful found full =
    find_none-below (λ s. not (is_occupied w txn page s)) (slots_of w page) (λ s l. sym (taken_as_free w txn t (fields_of w page) page s lawful found) ∙ full s l)
