-- A walk over a graph finds exactly what is reached.
use Rattle.std.proofs.Common.{◌≡◌, ℕ, ◌+◌, ◌<◌, Bool, true, false, ◌&&◌, ◌||◌, List, [], ◌∷◌, ◌++◌, length, get_or, take, refl, sym, subst, ap, ◌∙◌, ◌⊎◌, inl, inr, append_assoc, append-nil, map, length-append, arith, eqb}
use Rattle.std.specs.List.{list_any, remove, IsDistinct, AllByRecursion, All}
use Rattle.std.specs.List.Sorted.{IsPermutation, IsNonDecreasingBy, IsNonDecreasing, IsStrictlyIncreasing}
use Rattle.std.proofs.lemmas.Bool.{and_parts, and_from, or_cases, ne_eqb}
use Rattle.std.proofs.lemmas.List.Folds.{list_any-append, list_any_more}
use Rattle.std.proofs.lemmas.List.Sorted.{IsPermutation-refl, IsPermutation-trans, IsPermutation-more, IsPermutation-remove, IsPermutation-to_front, IsPermutation-append_left, IsPermutation-append_right, list_any-IsPermutation, length_permutation, All-permutation}
use Rattle.std.proofs.lemmas.Map.Keys.{IsDistinct-IsPermutation, IsDistinct-head, IsDistinct-tail, IsStrictlyIncreasing-from_distinct}
use Rattle.std.proofs.lemmas.List.{length-map, get_or-map}
use Rattle.std.proofs.lemmas.List.Elements.{recursion_from_All}
use Rattle.object_graph.specs.NameParts.{NameParts}
use Rattle.object_graph.specs.Names.{name_eq, number_of, root_name, IsName}
use Rattle.object_graph.specs.Graphs.{has_object, has_name, has_same_name, is_to, refers, HasEachNameOnce, IsPath, IsReachedFrom}
use Rattle.object_graph.specs.Walks.{AreTakenOver, AreReached}
use Rattle.object_graph.specs.ObjectParts.{ObjectParts}
use Rattle.object_graph.proofs.Distinct.{same_name_flips, name_eq_flips}
use Rattle.object_graph.proofs.Members.{In, any_in, in_any, or_left, or_right}
use Rattle.object_graph.proofs.Paths.{name_of, name_eq_same, name_eq_refl, path_first, reached_more}

-- ---- tests over lists of objects

or_false : (a b : Bool) → (a || b) ≡ false → (a ≡ false) × (b ≡ false)
or_false true b h = cc
or_false false b h = (refl, h)

false_or : (a b : Bool) → a ≡ false → b ≡ false → (a || b) ≡ false
false_or true b p q = cc
false_or false b p q = q

or_not_right : (a b : Bool) → (a || b) ≡ true → b ≡ false → a ≡ true
or_not_right true b h n = refl
or_not_right false b h n = cc

has_object-append : (xs ys : List ObjectParts) (n : NameParts) → has_object (xs ++ ys) n ≡ (has_object xs n || has_object ys n)
has_object-append xs ys n = list_any-append (λ o. name_eq o.name n) xs ys

has_object-same : (xs ys : List ObjectParts) → IsPermutation xs ys → (n : NameParts) → has_object xs n ≡ has_object ys n
has_object-same xs ys p n = list_any-IsPermutation (λ o. name_eq o.name n) xs ys p

in_left : (xs ys : List ObjectParts) (n : NameParts) → has_object xs n ≡ true → has_object (xs ++ ys) n ≡ true
in_left xs ys n h = has_object-append xs ys n ∙ or_left (has_object xs n) (has_object ys n) h

in_right : (xs ys : List ObjectParts) (n : NameParts) → has_object ys n ≡ true → has_object (xs ++ ys) n ≡ true
in_right xs ys n h = has_object-append xs ys n ∙ or_right (has_object xs n) (has_object ys n) h

in_either : (xs ys : List ObjectParts) (n : NameParts) → has_object (xs ++ ys) n ≡ true → (has_object xs n ≡ true) ⊎ (has_object ys n ≡ true)
in_either xs ys n h = or_cases (has_object xs n) (has_object ys n) (sym (has_object-append xs ys n) ∙ h)

-- ---- each name once

once_same : (xs ys : List ObjectParts) → IsPermutation xs ys → HasEachNameOnce xs → HasEachNameOnce ys
once_same xs ys p h = IsDistinct-IsPermutation has_same_name same_name_flips xs ys p h

once_right : (xs ys : List ObjectParts) → HasEachNameOnce (xs ++ ys) → HasEachNameOnce ys
once_right [] ys h = h
once_right (x ∷ xs) ys h = once_right xs ys (IsDistinct-tail has_same_name x (xs ++ ys) h)

each_left : (x : ObjectParts) (xs ys : List ObjectParts) → AllByRecursion (λ y. has_same_name x y ≡ false) (xs ++ ys) → AllByRecursion (λ y. has_same_name x y ≡ false) xs
each_left x [] ys h = tt
each_left x (y ∷ xs) ys h = (h.0, each_left x xs ys h.1)

once_left : (xs ys : List ObjectParts) → HasEachNameOnce (xs ++ ys) → HasEachNameOnce xs
unfolding IsDistinct
once_left [] ys h = tt
once_left (x ∷ xs) ys h = (each_left x xs ys h.0, once_left xs ys h.1)

none_of : (x : ObjectParts) (ys : List ObjectParts) → AllByRecursion (λ y. has_same_name x y ≡ false) ys → has_object ys x.name ≡ false
none_of x [] h = refl
none_of x (y ∷ ys) h = false_or (name_eq y.name x.name) (has_object ys x.name) (same_name_flips y x ∙ h.0) (none_of x ys h.1)

none_after : (x : ObjectParts) (ys : List ObjectParts) → HasEachNameOnce (x ∷ ys) → has_object ys x.name ≡ false
none_after x ys h = none_of x ys (IsDistinct-head has_same_name x ys h)

-- a name of the first part is none of the second
apart : (xs ys : List ObjectParts) (n : NameParts) → HasEachNameOnce (xs ++ ys) → has_object xs n ≡ true → has_object ys n ≡ false
apart [] ys n h m = cc
apart (x ∷ xs) ys n h m = elim (or_cases (name_eq x.name n) (has_object xs n) m) [
  | inl e ↦
      let none = none_after x (xs ++ ys) h in
      let both = or_false (has_object xs x.name) (has_object ys x.name) (sym (has_object-append xs ys x.name) ∙ none) in
      subst (λ k. has_object ys k ≡ false) (name_eq_same x.name n e) both.1
  | inr r ↦ apart xs ys n (IsDistinct-tail has_same_name x (xs ++ ys) h) r
]

-- ---- taking objects

pub taken_none : (wanted : NameParts → Bool) (todo left : List ObjectParts) → ((n : NameParts) → wanted n ≡ true → has_object left n ≡ false)
    → AreTakenOver wanted todo left todo left
taken_none wanted todo left h = record {
  same = IsPermutation-refl (todo ++ left);
  gone = λ once n w. h n w;
  kept = λ n k. k;
  only = λ n k. inl k;
}

pub taken_one : (name : NameParts) (todo left : List ObjectParts) (i : ℕ) (o : ObjectParts) → i < length left → o ≡ get_or left i o → o.name ≡ name
    → AreTakenOver (name_eq name) todo left (todo ++ o ∷ []) (remove left i)
taken_one name todo left i o lt is named =
    let moves = IsPermutation-remove left i o lt is in
    record {
      same = IsPermutation-more (todo ++ left) todo left i o lt is (IsPermutation-refl (todo ++ left));
      gone = λ once n w.
          subst (λ k. has_object (remove left i) k ≡ false) (named ∙ name_eq_same name n w)
          (none_after o (remove left i) (once_same left (o ∷ remove left i) moves (once_right todo left once)));
      kept = λ n none. (or_false (name_eq o.name n) (has_object (remove left i) n) (sym (has_object-same left (o ∷ remove left i) moves n) ∙ none)).1;
      only = λ n found. elim (in_either todo (o ∷ []) n found) [
        | inl e ↦ inl e
        | inr e ↦ inr (elim (or_cases (name_eq o.name n) false e) [ inl s ↦ subst (λ k. name_eq k n ≡ true) named s | inr never ↦ cc ])
      ];
    }

pub taken_both : (a b both : NameParts → Bool) (t0 l0 t1 l1 t2 l2 : List ObjectParts) → ((n : NameParts) → both n ≡ (a n || b n))
    → AreTakenOver a t0 l0 t1 l1 → AreTakenOver b t1 l1 t2 l2 → AreTakenOver both t0 l0 t2 l2
taken_both a b both t0 l0 t1 l1 t2 l2 is p q = record {
  same = IsPermutation-trans (t0 ++ l0) (t1 ++ l1) (t2 ++ l2) p.same q.same;
  gone = λ once n w. elim (or_cases (a n) (b n) (sym (is n) ∙ w)) [
    | inl x ↦ q.kept n (p.gone once n x)
    | inr y ↦ q.gone (once_same (t0 ++ l0) (t1 ++ l1) p.same once) n y
  ];
  kept = λ n h. q.kept n (p.kept n h);
  only = λ n h. elim (q.only n h) [
    | inl x ↦ elim (p.only n x) [ inl u ↦ inl u | inr w ↦ inr (is n ∙ or_left (a n) (b n) w) ]
    | inr y ↦ inr (is n ∙ or_right (a n) (b n) y)
  ];
}

pub taken_more : {X : Type 0} (wants : X → NameParts → Bool) (xs : List X) (i : ℕ) (x : X) (t0 l0 t1 l1 t2 l2 : List ObjectParts) → i < length xs → x ≡ get_or xs i x
    → AreTakenOver (λ n. list_any (λ y. wants y n) (take i xs)) t0 l0 t1 l1 → AreTakenOver (wants x) t1 l1 t2 l2
    → AreTakenOver (λ n. list_any (λ y. wants y n) (take (i + 1) xs)) t0 l0 t2 l2
taken_more wants xs i x t0 l0 t1 l1 t2 l2 lt is p q =
    taken_both (λ n. list_any (λ y. wants y n) (take i xs)) (wants x) (λ n. list_any (λ y. wants y n) (take (i + 1) xs)) t0 l0 t1 l1 t2 l2
    (λ n. list_any_more (λ y. wants y n) xs i x lt ∙ ap (λ y. list_any (λ z. wants z n) (take i xs) || wants y n) (sym is)) p q

-- ---- the walk

-- what was followed, what is to be followed, and what is left over
pub record IsWalk (graph : List ObjectParts) (starts : List NameParts) (done todo left : List ObjectParts) : Type 0 where
  pub same : IsPermutation graph ((done ++ todo) ++ left)
  pub sound : (n : NameParts) → has_object (done ++ todo) n ≡ true → IsReachedFrom graph starts n
  pub closed : AllByRecursion (λ o. (n : NameParts) → list_any (is_to n) o.refs ≡ true → has_object left n ≡ false) done
  pub begun : (n : NameParts) → has_name starts n ≡ true → has_object left n ≡ false

pub walk_begun : (graph : List ObjectParts) (starts : List NameParts) (todo left : List ObjectParts) → HasEachNameOnce graph
    → AreTakenOver (has_name starts) [] graph todo left → IsWalk graph starts [] todo left
walk_begun graph starts todo left once p = record {
  same = p.same;
  sound = λ n h. elim (p.only n h) [
    | inl none ↦ cc
    | inr w ↦ (n, w, ([], (refl, has_object-same graph (todo ++ left) p.same n ∙ in_left todo left n h)))
  ];
  closed = tt;
  begun = p.gone once;
}

closed_more : (done : List ObjectParts) (o : ObjectParts) (left left' : List ObjectParts) → ((n : NameParts) → has_object left n ≡ false → has_object left' n ≡ false)
    → AllByRecursion (λ q. (n : NameParts) → list_any (is_to n) q.refs ≡ true → has_object left n ≡ false) done
    → ((n : NameParts) → list_any (is_to n) o.refs ≡ true → has_object left' n ≡ false)
    → AllByRecursion (λ q. (n : NameParts) → list_any (is_to n) q.refs ≡ true → has_object left' n ≡ false) (done ++ o ∷ [])
closed_more [] o left left' kept h new = (new, tt)
closed_more (q ∷ qs) o left left' kept h new = (λ n r. kept n (h.0 n r), closed_more qs o left left' kept h.1 new)

-- an object of the graph refers to what is among its references
refers_from : (graph : List ObjectParts) (o : ObjectParts) (n : NameParts) → In o graph → list_any (is_to n) o.refs ≡ true → refers graph o.name n ≡ true
refers_from graph o n m r =
    in_any (λ q. name_eq q.name o.name && list_any (is_to n) q.refs) graph o m
    (and_from (name_eq o.name o.name) (list_any (is_to n) o.refs) (name_eq_refl o.name) r)

refers_here : (graph front rest : List ObjectParts) (o : ObjectParts) (n : NameParts) → IsPermutation graph (front ++ o ∷ rest)
    → list_any (is_to n) o.refs ≡ true → refers graph o.name n ≡ true
refers_here graph front rest o n p r =
    list_any-IsPermutation (λ q. name_eq q.name o.name && list_any (is_to n) q.refs) graph (front ++ o ∷ rest) p
    ∙ refers_from (front ++ o ∷ rest) o n (here front) r
  where
    here : (front : List ObjectParts) → In o (front ++ o ∷ rest)
    here [] = inl refl
    here (x ∷ xs) = inr (here xs)

-- the next object of those to be followed goes to those that were followed
moved : (graph done todo left todo' left' : List ObjectParts) (o : ObjectParts) → IsPermutation graph ((done ++ (todo ++ o ∷ [])) ++ left)
    → IsPermutation (todo ++ left) (todo' ++ left') → IsPermutation graph (((done ++ o ∷ []) ++ todo') ++ left')
moved graph done todo left todo' left' o p q =
    let front : List ObjectParts = done ++ o ∷ [] in
    let turn : IsPermutation (done ++ (todo ++ o ∷ [])) (done ++ o ∷ todo) =
    IsPermutation-append_right done (todo ++ o ∷ []) (o ∷ todo) (IsPermutation-to_front todo o) in
    let turned : IsPermutation graph ((done ++ o ∷ todo) ++ left) =
    IsPermutation-trans graph ((done ++ (todo ++ o ∷ [])) ++ left) ((done ++ o ∷ todo) ++ left) p
    (IsPermutation-append_left left (done ++ (todo ++ o ∷ [])) (done ++ o ∷ todo) turn) in
    let e : (done ++ o ∷ todo) ++ left ≡ front ++ (todo ++ left) =
    ap (λ xs. xs ++ left) (sym (append_assoc done (o ∷ []) todo)) ∙ append_assoc front todo left in
    let at_front : IsPermutation graph (front ++ (todo ++ left)) = subst (λ xs. IsPermutation graph xs) e turned in
    subst (λ xs. IsPermutation graph xs) (sym (append_assoc front todo' left'))
    (IsPermutation-trans graph (front ++ (todo ++ left)) (front ++ (todo' ++ left')) at_front
    (IsPermutation-append_right front (todo ++ left) (todo' ++ left') q))

-- those to be followed and those left over have each name once
once_ahead : (graph done todo left : List ObjectParts) (o : ObjectParts) → HasEachNameOnce graph → IsPermutation graph ((done ++ (todo ++ o ∷ [])) ++ left)
    → HasEachNameOnce (todo ++ left)
once_ahead graph done todo left o once p =
    let q = moved graph done todo left todo left o p (IsPermutation-refl (todo ++ left)) in
    let r : HasEachNameOnce (((done ++ o ∷ []) ++ todo) ++ left) = once_same graph (((done ++ o ∷ []) ++ todo) ++ left) q once in
    once_right (done ++ o ∷ []) (todo ++ left) (subst HasEachNameOnce (append_assoc (done ++ o ∷ []) todo left) r)

sound_step : (graph : List ObjectParts) (starts : List NameParts) (done : List ObjectParts) (o : ObjectParts) (todo left todo' left' : List ObjectParts)
    → IsWalk graph starts done (todo ++ o ∷ []) left → AreTakenOver (λ n. list_any (is_to n) o.refs) todo left todo' left'
    → (n : NameParts) → has_object ((done ++ o ∷ []) ++ todo') n ≡ true → IsReachedFrom graph starts n
sound_step graph starts done o todo left todo' left' w t n h =
    let front : List ObjectParts = done ++ o ∷ [] in
    let at_end : IsPermutation graph ((front ++ todo') ++ left') = moved graph done todo left todo' left' o w.same t.same in
    let there : has_object graph n ≡ true = has_object-same graph ((front ++ todo') ++ left') at_end n ∙ in_left (front ++ todo') left' n h in
    let ahead = λ (k : NameParts) (m : has_object (todo ++ o ∷ []) k ≡ true). w.sound k (in_right done (todo ++ o ∷ []) k m) in
    elim (in_either front todo' n h) [
      | inl f ↦ elim (in_either done (o ∷ []) n f) [
        | inl d ↦ w.sound n (in_left done (todo ++ o ∷ []) n d)
        | inr e ↦ ahead n (in_right todo (o ∷ []) n e)
      ]
      | inr m ↦ elim (t.only n m) [
        | inl u ↦ ahead n (in_left todo (o ∷ []) n u)
        | inr r ↦
            let from : IsReachedFrom graph starts o.name =
            ahead o.name (in_right todo (o ∷ []) o.name (or_left (name_eq o.name o.name) false (name_eq_refl o.name))) in
            let step : refers graph o.name n ≡ true =
            refers_here graph done (todo' ++ left') o n
            (subst (λ xs. IsPermutation graph xs) (append_assoc front todo' left' ∙ append_assoc done (o ∷ []) (todo' ++ left')) at_end) r in
            reached_more graph starts o.name n from step there
      ]
    ]

pub walk_step : (graph : List ObjectParts) (starts : List NameParts) (done : List ObjectParts) (o : ObjectParts) (todo left todo' left' : List ObjectParts) → HasEachNameOnce graph
    → IsWalk graph starts done (todo ++ o ∷ []) left → AreTakenOver (λ n. list_any (is_to n) o.refs) todo left todo' left'
    → IsWalk graph starts (done ++ o ∷ []) todo' left'
walk_step graph starts done o todo left todo' left' once w t = record {
  same = moved graph done todo left todo' left' o w.same t.same;
  sound = sound_step graph starts done o todo left todo' left' w t;
  closed = closed_more done o left left' t.kept w.closed (t.gone (once_ahead graph done todo left o once w.same));
  begun = λ n s. t.kept n (w.begun n s);
}

-- ---- its end

closed_at : (done left : List ObjectParts) → AllByRecursion (λ o. (n : NameParts) → list_any (is_to n) o.refs ≡ true → has_object left n ≡ false) done
    → (o : ObjectParts) → In o done → (n : NameParts) → list_any (is_to n) o.refs ≡ true → has_object left n ≡ false
closed_at [] left h o m n r = absurd m
closed_at (q ∷ qs) left h o m n r = elim m [
  | inl e ↦ h.0 n (subst (λ (x : ObjectParts). list_any (is_to n) x.refs ≡ true) e r)
  | inr k ↦ closed_at qs left h.1 o k n r
]

-- from what was followed no reference leads to what is left over
stays : (graph done left : List ObjectParts) → HasEachNameOnce graph → IsPermutation graph (done ++ left)
    → AllByRecursion (λ o. (n : NameParts) → list_any (is_to n) o.refs ≡ true → has_object left n ≡ false) done
    → (first next : NameParts) → has_object done first ≡ true → refers graph first next ≡ true → has_object left next ≡ false
stays graph done left once p closed first next m r =
    let test : ObjectParts → Bool = λ q. name_eq q.name first && list_any (is_to next) q.refs in
    let both : (list_any test done || list_any test left) ≡ true =
    sym (list_any-append test done left) ∙ (sym (list_any-IsPermutation test graph (done ++ left) p) ∙ r) in
    elim (or_cases (list_any test done) (list_any test left) both) [
      | inl d ↦
          let found = any_in test done d in
          closed_at done left closed found.0 found.1 next
          (and_parts (name_eq found.0.name first) (list_any (is_to next) found.0.refs) found.2).1
      | inr l ↦
          let found = any_in test left l in
          let parts = and_parts (name_eq found.0.name first) (list_any (is_to next) found.0.refs) found.2 in
          let in' : has_object left first ≡ true = in_any (λ q. name_eq q.name first) left found.0 found.1 parts.0 in
          let none = apart done left first (once_same graph (done ++ left) p once) m in
          cc
    ]

follows : (graph done left : List ObjectParts) → HasEachNameOnce graph → IsPermutation graph (done ++ left)
    → AllByRecursion (λ o. (n : NameParts) → list_any (is_to n) o.refs ≡ true → has_object left n ≡ false) done
    → (first : NameParts) (rest : List NameParts) (last : NameParts) → has_object done first ≡ true → IsPath graph first rest last → has_object done last ≡ true
follows graph done left once p closed first [] last m path = subst (λ n. has_object done n ≡ true) path.0 m
follows graph done left once p closed first (next ∷ rest) last m path =
    let none = stays graph done left once p closed first next m path.0 in
    let there : (has_object done next || has_object left next) ≡ true =
    sym (has_object-append done left next) ∙ (sym (has_object-same graph (done ++ left) p next) ∙ path_first graph next rest last path.2) in
    follows graph done left once p closed next rest last (or_not_right (has_object done next) (has_object left next) there none) path.2

pub walk_done : (graph : List ObjectParts) (starts : List NameParts) (done left : List ObjectParts) → HasEachNameOnce graph
    → IsWalk graph starts done [] left → AreReached graph starts done
walk_done graph starts done left once w =
    let p : IsPermutation graph (done ++ left) = subst (λ xs. IsPermutation graph (xs ++ left)) (append-nil done) w.same in
    record {
      once = once_left done left (once_same graph (done ++ left) p once);
      exact = λ n. (
        λ h. w.sound n (in_left done [] n h),
        λ r.
            let start : NameParts = r.0 in
            let there : (has_object done start || has_object left start) ≡ true =
            sym (has_object-append done left start) ∙ (sym (has_object-same graph (done ++ left) p start) ∙ path_first graph start r.2.0 n r.2.1) in
            follows graph done left once p w.closed start r.2.0 n (or_not_right (has_object done start) (has_object left start) there (w.begun start r.1)) r.2.1,
      );
    }

-- each step leaves fewer objects to be followed or left over
pub fewer : (todo left todo' left' whole : List ObjectParts) (o : ObjectParts) → whole ≡ todo ++ o ∷ [] → IsPermutation (todo ++ left) (todo' ++ left')
    → length todo' + length left' < length whole + length left
fewer todo left todo' left' whole o is p =
    omega (arith, length_permutation (todo ++ left) (todo' ++ left') p, length-append todo left, length-append todo' left', length-append todo (o ∷ []), ap length is)

-- ---- the names, in order

has_name-map : (objects : List ObjectParts) (n : NameParts) → has_name (map (λ (o : ObjectParts). o.name) objects) n ≡ has_object objects n
has_name-map [] n = refl
has_name-map (o ∷ os) n = ap (λ b. name_eq o.name n || b) (has_name-map os n)

pub has_name-sorted : (objects : List ObjectParts) (names : List NameParts) → IsPermutation (map (λ (o : ObjectParts). o.name) objects) names
    → (n : NameParts) → has_name names n ≡ has_object objects n
has_name-sorted objects names p n =
    sym (list_any-IsPermutation (λ k. name_eq k n) (map (λ (o : ObjectParts). o.name) objects) names p) ∙ has_name-map objects n

others : (o : ObjectParts) (os : List ObjectParts) → AllByRecursion (λ q. has_same_name o q ≡ false) os
    → AllByRecursion (λ n. name_eq o.name n ≡ false) (map (λ (q : ObjectParts). q.name) os)
others o [] h = tt
others o (q ∷ qs) h = (h.0, others o qs h.1)

distinct_names : (objects : List ObjectParts) → HasEachNameOnce objects → IsDistinct name_eq (map (λ (o : ObjectParts). o.name) objects)
unfolding IsDistinct
distinct_names [] h = tt
distinct_names (o ∷ os) h = (others o os h.0, distinct_names os h.1)

number_apart : (a b : NameParts) → IsName a → IsName b → number_of a ≡ number_of b → a ≡ b
number_apart a b p q e =
    let page : a.page ≡ b.page = omega arith in
    let slot : a.slot ≡ b.slot = omega arith in
    let generation : a.generation ≡ b.generation = omega arith in
    ap (λ n. name_of n a.slot a.generation) page ∙ (ap (λ n. name_of b.page n a.generation) slot ∙ ap (λ n. name_of b.page b.slot n) generation)

other_number : (a b : NameParts) → IsName a → IsName b → name_eq a b ≡ false → eqb (number_of a) (number_of b) ≡ false
other_number a b p q h = ne_eqb (number_of a) (number_of b) (λ e.
    let same : a ≡ b = number_apart a b p q e in
    let yes : name_eq a b ≡ true = subst (λ k. name_eq a k ≡ true) same (name_eq_refl a) in
    cc)

other_numbers : (a : NameParts) (ns : List NameParts) → IsName a → AllByRecursion IsName ns → AllByRecursion (λ n. name_eq a n ≡ false) ns
    → AllByRecursion (λ k. eqb (number_of a) k ≡ false) (map number_of ns)
other_numbers a [] is each h = tt
other_numbers a (n ∷ ns) is each h = (other_number a n is each.0 h.0, other_numbers a ns is each.1 h.1)

distinct_numbers : (names : List NameParts) → AllByRecursion IsName names → IsDistinct name_eq names → IsDistinct eqb (map number_of names)
unfolding IsDistinct
distinct_numbers [] each h = tt
distinct_numbers (n ∷ ns) each h = (other_numbers n ns each.0 each.1 h.0, distinct_numbers ns each.1 h.1)

numbers_ascend : (names : List NameParts) → IsNonDecreasingBy number_of names → IsNonDecreasing (map number_of names)
numbers_ascend names h = λ i j d ij lt.
    let long = length-map names number_of in
    let li : i < length names = omega arith in
    let lj : j < length names = omega arith in
    omega (arith, get_or-map number_of names i root_name d li, get_or-map number_of names j root_name d lj, h i j root_name ij lj)

pub ascend : (objects : List ObjectParts) (before names : List NameParts) → HasEachNameOnce objects → before ≡ map (λ (o : ObjectParts). o.name) objects
    → All IsName before → IsPermutation before names → IsNonDecreasingBy number_of names → IsStrictlyIncreasing (map number_of names)
ascend objects before names once is each p sorted =
    let distinct : IsDistinct name_eq names =
    IsDistinct-IsPermutation name_eq name_eq_flips before names p (subst (λ xs. IsDistinct name_eq xs) (sym is) (distinct_names objects once)) in
    let all : AllByRecursion IsName names = recursion_from_All IsName names (All-permutation IsName before names p each) in
    IsStrictlyIncreasing-from_distinct (map number_of names) (numbers_ascend names sorted) (distinct_numbers names all distinct)
