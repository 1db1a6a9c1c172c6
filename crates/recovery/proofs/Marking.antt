-- Marking places, and following what was marked, with the least place of a reference that dangles.
use Rattle.std.proofs.Common.{◌≡◌, ◌≢◌, ◌⊎◌, ℕ, zero, suc, ◌+◌, ◌<◌, ◌≤◌, ◌==◌, ◌||◌, Bool, true, false, cond, not, List, [], ◌∷◌, ◌++◌, length, get_or, set, take, drop, replicate, Option, Some, None, refl, sym, ◌∙◌, ap, subst, arith, inl, inr, length-append}
use Rattle.std.specs.Prelude.{slice_get}
use Rattle.std.specs.List.{list_any, filter}
use Rattle.std.proofs.lemmas.Bool.{cases_eq, or_cases, or_right, eq-eqb, eqb-true, ne_eqb, not-true}
use Rattle.std.proofs.lemmas.List.{get_or-set_same, get_or-set_other, length-set, get_or_read, take_at, length-replicate}
use Rattle.std.proofs.lemmas.Option.{slice_get-get_or, slice_get_within}
use Rattle.std.proofs.lemmas.List.Sums.{sum_by-set}
use Rattle.std.proofs.lemmas.List.Folds.{list_any_more}
use Rattle.std.proofs.lemmas.List.Elements.{filter-append}
use Rattle.object_graph.specs.declared.limits.TheConstants.{MOST_SLOTS}
use Rattle.object_graph.specs.NameParts.{NameParts}
use Rattle.object_graph.specs.Names.{root_name, name_eq}
use Rattle.object_graph.specs.SlotParts.{SlotParts}
use Rattle.object_graph.specs.Slots.{has_slot, below}
use Rattle.object_graph.specs.Graphs.{IsPath, has_name, is_to, refers}
use Rattle.object_graph.proofs.Members.{In, in_append, append_left, append_right, or_left}
use Rattle.object_graph.proofs.Paths.{name_eq_same, name_eq_refl, path_first, reached_more}
use Rattle.store_model.specs.FromImages.{slot_in, objects_in_use, is_name_in_use}
use Rattle.store_model.proofs.Committed.{path_last}
use Rattle.store_model.proofs.Given.{used_named, named_used}
use Rattle.image_model.specs.Stores.{DanglesAt, reference_place}
use Rattle.recovery.specs.Marks.{is_marked, IsReachedIn, slots_left, work_left, IsMarkedMore, is_dangling, IsUpTo, DanglesFrom, IsNotedAt, AreNoted, IsLeastDangling}
use Rattle.recovery.proofs.UsedNames.{same_used, used_within, slot_refers, refers_slot}

-- ---- the count of unmarked slots

count_same : (p q : ℕ → Bool) (n : ℕ) → ((s : ℕ) → s < n → p s ≡ q s) → length (filter p (below n)) ≡ length (filter q (below n))
count_same p q zero h = refl
count_same p q (suc n) h =
    let rest : length (filter p (below n)) ≡ length (filter q (below n)) = count_same p q n (λ s lt. h s (omega (arith, lt))) in
    let last : length (filter p (n ∷ [])) ≡ length (filter q (n ∷ [])) = one (p n) (q n) (h n (omega arith)) in
    ap length (filter-append p (below n) (n ∷ [])) ∙ omega (arith, rest, last, length-append (filter p (below n)) (filter p (n ∷ [])), length-append (filter q (below n)) (filter q (n ∷ []))) ∙ sym (ap length (filter-append q (below n) (n ∷ [])))
  where
    one : (a b : Bool) → a ≡ b → length (cond a (n ∷ []) []) ≡ length (cond b (n ∷ []) [])
    one a b e = ap (λ (x : Bool). length (cond x (n ∷ []) [])) e

count_less : (p q : ℕ → Bool) (n k : ℕ) → k < n → p k ≡ true → q k ≡ false → ((s : ℕ) → s ≢ k → p s ≡ q s) → length (filter p (below n)) ≡ length (filter q (below n)) + 1
count_less p q zero k lt pk qk h = absurd (omega arith)
count_less p q (suc n) k lt pk qk h = elim (cases_eq k n) [
  | inl e ↦
      let rest : length (filter p (below n)) ≡ length (filter q (below n)) = count_same p q n (λ s low. h s (λ same. let z : ⊥ = omega (arith, low, same, e) in z)) in
      let pn : p n ≡ true = ap p (sym e) ∙ pk in
      let qn : q n ≡ false = ap q (sym e) ∙ qk in
      joined (omega (arith, rest, yes (p n) pn, no (q n) qn))
  | inr off ↦
      let rest : length (filter p (below n)) ≡ length (filter q (below n)) + 1 = count_less p q n k (omega (arith, lt, off)) pk qk h in
      let last : length (filter p (n ∷ [])) ≡ length (filter q (n ∷ [])) = ap (λ (x : Bool). length (cond x (n ∷ []) [])) (h n (λ same. off (sym same))) in
      joined (omega (arith, rest, last))
]
  where
    yes : (b : Bool) → b ≡ true → length (cond b (n ∷ []) []) ≡ 1
    yes b e = ap (λ (x : Bool). length (cond x (n ∷ []) [])) e

    no : (b : Bool) → b ≡ false → length (cond b (n ∷ []) []) ≡ 0
    no b e = ap (λ (x : Bool). length (cond x (n ∷ []) [])) e

    joined : length (filter p (below n)) + length (filter p (n ∷ [])) ≡ length (filter q (below n)) + length (filter q (n ∷ [])) + 1 → length (filter p (below n ++ n ∷ [])) ≡ length (filter q (below n ++ n ∷ [])) + 1
    joined e =
        ap length (filter-append p (below n) (n ∷ [])) ∙ length-append (filter p (below n)) (filter p (n ∷ [])) ∙ e
        ∙ sym (ap (λ (m : ℕ). m + 1) (ap length (filter-append q (below n) (n ∷ [])) ∙ length-append (filter q (below n)) (filter q (n ∷ []))))

one_less : (old new slot : ℕ) → slot < MOST_SLOTS → has_slot old slot ≡ false → ((s : ℕ) → has_slot new s ≡ (has_slot old s || s == slot)) → slots_left old ≡ slots_left new + 1
unfolding slots_left
one_less old new slot lt free is =
    count_less (λ s. not (has_slot old s)) (λ s. not (has_slot new s)) MOST_SLOTS slot lt (ap not free)
    (ap not (is slot ∙ or_right (has_slot old slot) (slot == slot) (eq-eqb slot slot refl)))
    (λ s off. ap not (sym (is s ∙ other (has_slot old s) (s == slot) (ne_eqb s slot off))))
  where
    other : (a b : Bool) → b ≡ false → (a || b) ≡ a
    other true b e = refl
    other false b e = e

-- ---- one name

-- it isn't in use, or is marked
pub marked_none : (images : List (List SlotParts)) (name : NameParts) (todo : List NameParts) (marks : List ℕ) → (is_name_in_use images name ≡ true → is_marked marks name ≡ true) → IsMarkedMore images (name_eq name) todo marks todo marks
marked_none images name todo marks h = record {
  long = refl;
  less = omega arith;
  kept = λ n m. m;
  still = λ n i. i;
  done = λ n used wanted. let same : name ≡ n = name_eq_same name n wanted in subst (λ (k : NameParts). is_marked marks k ≡ true) same (h (subst (λ (k : NameParts). is_name_in_use images k ≡ true) (sym same) used));
  new = λ n used m. inl m;
  only = λ n i. inl i;
}

module _ (images : List (List SlotParts)) (name : NameParts) (todo : List NameParts) (marks : List ℕ) (v : ℕ) (used : is_name_in_use images name ≡ true) (within : name.page < length marks) (low : name.slot < MOST_SLOTS)
    (is : (s : ℕ) → has_slot v s ≡ (has_slot (get_or marks name.page 0) s || s == name.slot)) (free : has_slot (get_or marks name.page 0) name.slot ≡ false) where
  later : List ℕ
  later = set marks name.page v

  at_page : get_or later name.page 0 ≡ v
  unfolding later
  at_page = get_or-set_same marks name.page v 0 within

  elsewhere : (page : ℕ) → page ≢ name.page → get_or later page 0 ≡ get_or marks page 0
  unfolding later
  elsewhere page off = get_or-set_other marks name.page page v 0 off

  at_name : (n : NameParts) → n.page ≡ name.page → is_marked later n ≡ has_slot v n.slot
  at_name n same = ap (λ (p : ℕ). has_slot (get_or later p 0) n.slot) same ∙ ap (λ (k : ℕ). has_slot k n.slot) at_page

  was_name : (n : NameParts) → n.page ≡ name.page → is_marked marks n ≡ has_slot (get_or marks name.page 0) n.slot
  was_name n same = ap (λ (p : ℕ). has_slot (get_or marks p 0) n.slot) same

  now_marked : is_marked later name ≡ true
  now_marked = at_name name refl ∙ is name.slot ∙ or_right (has_slot (get_or marks name.page 0) name.slot) (name.slot == name.slot) (eq-eqb name.slot name.slot refl)

  new_of : (n : NameParts) → is_name_in_use images n ≡ true → is_marked later n ≡ true → (is_marked marks n ≡ true) ⊎ (n ≡ name)
  new_of n used_n m = elim (cases_eq n.page name.page) [
    | inl same ↦ elim (or_cases (has_slot (get_or marks name.page 0) n.slot) (n.slot == name.slot) (sym (is n.slot) ∙ sym (at_name n same) ∙ m)) [
      | inl old ↦ inl (was_name n same ∙ old)
      | inr slot ↦ inr (same_used images n name used_n used same (eqb-true n.slot name.slot slot))
    ]
    | inr off ↦ inl (ap (λ (k : ℕ). has_slot k n.slot) (sym (elsewhere n.page off)) ∙ m)
  ]

  kept_of : (n : NameParts) → is_marked marks n ≡ true → is_marked later n ≡ true
  kept_of n m = elim (cases_eq n.page name.page) [
    | inl same ↦ at_name n same ∙ is n.slot ∙ or_left (has_slot (get_or marks name.page 0) n.slot) (n.slot == name.slot) (sym (was_name n same) ∙ m)
    | inr off ↦ ap (λ (k : ℕ). has_slot k n.slot) (elsewhere n.page off) ∙ m
  ]

  fewer : work_left (todo ++ name ∷ []) later ≤ work_left todo marks
  unfolding later
  fewer =
      omega (arith, length-append todo (name ∷ []), sum_by-set slots_left marks name.page v 0 within, one_less (get_or marks name.page 0) v name.slot low free is)

  -- it is marked, and is to be followed
  pub marked_new : IsMarkedMore images (name_eq name) todo marks (todo ++ name ∷ []) (set marks name.page v)
  unfolding later
  marked_new = record {
    long = length-set marks name.page v;
    less = fewer;
    kept = kept_of;
    still = λ n i. append_left todo (name ∷ []) n i;
    done = λ n used_n wanted. subst (λ (k : NameParts). is_marked later k ≡ true) (name_eq_same name n wanted) now_marked;
    new = λ n used_n m. elim (new_of n used_n m) [ inl old ↦ inl old | inr same ↦ inr (append_right todo (name ∷ []) n (inl same)) ];
    only = λ n i. elim (in_append todo (name ∷ []) n i) [
      | inl before ↦ inl before
      | inr last ↦ elim last [
        | inl same ↦ inr (subst (λ (k : NameParts). (name_eq name k ≡ true) × (is_name_in_use images k ≡ true) × (is_marked later k ≡ true)) (sym same) (name_eq_refl name, used, now_marked))
        | inr never ↦ absurd never
      ]
    ];
  }

-- the same, from what the code has read
pub marked_at : (images : List (List SlotParts)) (name copy : NameParts) (todo todo' : List NameParts) (marks : List ℕ) (page slot slot_again old old_again v pages : ℕ) (test : Bool) → page ≡ name.page → slot ≡ name.slot → slot_again ≡ name.slot → slot < MOST_SLOTS
    → is_name_in_use images name ≡ true → length images ≡ pages → length marks ≡ pages → old ≡ get_or marks page old → old_again ≡ get_or marks page old_again → test ≡ has_slot old slot → test ≡ false
    → ((s : ℕ) → has_slot v s ≡ (has_slot old_again s || s == slot_again)) → todo' ≡ todo ++ copy ∷ [] → copy ≡ name → IsMarkedMore images (name_eq name) todo marks todo' (set marks page v)
marked_at images name copy todo todo' marks page slot slot_again old old_again v pages test page_is slot_is again_is low used count long reads reads_again tested free is pushed copied =
    let inside : name.page < length marks = omega (arith, used_within images name used, count, long) in
    let within : page < length marks = omega (arith, inside, page_is) in
    let there : old ≡ get_or marks name.page 0 = get_or_read marks page old within reads 0 ∙ ap (λ (p : ℕ). get_or marks p 0) page_is in
    let there_again : old_again ≡ get_or marks name.page 0 = get_or_read marks page old_again within reads_again 0 ∙ ap (λ (p : ℕ). get_or marks p 0) page_is in
    let unmarked : has_slot (get_or marks name.page 0) name.slot ≡ false = sym (ap (λ (x : ℕ). has_slot x slot) there ∙ ap (has_slot (get_or marks name.page 0)) slot_is) ∙ sym tested ∙ free in
    let with_it : (s : ℕ) → has_slot v s ≡ (has_slot (get_or marks name.page 0) s || s == name.slot) = λ s. is s ∙ ap (λ (x : ℕ). has_slot x s || s == slot_again) there_again ∙ ap (λ (k : ℕ). has_slot (get_or marks name.page 0) s || s == k) again_is in
    let done = marked_new images name todo marks v used inside (omega (arith, low, slot_is)) with_it unmarked in
    subst (λ (l : List NameParts). IsMarkedMore images (name_eq name) todo marks l (set marks page v)) (sym (pushed ∙ ap (λ (n : NameParts). todo ++ n ∷ []) copied))
    (subst (λ (p : ℕ). IsMarkedMore images (name_eq name) todo marks (todo ++ name ∷ []) (set marks p v)) (sym page_is) done)

-- ---- several names

pub marked_both : (images : List (List SlotParts)) (a b both : NameParts → Bool) (t0 : List NameParts) (m0 : List ℕ) (t1 : List NameParts) (m1 : List ℕ) (t2 : List NameParts) (m2 : List ℕ) → ((n : NameParts) → both n ≡ (a n || b n))
    → IsMarkedMore images a t0 m0 t1 m1 → IsMarkedMore images b t1 m1 t2 m2 → IsMarkedMore images both t0 m0 t2 m2
marked_both images a b both t0 m0 t1 m1 t2 m2 is p q = record {
  long = q.long ∙ p.long;
  less = omega (arith, p.less, q.less);
  kept = λ n m. q.kept n (p.kept n m);
  still = λ n i. q.still n (p.still n i);
  done = λ n used w. elim (or_cases (a n) (b n) (sym (is n) ∙ w)) [
    | inl x ↦ q.kept n (p.done n used x)
    | inr y ↦ q.done n used y
  ];
  new = λ n used m. elim (q.new n used m) [
    | inl before ↦ elim (p.new n used before) [ inl first ↦ inl first | inr i ↦ inr (q.still n i) ]
    | inr i ↦ inr i
  ];
  only = λ n i. elim (q.only n i) [
    | inl j ↦ elim (p.only n j) [ inl k ↦ inl k | inr w ↦ inr (is n ∙ or_left (a n) (b n) w.0, w.1, q.kept n w.2) ]
    | inr w ↦ inr (is n ∙ or_right (a n) (b n) w.0, w.1, w.2)
  ];
}

pub marked_more : {X : Type 0} (images : List (List SlotParts)) (wants : X → NameParts → Bool) (xs : List X) (i : ℕ) (x : X) (t0 : List NameParts) (m0 : List ℕ) (t1 : List NameParts) (m1 : List ℕ) (t2 : List NameParts) (m2 : List ℕ) → i < length xs → x ≡ get_or xs i x
    → IsMarkedMore images (λ n. list_any (λ y. wants y n) (take i xs)) t0 m0 t1 m1 → IsMarkedMore images (wants x) t1 m1 t2 m2
    → IsMarkedMore images (λ n. list_any (λ y. wants y n) (take (i + 1) xs)) t0 m0 t2 m2
marked_more images wants xs i x t0 m0 t1 m1 t2 m2 lt is p q =
    marked_both images (λ n. list_any (λ y. wants y n) (take i xs)) (wants x) (λ n. list_any (λ y. wants y n) (take (i + 1) xs)) t0 m0 t1 m1 t2 m2
    (λ n. list_any_more (λ y. wants y n) xs i x lt ∙ ap (λ y. list_any (λ z. wants z n) (take i xs) || wants y n) (sym is)) p q

-- ---- noting places

-- a reference that doesn't dangle changes nothing
pub noted_none : (images : List (List SlotParts)) (target : Option NameParts) (place : ℕ) (least : Option ℕ) → is_dangling images target ≡ false → IsNotedAt images target place least least
noted_none images target place least not = record {
  kept = λ at h. h;
  noted = λ dangling. let wrong : true ≡ false = sym dangling ∙ not in absurd (cc wrong);
  only = λ at e. inl e;
}

pub noted_at : (images : List (List SlotParts)) (target : Option NameParts) (place : ℕ) (least least' : Option ℕ) → is_dangling images target ≡ true
    → ((at : ℕ) → IsUpTo least at → IsUpTo least' at) → IsUpTo least' place → ((at : ℕ) → least' ≡ Some at → (least ≡ Some at) ⊎ (at ≡ place)) → IsNotedAt images target place least least'
noted_at images target place least least' dangling kept noted only = record {
  kept = kept;
  noted = λ d. noted;
  only = λ at e. elim (only at e) [ inl before ↦ inl before | inr is ↦ inr (dangling, is) ];
}

pub noted_first : (images : List (List SlotParts)) (name : NameParts) (refs : List (Option NameParts)) (least : Option ℕ) → AreNoted images name refs 0 least least
noted_first images name refs least = record {
  kept = λ at h. h;
  noted = λ field target lt there dangling. absurd (omega (arith, lt));
  only = λ at e. inl e;
}

pub noted_more : (images : List (List SlotParts)) (name : NameParts) (refs : List (Option NameParts)) (i : ℕ) (target : Option NameParts) (place : ℕ) (l0 l1 l2 : Option ℕ) → i < length refs → target ≡ get_or refs i target → place ≡ reference_place name i
    → AreNoted images name refs i l0 l1 → IsNotedAt images target place l1 l2 → AreNoted images name refs (i + 1) l0 l2
noted_more images name refs i target place l0 l1 l2 lt is place_is p q = record {
  kept = λ at h. q.kept at (p.kept at h);
  noted = λ field other low there dangling. elim (cases_eq field i) [
    | inl same ↦
        let here : slice_get refs i ≡ Some target = slice_get-get_or refs i target lt ∙ ap (λ (t : Option NameParts). let o : Option (Option NameParts) = Some t in o) (sym is) in
        let there_too : slice_get refs i ≡ Some other = ap (slice_get refs) (sym same) ∙ there in
        let one : other ≡ target = cc in
        subst (λ (at : ℕ). IsUpTo l2 at) (place_is ∙ ap (reference_place name) (sym same)) (q.noted (ap (is_dangling images) (sym one) ∙ dangling))
    | inr off ↦ q.kept (reference_place name field) (p.noted field other (omega (arith, low, off)) there dangling)
  ];
  only = λ at e. elim (q.only at e) [
    | inl before ↦ p.only at before
    | inr now ↦ inr (record { field = i; target = target; there = slice_get-get_or refs i target lt ∙ ap (λ (t : Option NameParts). let o : Option (Option NameParts) = Some t in o) (sym is); dangling = now.0; place = now.1 ∙ place_is })
  ];
}

-- ---- the walk

-- the least place so far is at most that of each reference of the object of this name that dangles
pub record IsLookedAt (images : List (List SlotParts)) (name : NameParts) (least : Option ℕ) : Type 0 where
  pub noted : (field : ℕ) (target : Option NameParts) → slice_get (slot_in images name.page name.slot).refs field ≡ Some target → is_dangling images target ≡ true → IsUpTo least (reference_place name field)

pub record IsMarkWalk (images : List (List SlotParts)) (todo : List NameParts) (marks : List ℕ) (least : Option ℕ) : Type 0 where
  pub long : length marks ≡ length images
  pub reached : (n : NameParts) → is_name_in_use images n ≡ true → is_marked marks n ≡ true → IsReachedIn images n
  pub used : (n : NameParts) → In n todo → (is_name_in_use images n ≡ true) × (is_marked marks n ≡ true)
  pub closed : (n : NameParts) → is_name_in_use images n ≡ true → is_marked marks n ≡ true → In n todo ⊎ ((m : NameParts) → refers (objects_in_use images) n m ≡ true → is_name_in_use images m ≡ true → is_marked marks m ≡ true)
  pub looked : (n : NameParts) → is_name_in_use images n ≡ true → is_marked marks n ≡ true → In n todo ⊎ IsLookedAt images n least
  pub root : is_marked marks root_name ≡ true
  pub dangles : (at : ℕ) → least ≡ Some at → DanglesAt images at

target_of : (images : List (List SlotParts)) (ref : Option NameParts) → is_dangling images ref ≡ true → (target : NameParts) × (ref ≡ Some target) × (is_name_in_use images target ≡ false)
target_of images None e = absurd (cc e)
target_of images (Some target) e = (target, refl, not-true (is_name_in_use images target) e)

-- a reference of an object that is reached dangles
found_dangling : (images : List (List SlotParts)) (name : NameParts) (at : ℕ) → IsReachedIn images name → DanglesFrom images name (slot_in images name.page name.slot).refs at → DanglesAt images at
found_dangling images name at reached d =
    let target = target_of images d.target d.dangling in
    record {
      from = name;
      field = d.field;
      target = target.0;
      reached = reached;
      refers = d.there ∙ ap (λ (r : Option NameParts). let o : Option (Option NameParts) = Some r in o) target.1;
      missing = target.2;
      place = d.place;
    }

-- one name is followed
pub followed : (images : List (List SlotParts)) (whole todo : List NameParts) (marks : List ℕ) (name : NameParts) (todo' : List NameParts) (marks' : List ℕ) (least least' : Option ℕ) → whole ≡ todo ++ name ∷ [] → IsMarkWalk images whole marks least
    → IsMarkedMore images (λ n. list_any (is_to n) (slot_in images name.page name.slot).refs) todo marks todo' marks'
    → AreNoted images name (slot_in images name.page name.slot).refs (length (slot_in images name.page name.slot).refs) least least' → IsMarkWalk images todo' marks' least'
followed images whole todo marks name todo' marks' least least' popped w t a = record {
  long = t.long ∙ w.long;
  reached = λ n used m. elim (t.new n used m) [
    | inl before ↦ w.reached n used before
    | inr i ↦ elim (t.only n i) [
      | inl j ↦ w.reached n used (w.used n (there n j)).1
      | inr wanted ↦ reached_more (objects_in_use images) (root_name ∷ []) name n (w.reached name name_used.0 name_used.1) (slot_refers images name n name_used.0 wanted.0) (named_used images n used)
    ]
  ];
  used = λ n i. elim (t.only n i) [
    | inl j ↦ let b = w.used n (there n j) in (b.0, t.kept n b.1)
    | inr wanted ↦ (wanted.1, wanted.2)
  ];
  closed = λ n used m. elim (t.new n used m) [
    | inr i ↦ inl i
    | inl before ↦ elim (w.closed n used before) [
      | inr targets ↦ inr (λ k r used_k. t.kept k (targets k r used_k))
      | inl i ↦ elim (was_among n i) [
        | inl j ↦ inl (t.still n j)
        | inr same ↦ inr (λ k r used_k. t.done k used_k (refers_slot images name k (subst (λ (x : NameParts). refers (objects_in_use images) x k ≡ true) same r)))
      ]
    ]
  ];
  looked = λ n used m. elim (t.new n used m) [
    | inr i ↦ inl i
    | inl before ↦ elim (w.looked n used before) [
      | inr done ↦ inr (record { noted = λ field target at dangling. a.kept (reference_place n field) (done.noted field target at dangling) })
      | inl i ↦ elim (was_among n i) [
        | inl j ↦ inl (t.still n j)
        | inr same ↦ inr (subst (λ (x : NameParts). IsLookedAt images x least') (sym same) now_looked)
      ]
    ]
  ];
  root = t.kept root_name w.root;
  dangles = λ at e. elim (a.only at e) [
    | inl before ↦ w.dangles at before
    | inr from ↦ found_dangling images name at (w.reached name name_used.0 name_used.1) from
  ];
}
  where
    there : (n : NameParts) → In n todo → In n whole
    there n i = subst (λ (l : List NameParts). In n l) (sym popped) (append_left todo (name ∷ []) n i)

    was_among : (n : NameParts) → In n whole → In n todo ⊎ (n ≡ name)
    was_among n i = elim (in_append todo (name ∷ []) n (subst (λ (l : List NameParts). In n l) popped i)) [
      | inl j ↦ inl j
      | inr last ↦ elim last [ inl same ↦ inr same | inr never ↦ absurd never ]
    ]

    now_looked : IsLookedAt images name least'
    now_looked = record {
      noted = λ field target at dangling. a.noted field target (slice_get_within (slot_in images name.page name.slot).refs field target at) at dangling;
    }

    name_used : (is_name_in_use images name ≡ true) × (is_marked marks name ≡ true)
    name_used = w.used name (subst (λ (l : List NameParts). In name l) (sym popped) (append_right todo (name ∷ []) name (inl refl)))

-- all names on a path from a marked one are marked
marked_path : (images : List (List SlotParts)) (marks : List ℕ) → ((n : NameParts) → is_name_in_use images n ≡ true → is_marked marks n ≡ true → (m : NameParts) → refers (objects_in_use images) n m ≡ true → is_name_in_use images m ≡ true → is_marked marks m ≡ true)
    → (first : NameParts) (rest : List NameParts) (last : NameParts) → is_marked marks first ≡ true → IsPath (objects_in_use images) first rest last → is_marked marks last ≡ true
marked_path images marks closed first [] last m p = subst (λ (n : NameParts). is_marked marks n ≡ true) p.0 m
marked_path images marks closed first (n ∷ ns) last m p =
    marked_path images marks closed n ns last
    (closed first (used_named images first p.1) m n p.0 (used_named images n (path_first (objects_in_use images) n ns last p.2))) p.2

pub walked : (images : List (List SlotParts)) (todo : List NameParts) (marks : List ℕ) (least : Option ℕ) → todo ≡ [] → IsMarkWalk images todo marks least → IsLeastDangling images least
walked images todo marks least none w = record {
  dangles = w.dangles;
  first = λ at d.
      let used : is_name_in_use images d.from ≡ true = used_named images d.from (path_last (objects_in_use images) d.reached.0 d.reached.2.0 d.from d.reached.2.1) in
      let start : root_name ≡ d.reached.0 = root_is d.reached.0 d.reached.1 in
      let marked : is_marked marks d.from ≡ true = marked_path images marks closed d.reached.0 d.reached.2.0 d.from (subst (λ (n : NameParts). is_marked marks n ≡ true) start w.root) d.reached.2.1 in
      subst (λ (place : ℕ). IsUpTo least place) (sym d.place) ((looked d.from used marked).noted d.field (Some d.target) d.refers (ap not d.missing));
}
  where
    root_is : (start : NameParts) → has_name (root_name ∷ []) start ≡ true → root_name ≡ start
    root_is start h = elim (or_cases (name_eq root_name start) false h) [ inl e ↦ name_eq_same root_name start e | inr never ↦ absurd (cc never) ]

    closed : (n : NameParts) → is_name_in_use images n ≡ true → is_marked marks n ≡ true → (m : NameParts) → refers (objects_in_use images) n m ≡ true → is_name_in_use images m ≡ true → is_marked marks m ≡ true
    closed n used m k r used_k = elim (w.closed n used m) [
      | inl i ↦ absurd (subst (λ (l : List NameParts). In n l) none i)
      | inr targets ↦ targets k r used_k
    ]

    looked : (n : NameParts) → is_name_in_use images n ≡ true → is_marked marks n ≡ true → IsLookedAt images n least
    looked n used m = elim (w.looked n used m) [
      | inl i ↦ absurd (subst (λ (l : List NameParts). In n l) none i)
      | inr done ↦ done
    ]

-- ---- as the walk begins

pub none_marked : (images : List (List SlotParts)) (marks : List ℕ) → ((n : NameParts) → is_marked marks n ≡ false) → length marks ≡ length images → (todo' : List NameParts) (marks' : List ℕ) → is_name_in_use images root_name ≡ true
    → IsMarkedMore images (name_eq root_name) [] marks todo' marks' → IsMarkWalk images todo' marks' None
none_marked images marks none long todo' marks' root t = record {
  long = t.long ∙ long;
  reached = λ n used m. elim (t.new n used m) [
    | inl before ↦ let wrong : is_marked marks n ≡ false = none n in absurd (cc (before, wrong))
    | inr i ↦ elim (t.only n i) [
      | inl never ↦ absurd never
      | inr wanted ↦ subst (IsReachedIn images) (name_eq_same root_name n wanted.0) (root_name, refl, ([], (refl, named_used images root_name root)))
    ]
  ];
  used = λ n i. elim (t.only n i) [ inl never ↦ absurd never | inr wanted ↦ (wanted.1, wanted.2) ];
  closed = λ n used m. elim (t.new n used m) [
    | inl before ↦ let wrong : is_marked marks n ≡ false = none n in absurd (cc (before, wrong))
    | inr i ↦ inl i
  ];
  looked = λ n used m. elim (t.new n used m) [
    | inl before ↦ let wrong : is_marked marks n ≡ false = none n in absurd (cc (before, wrong))
    | inr i ↦ inl i
  ];
  root = t.done root_name root (name_eq_refl root_name);
  dangles = λ at e. absurd (cc e);
}

-- no place is marked in empty sets
pub none_in : (empty n page slot : ℕ) → empty ≡ 0 → ((s : ℕ) → has_slot empty s ≡ false) → has_slot (get_or (replicate n empty) page 0) slot ≡ false
none_in empty zero page slot is none = ap (λ (x : ℕ). has_slot x slot) (sym is) ∙ none slot
none_in empty (suc n) zero slot is none = none slot
none_in empty (suc n) (suc page) slot is none = none_in empty n page slot is none

-- ---- as a slice of a vector was lent

pub lent_back : (items now : List ℕ) (len : ℕ) → length now ≡ length items → len ≡ length items → take len (now ++ drop (length now) items) ≡ now
lent_back items now len same is = take_at now (drop (length now) items) len (same ∙ sym is)

pub begins : (images : List (List SlotParts)) (name : NameParts) (none : List NameParts) (items lent now : List ℕ) (len empty n : ℕ) (todo : List NameParts) → items ≡ replicate n empty → empty ≡ 0 → ((s : ℕ) → has_slot empty s ≡ false) → length images ≡ n
    → lent ≡ items → len ≡ length items → none ≡ [] → name ≡ root_name → is_name_in_use images root_name ≡ true → IsMarkedMore images (name_eq name) none lent todo now → IsMarkWalk images todo (take len (now ++ drop (length now) items)) None
begins images name none items lent now len empty n todo made zero_is free count same long is_none is_root root t =
    let from_items : IsMarkedMore images (name_eq name) none items todo now = subst (λ (l : List ℕ). IsMarkedMore images (name_eq name) none l todo now) same t in
    let from_none : IsMarkedMore images (name_eq name) [] items todo now = subst (λ (l : List NameParts). IsMarkedMore images (name_eq name) l items todo now) is_none from_items in
    let from_root : IsMarkedMore images (name_eq root_name) [] items todo now = subst (λ (r : NameParts). IsMarkedMore images (name_eq r) [] items todo now) is_root from_none in
    let walk = none_marked images items (λ k. ap (λ (l : List ℕ). has_slot (get_or l k.page 0) k.slot) made ∙ none_in empty n k.page k.slot zero_is free)
    (ap length made ∙ length-replicate n empty ∙ sym count) todo now root from_root in
    subst (λ (l : List ℕ). IsMarkWalk images todo l None) (sym (lent_back items now len from_items.long long)) walk

pub follows : (images : List (List SlotParts)) (whole popped : List NameParts) (name : NameParts) (items lent now : List ℕ) (len : ℕ) (todo : List NameParts) (least least' : Option ℕ) → whole ≡ popped ++ name ∷ [] → lent ≡ items → len ≡ length items
    → IsMarkWalk images whole items least → IsMarkedMore images (λ n. list_any (is_to n) (slot_in images name.page name.slot).refs) popped lent todo now
    → AreNoted images name (slot_in images name.page name.slot).refs (length (slot_in images name.page name.slot).refs) least least' → IsMarkWalk images todo (take len (now ++ drop (length now) items)) least'
follows images whole popped name items lent now len todo least least' is same long w t a =
    let from_items : IsMarkedMore images (λ n. list_any (is_to n) (slot_in images name.page name.slot).refs) popped items todo now =
    subst (λ (l : List ℕ). IsMarkedMore images (λ n. list_any (is_to n) (slot_in images name.page name.slot).refs) popped l todo now) same t in
    subst (λ (l : List ℕ). IsMarkWalk images todo l least') (sym (lent_back items now len from_items.long long)) (followed images whole popped items name todo now least least' is w from_items a)
