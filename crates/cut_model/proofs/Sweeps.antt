-- What sweeps free, and what they leave.
use Rattle.std.proofs.Common.{◌≡◌, ℕ, ◌==◌, Bool, true, false, not, ◌&&◌, ◌||◌, cond, List, [], ◌∷◌, ◌++◌, map, length, refl, sym, subst, ap, ◌∙◌, inl, inr}
use Rattle.std.specs.List.{list_all, filter}
use Rattle.std.proofs.lemmas.Bool.{and_from, cases_Bool, eqb-true, eq-eqb, not-true}
use Rattle.object_graph.specs.declared.limits.TheConstants.{MOST_SLOTS}
use Rattle.object_graph.specs.NameParts.{NameParts}
use Rattle.object_graph.specs.Slots.{has_slot}
use Rattle.object_graph.specs.ObjectParts.{ObjectParts}
use Rattle.object_graph.specs.Graphs.{has_name, objects_at}
use Rattle.object_graph.specs.Slots.{below, slots_in}
use Rattle.store_model.specs.Worlds.{World, Opening, OpenedCut, is_freed, unfreed}
use Rattle.store_model.specs.Causes.{has_page}
use Rattle.store_model.specs.Replies.{names_in, IsGarbage, MayFree}
use Rattle.store_model.specs.Steps.{with_page, swept}
use Rattle.object_graph.proofs.Members.{In, append_left, append_right, in_append, in_filter, filter_in, in_map, map_in, each_from}
use Rattle.object_graph.proofs.Paths.{has_name_in, in_has_name, has_object_in}
use Rattle.store_model.specs.Lawful.{IsOrderly}
use Rattle.store_model.specs.Worlds.{is_unfreed}
use Rattle.store_model.specs.Images.{unfreed_at}
use Rattle.cut_model.specs.CutPages.{CutPage}
use Rattle.cut_model.specs.Doomed.{IsSafeToFree, KeepsDoomed, AreDoomedOn}
use Rattle.store_model.proofs.Places.{generation_of}
use Rattle.store_model.proofs.Shown.{AreApart, apart_below, one_each, in_unfreed_at}
use Rattle.store_model.proofs.Keeps.{in_names_in}
use Rattle.store_model.proofs.OutOfReach.{Follows, name_stays, out_stays}

-- ---- one unfreed object at a place

in_map_filter : (p : ObjectParts → Bool) (os : List ObjectParts) (n : ℕ) → In n (map generation_of (filter p os)) → In n (map generation_of os)
in_map_filter p os n m =
    let a = in_map generation_of (filter p os) n m in
    subst (λ k. In k (map generation_of os)) (sym a.2) (map_in generation_of os a.0 (in_filter p os a.0 a.1).0)

apart_filter : (p : ObjectParts → Bool) (os : List ObjectParts) → AreApart (map generation_of os) → AreApart (map generation_of (filter p os))
apart_filter p [] h = tt
apart_filter p (o ∷ os) h = by_test p o os h (apart_filter p os h.1) (p o)
  where
    by_test : (p : ObjectParts → Bool) (o : ObjectParts) (os : List ObjectParts) → AreApart (map generation_of (o ∷ os)) → AreApart (map generation_of (filter p os)) → (b : Bool)
        → AreApart (map generation_of (cond b (o ∷ filter p os) (filter p os)))
    by_test p o os h k true = (λ m. h.0 (in_map_filter p os o.name.generation m), k)
    by_test p o os h k false = k

just_one : (os : List ObjectParts) (o : ObjectParts) → In o os → AreApart (map generation_of os) → ((a b : ObjectParts) → In a os → In b os → a ≡ b) → length os ≡ 1
just_one [] o m apart same = absurd m
just_one (a ∷ []) o m apart same = refl
just_one (a ∷ b ∷ os) o m apart same =
    let e : a ≡ b = same a b (inl refl) (inr (inl refl)) in
    absurd (apart.0 (inl (ap generation_of e)))

pub one_unfreed : (w : World) (page slot : ℕ) (o : ObjectParts) → IsOrderly w → In o (unfreed_at w.graph w.freed page slot) → length (unfreed_at w.graph w.freed page slot) ≡ 1
one_unfreed w page slot o lawful m =
    just_one (unfreed_at w.graph w.freed page slot) o m
    (apart_filter (is_unfreed w.freed) (objects_at w.graph page slot)
    (subst AreApart (sym (lawful.counted page slot)) (apart_below (length (objects_at w.graph page slot)))))
    (λ a b. one_each w.graph w.freed lawful.counted lawful.last page slot a b)

-- ---- a sweep of the doomed slots is allowed

-- an unfreed name has its object
unfreed_object : (w : World) (opening : Opening) (name : NameParts) → IsSafeToFree w opening name → (o : ObjectParts) × In o (unfreed_at w.graph w.freed name.page name.slot) × (o.name ≡ name)
unfreed_object w opening name safe =
    let a = has_object_in w.graph name safe.there in
    let o : ObjectParts = a.0 in
    let u : is_unfreed w.freed o ≡ true = subst (λ n. not (has_name w.freed n) ≡ true) (sym a.2) safe.unfreed in
    (o, subst (λ (n : NameParts). In o (unfreed_at w.graph w.freed n.page n.slot)) a.2 (in_unfreed_at w.graph w.freed o a.1 u), a.2)

names_in_in : (w : World) (page slots : ℕ) (o : ObjectParts) → In o w.graph → is_unfreed w.freed o ≡ true → o.name.page ≡ page → has_slot slots o.name.slot ≡ true
    → In o.name (names_in w page slots)
names_in_in w page slots o m u p s =
    map_in (λ (o : ObjectParts). o.name) (filter (λ (o : ObjectParts). (o.name.page == page) && has_slot slots o.name.slot) (unfreed w)) o
    (filter_in (λ (o : ObjectParts). (o.name.page == page) && has_slot slots o.name.slot) (unfreed w) o
    (filter_in (is_unfreed w.freed) w.graph o m u) (and_from (o.name.page == page) (has_slot slots o.name.slot) (eq-eqb o.name.page page p) s))

list_all_from : {A : Type 0} (p : A → Bool) (xs : List A) → ((x : A) → In x xs → p x ≡ true) → list_all p xs ≡ true
list_all_from p [] h = refl
list_all_from p (x ∷ xs) h = and_from (p x) (list_all p xs) (h x (inl refl)) (list_all_from p xs (λ y m. h y (inr m)))

-- a sweep that frees the doomed slots of a page is allowed
pub doomed_may_be_freed : (w : World) (cut : OpenedCut) (from : List NameParts) (pages : List CutPage) (page slots : ℕ) → IsOrderly w → KeepsDoomed w cut.opening from pages cut.swept
    → has_page cut.swept page ≡ false → AreDoomedOn from pages page slots → MayFree w cut.opening page slots
doomed_may_be_freed w cut from pages page slots lawful keeps unswept doomed = record {
  one_each = list_all_from (λ slot. length (filter (is_unfreed w.freed) (objects_at w.graph page slot)) == 1) (slots_in slots) (λ slot m.
      let a = in_filter (has_slot slots) (below MOST_SLOTS) slot m in
      let n = (doomed slot).0 a.1 in
      let safe = keeps.safe n.0 n.1 (subst (λ p. has_page cut.swept p ≡ false) (sym n.2) unswept) in
      let o = unfreed_object w cut.opening n.0 safe in
      let there : In o.0 (unfreed_at w.graph w.freed page slot) =
      subst (λ p. In o.0 (unfreed_at w.graph w.freed p slot)) n.2 (subst (λ s. In o.0 (unfreed_at w.graph w.freed (n.0).page s)) n.3 o.1) in
      eq-eqb (length (unfreed_at w.graph w.freed page slot)) 1 (one_unfreed w page slot o.0 lawful there));
  safe = each_from (IsGarbage w cut.opening) (names_in w page slots) (λ name m.
      let a = in_names_in w page slots name m in
      let o : ObjectParts = a.0 in
      let n = (doomed o.name.slot).0 a.4 in
      let safe = keeps.safe n.0 n.1 (subst (λ p. has_page cut.swept p ≡ false) (sym n.2) unswept) in
      let q = unfreed_object w cut.opening n.0 safe in
      let there : In q.0 (unfreed_at w.graph w.freed page o.name.slot) =
      subst (λ p. In q.0 (unfreed_at w.graph w.freed p o.name.slot)) n.2 (subst (λ s. In q.0 (unfreed_at w.graph w.freed (n.0).page s)) n.3 q.1) in
      let here : In o (unfreed_at w.graph w.freed page o.name.slot) = subst (λ p. In o (unfreed_at w.graph w.freed p o.name.slot)) a.3 (in_unfreed_at w.graph w.freed o a.1 a.2) in
      let same : q.0 ≡ o = one_each w.graph w.freed lawful.counted lawful.last page o.name.slot q.0 o there here in
      let is : n.0 ≡ name = sym q.2 ∙ (ap (λ (x : ObjectParts). x.name) same ∙ sym a.5) in
      let garbage : IsGarbage w cut.opening n.0 = record { old = safe.old; out = safe.out } in
      subst (IsGarbage w cut.opening) is garbage);
  complete = λ name lost on unfreed.
      let d = keeps.lost name lost unfreed in
      let has = (doomed name.slot).1 (name, d.1, on, refl) in
      let safe = keeps.safe name d.1 d.0 in
      let a = has_object_in w.graph name safe.there in
      let o : ObjectParts = a.0 in
      let u : is_unfreed w.freed o ≡ true = subst (λ n. not (has_name w.freed n) ≡ true) (sym a.2) unfreed in
      in_has_name (names_in w page slots) name
      (subst (λ n. In n (names_in w page slots)) a.2
      (names_in_in w page slots o a.1 u (ap (λ (n : NameParts). n.page) a.2 ∙ on) (subst (λ (n : NameParts). has_slot slots n.slot ≡ true) (sym a.2) has)));
}

-- ---- events after the closing

-- what isn't freed by this event on a page that isn't swept stays as it was
pub doomed_stays : (w after : World) (opening : Opening) (from : List NameParts) (pages : List CutPage) (swept : List ℕ) → IsOrderly after → Follows w after → after.freed ≡ w.freed
    → KeepsDoomed w opening from pages swept → KeepsDoomed after opening from pages swept
doomed_stays w after opening from pages swept lawful follows same keeps = record {
  safe = λ name doomed unswept.
      let safe = keeps.safe name doomed unswept in record {
        there = name_stays w after name follows safe.there;
        unfreed = subst (λ f. not (has_name f name) ≡ true) (sym same) safe.unfreed;
        old = safe.old;
        out = out_stays w after name lawful follows safe.there safe.out.0;
      };
  lost = λ name lost unfreed. keeps.lost name lost (subst (λ f. not (has_name f name) ≡ true) same unfreed);
}

has-with_page : (page other : ℕ) (pages : List ℕ) → has_page (with_page page pages) other ≡ false → (has_page pages other ≡ false) × ¬ (other ≡ page)
has-with_page page other pages h = by_test (has_page pages page) refl h
  where
    by_test : (b : Bool) → has_page pages page ≡ b → has_page (cond b pages (page ∷ pages)) other ≡ false → (has_page pages other ≡ false) × ¬ (other ≡ page)
    by_test true e h = (h, λ q. let z : has_page pages other ≡ true = subst (λ p. has_page pages p ≡ true) (sym q) e in cc)
    by_test false e h = elim (cases_Bool (page == other)) [
      | inl t ↦ let z : (true || has_page pages other) ≡ false = subst (λ b. (b || has_page pages other) ≡ false) t h in cc
      | inr f ↦ (
        subst (λ b. (b || has_page pages other) ≡ false) f h,
        λ q. let z = eq-eqb page other (sym q) in cc,
      )
    ]

-- a sweep of a page leaves the others, and frees what was lost on it
pub sweep_keeps_doomed : (w : World) (cut : OpenedCut) (from : List NameParts) (pages : List CutPage) (page slots : ℕ) → IsOrderly (swept w page slots) → MayFree w cut.opening page slots
    → KeepsDoomed w cut.opening from pages cut.swept → KeepsDoomed (swept w page slots) cut.opening from pages (with_page page cut.swept)
sweep_keeps_doomed w cut from pages page slots lawful may keeps = record {
  safe = λ name doomed unswept.
      let p = has-with_page page name.page cut.swept unswept in
      let safe = keeps.safe name doomed p.0 in record {
        there = safe.there;
        unfreed = elim (cases_Bool (has_name (names_in w page slots ++ w.freed) name)) [
          | inr e ↦ ap not e
          | inl e ↦ elim (in_append (names_in w page slots) w.freed name (has_name_in (names_in w page slots ++ w.freed) name e)) [
            | inl a ↦
                let b = in_names_in w page slots name a in
                absurd (p.1 (ap (λ (n : NameParts). n.page) b.5 ∙ b.3))
            | inr b ↦
                let c = in_has_name w.freed name b in
                let d = not-true (has_name w.freed name) safe.unfreed in
                cc
          ]
        ];
        old = safe.old;
        out = out_stays w (swept w page slots) name lawful (inl refl) safe.there safe.out.0;
      };
  lost = λ name lost unfreed.
      let before : not (is_freed w name) ≡ true = elim (cases_Bool (is_freed w name)) [
        | inr e ↦ ap not e
        | inl e ↦
            let a = in_has_name (names_in w page slots ++ w.freed) name (append_right (names_in w page slots) w.freed name (has_name_in w.freed name e)) in
            let b = not-true (has_name (names_in w page slots ++ w.freed) name) unfreed in
            cc
      ] in
      let d = keeps.lost name lost before in
      let other : ¬ (name.page ≡ page) = λ on.
      let a = may.complete name lost on before in
      let b = in_has_name (names_in w page slots ++ w.freed) name (append_left (names_in w page slots) w.freed name (has_name_in (names_in w page slots) name a)) in
      let c = not-true (has_name (names_in w page slots ++ w.freed) name) unfreed in
      let z : ⊥ = cc in z in
      (with_page_off page name.page cut.swept d.0 other, d.1);
}
  where
    with_page_off : (page other : ℕ) (pages : List ℕ) → has_page pages other ≡ false → ¬ (other ≡ page) → has_page (with_page page pages) other ≡ false
    with_page_off page other pages h f = by_test (has_page pages page)
      where
        by_test : (b : Bool) → has_page (cond b pages (page ∷ pages)) other ≡ false
        by_test true = h
        by_test false = elim (cases_Bool (page == other)) [
          | inl t ↦ absurd (f (sym (eqb-true page other t)))
          | inr e ↦ subst (λ b. (b || has_page pages other) ≡ false) (sym e) h
        ]
