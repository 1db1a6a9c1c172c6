-- What the image of a page shows of a graph.
use Rattle.std.proofs.Common.{◌≡◌, ℕ, zero, suc, ◌<◌, ◌==◌, true, List, [], ◌∷◌, ◌++◌, map, length, get_or, refl, sym, subst, ap, ◌∙◌, inl, inr, arith}
use Rattle.std.specs.List.{filter}
use Rattle.std.proofs.lemmas.Bool.{and_parts, and_from, eqb-true, eq-eqb}
use Rattle.std.proofs.lemmas.List.{map-append}
use Rattle.object_graph.specs.NameParts.{NameParts}
use Rattle.object_graph.specs.SlotParts.{SlotParts}
use Rattle.object_graph.specs.ObjectParts.{ObjectParts}
use Rattle.object_graph.specs.Graphs.{is_at, objects_at}
use Rattle.object_graph.specs.Slots.{below}
use Rattle.store_model.specs.Images.{no_slot, object_in, objects_of, unfreed_at, slot_with, shown_slot, shown_of}
use Rattle.store_model.specs.Lawful.{CountsUp, OnlyLastUnfreed}
use Rattle.object_graph.proofs.Members.{In, in_append, in_filter, filter_in, in_map, map_in, each_in}
use Rattle.object_graph.proofs.Paths.{name_of}
use Rattle.store_model.proofs.Cuts.{below_bound}
use Rattle.store_model.specs.Worlds.{is_unfreed}
use Rattle.store_model.proofs.Places.{generation_of}
use Rattle.store_model.proofs.Flats.{IsInSlot, in_objects_of, objects_of_in, get-map_below, length-map_below}

-- ---- one object at each place

-- no two of these numbers are equal
abbrev pub AreApart : List ℕ → Type 0
AreApart [] = Unit {0}
AreApart (n ∷ ns) = (¬ In n ns) × AreApart ns

apart_more : (ns : List ℕ) (n : ℕ) → AreApart ns → ¬ In n ns → AreApart (ns ++ n ∷ [])
apart_more [] n h f = (λ z. z, tt)
apart_more (m ∷ ms) n h f = (
  λ i. elim (in_append ms (n ∷ []) m i) [
    | inl a ↦ h.0 a
    | inr b ↦ elim b [ inl e ↦ f (inl (sym e)) | inr z ↦ z ]
  ],
  apart_more ms n h.1 (λ i. f (inr i)),
)

pub apart_below : (n : ℕ) → AreApart (map suc (below n))
apart_below zero = tt
apart_below (suc n) = subst AreApart (sym (map-append suc (below n) (n ∷ [])))
    (apart_more (map suc (below n)) (suc n) (apart_below n) (λ i.
    let a = in_map suc (below n) (suc n) i in
    let b = below_bound n a.0 a.1 in
    let e : suc n ≡ suc a.0 = a.2 in
    omega arith))

one_of : (os : List ObjectParts) (a b : ObjectParts) → AreApart (map generation_of os) → In a os → In b os → a.name.generation ≡ b.name.generation → a ≡ b
one_of [] a b h i j e = absurd i
one_of (o ∷ os) a b h i j e = elim i [
  | inl p ↦ elim j [
    | inl q ↦ p ∙ sym q
    | inr q ↦
        let g : o.name.generation ≡ b.name.generation = sym (ap generation_of p) ∙ e in
        absurd (h.0 (subst (λ n. In n (map generation_of os)) (sym g) (map_in generation_of os b q)))
  ]
  | inr p ↦ elim j [
    | inl q ↦
        let g : o.name.generation ≡ a.name.generation = sym (ap generation_of q) ∙ sym e in
        absurd (h.0 (subst (λ n. In n (map generation_of os)) (sym g) (map_in generation_of os a p)))
    | inr q ↦ one_of os a b h.1 p q e
  ]
]

-- two unfreed objects at one place are the same
abbrev pub OneEach : List ObjectParts → List NameParts → Type 0
OneEach graph freed = (page slot : ℕ) (a b : ObjectParts) → In a (unfreed_at graph freed page slot) → In b (unfreed_at graph freed page slot) → a ≡ b

-- an unfreed object is the last of its place
pub last_at : (graph : List ObjectParts) (freed : List NameParts) (page slot : ℕ) (o : ObjectParts) → OnlyLastUnfreed graph freed → In o (unfreed_at graph freed page slot)
    → o.name.generation ≡ length (objects_at graph page slot)
last_at graph freed page slot o last m =
    let a = in_filter (is_unfreed freed) (objects_at graph page slot) o m in
    let g = in_filter (λ (o : ObjectParts). is_at page slot o.name) graph o a.0 in
    let at = and_parts (o.name.page == page) (o.name.slot == slot) g.1 in
    let e = each_in (λ (o : ObjectParts). o.name.generation ≡ length (objects_at graph o.name.page o.name.slot)) (filter (is_unfreed freed) graph) o last (filter_in (is_unfreed freed) graph o g.0 a.1) in
    e ∙ (ap (λ p. length (objects_at graph p o.name.slot)) (eqb-true o.name.page page at.0) ∙ ap (λ s. length (objects_at graph page s)) (eqb-true o.name.slot slot at.1))

pub one_each : (graph : List ObjectParts) (freed : List NameParts) → CountsUp graph → OnlyLastUnfreed graph freed → OneEach graph freed
one_each graph freed counts last = λ page slot a b i j.
    one_of (objects_at graph page slot) a b (subst AreApart (sym (counts page slot)) (apart_below (length (objects_at graph page slot))))
    (in_filter (is_unfreed freed) (objects_at graph page slot) a i).0 (in_filter (is_unfreed freed) (objects_at graph page slot) b j).0
    (last_at graph freed page slot a last i ∙ sym (last_at graph freed page slot b last j))

-- ---- what is shown

pub in_unfreed_at : (graph : List ObjectParts) (freed : List NameParts) (o : ObjectParts) → In o graph → is_unfreed freed o ≡ true → In o (unfreed_at graph freed o.name.page o.name.slot)
in_unfreed_at graph freed o m u =
    filter_in (is_unfreed freed) (objects_at graph o.name.page o.name.slot) o
    (filter_in (λ (p : ObjectParts). is_at o.name.page o.name.slot p.name) graph o m
    (and_from (o.name.page == o.name.page) (o.name.slot == o.name.slot) (eq-eqb o.name.page o.name.page refl) (eq-eqb o.name.slot o.name.slot refl))) u

-- an object of the graph that the image of a page shows
pub record IsShown (graph : List ObjectParts) (freed : List NameParts) (page : ℕ) (o : ObjectParts) : Type 0 where
  pub there : In o graph
  pub unfreed : is_unfreed freed o ≡ true
  pub on : o.name.page ≡ page
  pub others : List ObjectParts
  pub first : unfreed_at graph freed o.name.page o.name.slot ≡ o ∷ others

slot_shows : (fields : ℕ) (graph : List ObjectParts) (freed : List NameParts) (page slot : ℕ) (os : List ObjectParts) (o : ObjectParts)
    → os ≡ unfreed_at graph freed page slot → (slot_with fields os (length (objects_at graph page slot))).in_use ≡ true
    → o ≡ object_in page slot (slot_with fields os (length (objects_at graph page slot))) → IsShown graph freed page o
slot_shows fields graph freed page slot [] o e u is = cc
slot_shows fields graph freed page slot (h ∷ hs) o e u is =
    let m : In h (unfreed_at graph freed page slot) = subst (λ os. In h os) e (inl refl) in
    let p = in_filter (is_unfreed freed) (objects_at graph page slot) h m in
    let g = in_filter (λ (o : ObjectParts). is_at page slot o.name) graph h p.0 in
    let at = and_parts (h.name.page == page) (h.name.slot == slot) g.1 in
    let a = eqb-true h.name.page page at.0 in
    let b = eqb-true h.name.slot slot at.1 in
    let n : name_of page slot h.name.generation ≡ h.name =
    ap (λ k. name_of k slot h.name.generation) (sym a) ∙ ap (λ k. name_of h.name.page k h.name.generation) (sym b) in
    let same : o ≡ h = is ∙ ap (λ (n : NameParts). let x : ObjectParts = record { name = n; number = h.number; refs = h.refs } in x) n in
    let shown : IsShown graph freed page h = record {
      there = g.0;
      unfreed = p.1;
      on = a;
      others = hs;
      first = ap (λ k. unfreed_at graph freed k h.name.slot) a ∙ (ap (λ k. unfreed_at graph freed page k) b ∙ sym e);
    } in
    subst (IsShown graph freed page) (sym same) shown

pub in_shown : (slots fields : ℕ) (graph : List ObjectParts) (freed : List NameParts) (page : ℕ) (o : ObjectParts) → In o (objects_of page (shown_of slots fields graph freed page)) → IsShown graph freed page o
unfolding shown_of
in_shown slots fields graph freed page o m = shows slots (in_objects_of page (map (shown_slot fields graph freed page) (below slots)) o m)
  where
    shows : (n : ℕ) → IsInSlot page (map (shown_slot fields graph freed page) (below n)) o → IsShown graph freed page o
    shows n s =
        let within : s.slot < n = let l = length-map_below (shown_slot fields graph freed page) n in let h = s.within in omega arith in
        let e : get_or (map (shown_slot fields graph freed page) (below n)) s.slot no_slot ≡ shown_slot fields graph freed page s.slot =
        get-map_below (shown_slot fields graph freed page) n s.slot no_slot within in
        slot_shows fields graph freed page s.slot (unfreed_at graph freed page s.slot) o refl
        (subst (λ (p : SlotParts). p.in_use ≡ true) e s.in_use) (subst (λ (p : SlotParts). o ≡ object_in page s.slot p) e s.is)

slot_has : (fields : ℕ) (graph : List ObjectParts) (freed : List NameParts) (page slot names : ℕ) (os : List ObjectParts) (o : ObjectParts) → In o os → ((a : ObjectParts) → In a os → a ≡ o)
    → o.name.page ≡ page → o.name.slot ≡ slot → ((slot_with fields os names).in_use ≡ true) × (object_in page slot (slot_with fields os names) ≡ o)
slot_has fields graph freed page slot names [] o m one a b = absurd m
slot_has fields graph freed page slot names (h ∷ hs) o m one a b =
    let same : h ≡ o = one h (inl refl) in
    let n : name_of page slot o.name.generation ≡ o.name =
    ap (λ k. name_of k slot o.name.generation) (sym a) ∙ ap (λ k. name_of o.name.page k o.name.generation) (sym b) in (
      refl,
      ap (λ (x : ObjectParts). let y : ObjectParts = record { name = name_of page slot x.name.generation; number = x.number; refs = x.refs } in y) same
          ∙ ap (λ (n : NameParts). let x : ObjectParts = record { name = n; number = o.number; refs = o.refs } in x) n,
    )

pub shows_object : (slots fields : ℕ) (graph : List ObjectParts) (freed : List NameParts) (o : ObjectParts) → OneEach graph freed → In o graph → is_unfreed freed o ≡ true → o.name.slot < slots
    → In o (objects_of o.name.page (shown_of slots fields graph freed o.name.page))
unfolding shown_of
shows_object slots fields graph freed o one m u low = has slots low
  where
    has : (n : ℕ) → o.name.slot < n → In o (objects_of o.name.page (map (shown_slot fields graph freed o.name.page) (below n)))
    has n low =
        let page : ℕ = o.name.page in
        let slot : ℕ = o.name.slot in
        let f : ℕ → SlotParts = shown_slot fields graph freed page in
        let i : In o (unfreed_at graph freed page slot) = in_unfreed_at graph freed o m u in
        let h = slot_has fields graph freed page slot (length (objects_at graph page slot)) (unfreed_at graph freed page slot) o i (λ a k. one page slot a o k i) refl refl in
        let e : get_or (map f (below n)) slot no_slot ≡ f slot = get-map_below f n slot no_slot low in
        let within : slot < length (map f (below n)) = let l = length-map_below f n in omega arith in
        subst (λ (x : ObjectParts). In x (objects_of page (map f (below n))))
        (ap (object_in page slot) e ∙ h.1)
        (objects_of_in page (map f (below n)) slot within (ap (λ (s : SlotParts). s.in_use) e ∙ h.0))
