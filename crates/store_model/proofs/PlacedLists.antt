-- What the slots and the places of images give, and the objects of one place.
use Rattle.std.proofs.Common.{◌≡◌, ◌≢◌, ℕ, zero, suc, ◌<◌, ◌≤◌, ◌==◌, Bool, true, false, cond, List, [], ◌∷◌, ◌++◌, length, get_or, refl, sym, subst, ap, ◌∙◌, ◌⊎◌, inl, inr, arith, append-nil}
use Rattle.std.specs.List.{filter, flat_map}
use Rattle.std.proofs.lemmas.Bool.{cases_Bool, cases_lt, cases_eq, and_parts, eqb-true}
use Rattle.std.proofs.lemmas.Grind.{flat_map-append}
use Rattle.std.proofs.lemmas.List.{get_or_past}
use Rattle.std.proofs.lemmas.List.Elements.{filter-append}
use Rattle.object_graph.specs.NameParts.{NameParts}
use Rattle.object_graph.specs.SlotParts.{SlotParts}
use Rattle.object_graph.specs.ObjectParts.{ObjectParts}
use Rattle.object_graph.specs.Graphs.{is_at, objects_at}
use Rattle.object_graph.specs.Slots.{below}
use Rattle.object_graph.proofs.Members.{In}
use Rattle.store_model.specs.Images.{no_slot, of_slots}
use Rattle.store_model.specs.FromImages.{slot_in, of_places}
use Rattle.store_model.proofs.Cuts.{below_bound}
use Rattle.store_model.proofs.Flats.{in_flat, flat_in, length_below}
use Rattle.store_model.proofs.Lists.{in_below}

-- ---- tests over lists that are joined

pub filter_flat : {A B : Type 0} (q : B → Bool) (f : A → List B) (xs : List A) → filter q (flat_map f xs) ≡ flat_map (λ x. filter q (f x)) xs
filter_flat q f [] = refl
filter_flat {A} {B} q f (x ∷ xs) = filter-append q (f x) (flat_map f xs) ∙ ap (λ (l : List B). filter q (f x) ++ l) (filter_flat q f xs)

pub filter_all : {B : Type 0} (q : B → Bool) (ys : List B) → ((y : B) → In y ys → q y ≡ true) → filter q ys ≡ ys
filter_all q [] h = refl
filter_all {B} q (y ∷ ys) h =
    ap (λ (b : Bool). cond b (y ∷ filter q ys) (filter q ys)) (h y (inl refl)) ∙ ap (λ (l : List B). y ∷ l) (filter_all q ys (λ z m. h z (inr m)))

pub filter_nothing : {B : Type 0} (q : B → Bool) (ys : List B) → ((y : B) → In y ys → q y ≡ false) → filter q ys ≡ []
filter_nothing q [] h = refl
filter_nothing {B} q (y ∷ ys) h =
    ap (λ (b : Bool). cond b (y ∷ filter q ys) (filter q ys)) (h y (inl refl)) ∙ filter_nothing q ys (λ z m. h z (inr m))

flat_nothing : {B : Type 0} (f : ℕ → List B) (n : ℕ) → ((j : ℕ) → j < n → f j ≡ []) → flat_map f (below n) ≡ []
flat_nothing f zero h = refl
flat_nothing {B} f (suc n) h =
    flat_map-append f (below n) (n ∷ []) ∙ ap (λ (l : List B). l ++ (f n ++ [])) (flat_nothing f n (λ j k. h j (omega arith))) ∙ ap (λ (l : List B). l ++ []) (h n (omega arith))

-- only one number below n gives anything
pub flat_one : {B : Type 0} (f : ℕ → List B) (n k : ℕ) → ((j : ℕ) → j < n → j ≢ k → f j ≡ []) → (n ≤ k → f k ≡ []) → flat_map f (below n) ≡ f k
flat_one f zero k others past = sym (past (omega arith))
flat_one {B} f (suc n) k others past =
    flat_map-append f (below n) (n ∷ []) ∙ by_case (λ late. flat_one f n k (λ j low off. others j (omega arith) off) late) (cases_eq n k)
  where
    by_case : ((n ≤ k → f k ≡ []) → flat_map f (below n) ≡ f k) → (n ≡ k) ⊎ (n ≢ k) → flat_map f (below n) ++ (f n ++ []) ≡ f k
    by_case again (inl e) =
        ap (λ (l : List B). l ++ (f n ++ [])) (flat_nothing f n (λ j lt. others j (omega arith) (λ same. let z : ⊥ = omega (arith, e, same, lt) in z))) ∙ append-nil (f n) ∙ ap f e
    by_case again (inr e) =
        ap (λ (l : List B). flat_map f (below n) ++ (l ++ [])) (others n (omega arith) e) ∙ append-nil (flat_map f (below n)) ∙ again (λ le. past (omega (arith, le, e)))

pub flat_same : {A B : Type 0} (f g : A → List B) (xs : List A) → ((x : A) → f x ≡ g x) → flat_map f xs ≡ flat_map g xs
flat_same f g [] h = refl
flat_same {A} {B} f g (x ∷ xs) h = ap (λ (l : List B). l ++ flat_map f xs) (h x) ∙ ap (λ (l : List B). g x ++ l) (flat_same f g xs h)

-- ---- what slots and places give

pub in_slots : {A : Type 0} (f : ℕ → SlotParts → List A) (image : List SlotParts) (y : A) → In y (of_slots f image)
    → (slot : ℕ) × (slot < length image) × In y (f slot (get_or image slot no_slot))
in_slots f image y m =
    let a = in_flat (λ (slot : ℕ). f slot (get_or image slot no_slot)) (below (length image)) y m in
    (a.0, below_bound (length image) a.0 a.1, a.2)

-- something that a place gives
pub record IsOfPlace {A : Type 0} (f : ℕ → ℕ → SlotParts → List A) (images : List (List SlotParts)) (y : A) : Type 0 where
  pub page : ℕ
  pub slot : ℕ
  pub page_within : page < length images
  pub slot_within : slot < length (get_or images page [])
  pub there : In y (f page slot (slot_in images page slot))

pub in_places : {A : Type 0} (f : ℕ → ℕ → SlotParts → List A) (images : List (List SlotParts)) (y : A) → In y (of_places f images) → IsOfPlace f images y
in_places f images y m =
    let a = in_flat (λ (page : ℕ). of_slots (f page) (get_or images page [])) (below (length images)) y m in
    let b = in_slots (f a.0) (get_or images a.0 []) y a.2 in
    record { page = a.0; slot = b.0; page_within = below_bound (length images) a.0 a.1; slot_within = b.1; there = b.2 }

-- no place gives anything
pub places_nothing : {A : Type 0} (f : ℕ → ℕ → SlotParts → List A) (images : List (List SlotParts))
    → ((page slot : ℕ) → page < length images → slot < length (get_or images page []) → f page slot (slot_in images page slot) ≡ []) → of_places f images ≡ []
places_nothing f images h =
    flat_nothing (λ (page : ℕ). of_slots (f page) (get_or images page [])) (length images) (λ page p.
    flat_nothing (λ (slot : ℕ). f page slot (slot_in images page slot)) (length (get_or images page [])) (λ slot s. h page slot p s))

-- one place alone gives anything
pub places_one : {A : Type 0} (f : ℕ → ℕ → SlotParts → List A) (images : List (List SlotParts)) (page slot : ℕ) → page < length images → slot < length (get_or images page [])
    → ((p s : ℕ) → p < length images → s < length (get_or images p []) → (p ≡ page → s ≡ slot → ⊥) → f p s (slot_in images p s) ≡ []) → of_places f images ≡ f page slot (slot_in images page slot)
places_one f images page slot page_within slot_within h =
    flat_one (λ (p : ℕ). of_slots (f p) (get_or images p [])) (length images) page (λ p low off.
    flat_nothing (λ (s : ℕ). f p s (slot_in images p s)) (length (get_or images p [])) (λ s lt. h p s low lt (λ e g. off e)))
    (λ le. absurd (omega (arith, le, page_within)))
    ∙ flat_one (λ (s : ℕ). f page s (slot_in images page s)) (length (get_or images page [])) slot (λ s lt off. h page s page_within lt (λ e g. off g))
    (λ le. absurd (omega (arith, le, slot_within)))

-- a place past the last gives nothing
module _ {A : Type 0} (f : ℕ → ℕ → SlotParts → List A) (none : (page slot : ℕ) → f page slot no_slot ≡ []) (images : List (List SlotParts)) where
  pub past_slot : (page slot : ℕ) → length (get_or images page []) ≤ slot → f page slot (slot_in images page slot) ≡ []
  past_slot page slot le = ap (f page slot) (get_or_past (get_or images page []) slot no_slot le) ∙ none page slot

  pub past_page : (page slot : ℕ) → length images ≤ page → f page slot (slot_in images page slot) ≡ []
  past_page page slot le =
      past_slot page slot (subst (λ (l : List SlotParts). length l ≤ slot) (sym (get_or_past images page [] le)) (omega arith))

  -- what a place gives, wherever it is
  pub place_gives : (page slot : ℕ) (y : A) → In y (f page slot (slot_in images page slot)) → In y (of_places f images)
  place_gives page slot y m = by_page (cases_lt page (length images)) (cases_lt slot (length (get_or images page [])))
    where
      by_page : (page < length images) ⊎ (length images ≤ page) → (slot < length (get_or images page [])) ⊎ (length (get_or images page []) ≤ slot) → In y (of_places f images)
      by_page (inl p) (inl s) =
          flat_in (λ (page : ℕ). of_slots (f page) (get_or images page [])) (below (length images)) page y (in_below (length images) page p)
          (flat_in (λ (slot : ℕ). f page slot (slot_in images page slot)) (below (length (get_or images page []))) slot y (in_below (length (get_or images page [])) slot s) m)
      by_page (inr p) s = absurd (subst (λ (l : List A). In y l) (past_page page slot p) m)
      by_page (inl p) (inr s) = absurd (subst (λ (l : List A). In y l) (past_slot page slot s) m)

-- a slot in which anything ever was is inside
pub inside : (images : List (List SlotParts)) (page slot : ℕ) → 0 < (slot_in images page slot).generation → (page < length images) × (slot < length (get_or images page []))
inside images page slot some = (
  elim (cases_lt page (length images)) [ inl lt ↦ lt | inr le ↦ absurd (nothing (past_page given (λ page slot. refl) images page slot le)) ],
  elim (cases_lt slot (length (get_or images page []))) [ inl lt ↦ lt | inr le ↦ absurd (nothing (past_slot given (λ page slot. refl) images page slot le)) ],
)
  where
    given : ℕ → ℕ → SlotParts → List ℕ
    given page slot s = below s.generation

    nothing : below (slot_in images page slot).generation ≡ [] → ⊥
    nothing e = omega (arith, some, length_below (slot_in images page slot).generation, ap length e)

-- ---- the objects of one place

-- a name at one place isn't at another
pub not_at : (page slot p s : ℕ) (name : NameParts) → is_at p s name ≡ true → (p ≡ page → s ≡ slot → ⊥) → is_at page slot name ≡ false
not_at page slot p s name at off = elim (cases_Bool (is_at page slot name)) [
  | inr e ↦ e
  | inl e ↦
      let a = and_parts (name.page == p) (name.slot == s) at in
      let b = and_parts (name.page == page) (name.slot == slot) e in
      absurd (off (sym (eqb-true name.page p a.0) ∙ eqb-true name.page page b.0) (sym (eqb-true name.slot s a.1) ∙ eqb-true name.slot slot b.1))
]

module _ (f : ℕ → ℕ → SlotParts → List ObjectParts) (none : (page slot : ℕ) → f page slot no_slot ≡ []) (at : (page slot : ℕ) (s : SlotParts) (o : ObjectParts) → In o (f page slot s) → is_at page slot o.name ≡ true)
    (images : List (List SlotParts)) (page slot : ℕ) where
  abbrev here : ObjectParts → Bool
  here o = is_at page slot o.name

  abbrev on_page : ℕ → List ObjectParts
  on_page p = of_slots (f p) (get_or images p [])

  abbrev in_slot : ℕ → List ObjectParts
  in_slot s = f page s (slot_in images page s)

  other_page : (p : ℕ) → p ≢ page → filter here (on_page p) ≡ []
  other_page p off = filter_nothing here (on_page p) (λ o m.
      let a = in_slots (f p) (get_or images p []) o m in
      not_at page slot p a.0 o.name (at p a.0 (slot_in images p a.0) o a.2) (λ e s. off e))

  other_slot : (s : ℕ) → s ≢ slot → filter here (in_slot s) ≡ []
  other_slot s off = filter_nothing here (in_slot s) (λ o m. not_at page slot page s o.name (at page s (slot_in images page s) o m) (λ p e. off e))

  -- objects that stand at their places: those of a place are what it gives
  pub objects_of_place : objects_at (of_places f images) page slot ≡ f page slot (slot_in images page slot)
  objects_of_place =
      filter_flat here on_page (below (length images))
      ∙ flat_one (λ (p : ℕ). filter here (on_page p)) (length images) page (λ p low off. other_page p off)
      (λ le. ap (λ (image : List SlotParts). filter here (of_slots (f page) image)) (get_or_past images page [] le))
      ∙ filter_flat here in_slot (below (length (get_or images page [])))
      ∙ flat_one (λ (s : ℕ). filter here (in_slot s)) (length (get_or images page [])) slot (λ s low off. other_slot s off)
      (λ le. ap (filter here) (past_slot f none images page slot le))
      ∙ filter_all here (in_slot slot) (λ o m. at page slot (slot_in images page slot) o m)
