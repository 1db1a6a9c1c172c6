-- Elements of lists that are joined, and of the objects in an image.
use Rattle.std.proofs.Common.{◌≡◌, ℕ, zero, suc, ◌<◌, ◌-◌, Bool, true, false, cond, List, [], ◌∷◌, ◌++◌, map, length, get_or, refl, sym, subst, ap, ◌∙◌, ◌⊎◌, inl, inr, arith, length-append}
use Rattle.std.specs.List.{flat_map}
use Rattle.std.proofs.lemmas.Bool.{cases_lt}
use Rattle.std.proofs.lemmas.List.{get_or_append_left, get_or-append_right, get_or-map, length-map}
use Rattle.object_graph.specs.SlotParts.{SlotParts}
use Rattle.object_graph.specs.ObjectParts.{ObjectParts}
use Rattle.object_graph.specs.Slots.{below}
use Rattle.store_model.proofs.Lists.{in_below}
use Rattle.object_graph.proofs.Members.{In, in_append, append_left, append_right}
use Rattle.store_model.proofs.Cuts.{below_bound}
use Rattle.store_model.specs.Images.{no_slot, object_in, objects_in, objects_of}

pub in_flat : {A B : Type 0} (f : A → List B) (xs : List A) (y : B) → In y (flat_map f xs) → (x : A) × In x xs × In y (f x)
in_flat f [] y m = absurd m
in_flat f (x ∷ xs) y m = elim (in_append (f x) (flat_map f xs) y m) [
  | inl a ↦ (x, inl refl, a)
  | inr b ↦ let r = in_flat f xs y b in (r.0, inr r.1, r.2)
]

pub flat_in : {A B : Type 0} (f : A → List B) (xs : List A) (x : A) (y : B) → In x xs → In y (f x) → In y (flat_map f xs)
flat_in f [] x y m n = absurd m
flat_in f (z ∷ zs) x y m n = elim m [
  | inl e ↦ append_left (f z) (flat_map f zs) y (subst (λ k. In y (f k)) e n)
  | inr r ↦ append_right (f z) (flat_map f zs) y (flat_in f zs x y r n)
]

pub length_below : (n : ℕ) → length (below n) ≡ n
length_below zero = refl
length_below (suc n) = let e = length_below n in omega (arith, length-append (below n) (n ∷ []), e)

pub get_below : (n j : ℕ) → j < n → get_or (below n) j 0 ≡ j
get_below zero j h = absurd (omega arith)
get_below (suc n) j h = step n j (λ k. get_below n j k) h
  where
    by_case : (n j : ℕ) → (j < n → get_or (below n) j 0 ≡ j) → (j < n) ⊎ (j ≡ n) → get_or (below n ++ n ∷ []) j 0 ≡ j
    by_case n j f (inl a) = get_or_append_left (below n) (n ∷ []) 0 j (let e = length_below n in omega arith) ∙ f a
    by_case n j f (inr e) =
        get_or-append_right (below n) (n ∷ []) n j 0 (length_below n) (omega arith)
        ∙ let z : j - n ≡ 0 = omega arith in (ap (λ k. get_or (n ∷ []) k 0) z ∙ sym e)

    step : (n j : ℕ) → (j < n → get_or (below n) j 0 ≡ j) → j < suc n → get_or (below n ++ n ∷ []) j 0 ≡ j
    step n j f h = by_case n j f (elim (cases_lt j n) [ inl a ↦ inl a | inr b ↦ let e : j ≡ n = omega arith in inr e ])

pub get-map_below : {Y : Type 0} (f : ℕ → Y) (n j : ℕ) (e : Y) → j < n → get_or (map f (below n)) j e ≡ f j
get-map_below f n j e h =
    get_or-map f (below n) j 0 e (let l = length_below n in omega arith) ∙ ap f (get_below n j h)

pub length-map_below : {Y : Type 0} (f : ℕ → Y) (n : ℕ) → length (map f (below n)) ≡ n
length-map_below f n = length-map (below n) f ∙ length_below n

-- ---- the objects in an image

pub in_objects_in : (page slot : ℕ) (s : SlotParts) (o : ObjectParts) → In o (objects_in page slot s) → (s.in_use ≡ true) × (o ≡ object_in page slot s)
in_objects_in page slot s o m = by_use page slot s o s.in_use refl m
  where
    by_use : (page slot : ℕ) (s : SlotParts) (o : ObjectParts) (b : Bool) → s.in_use ≡ b → In o (cond b (object_in page slot s ∷ []) []) → (s.in_use ≡ true) × (o ≡ object_in page slot s)
    by_use page slot s o true e m = elim m [ inl q ↦ (e, q) | inr z ↦ absurd z ]
    by_use page slot s o false e m = absurd m

pub objects_in_in : (page slot : ℕ) (s : SlotParts) → s.in_use ≡ true → In (object_in page slot s) (objects_in page slot s)
objects_in_in page slot s e = subst (λ b. In (object_in page slot s) (cond b (object_in page slot s ∷ []) [])) (sym e) (inl refl)

-- an object in an image is that of a slot
pub record IsInSlot (page : ℕ) (image : List SlotParts) (o : ObjectParts) : Type 0 where
  pub slot : ℕ
  pub within : slot < length image
  pub in_use : (get_or image slot no_slot).in_use ≡ true
  pub is : o ≡ object_in page slot (get_or image slot no_slot)

pub in_objects_of : (page : ℕ) (image : List SlotParts) (o : ObjectParts) → In o (objects_of page image) → IsInSlot page image o
in_objects_of page image o m =
    let a = in_flat (λ (slot : ℕ). objects_in page slot (get_or image slot no_slot)) (below (length image)) o m in
    let b = in_objects_in page a.0 (get_or image a.0 no_slot) o a.2 in
    record { slot = a.0; within = below_bound (length image) a.0 a.1; in_use = b.0; is = b.1 }

pub objects_of_in : (page : ℕ) (image : List SlotParts) (slot : ℕ) → slot < length image → (get_or image slot no_slot).in_use ≡ true
    → In (object_in page slot (get_or image slot no_slot)) (objects_of page image)
objects_of_in page image slot h e =
    flat_in (λ (slot : ℕ). objects_in page slot (get_or image slot no_slot)) (below (length image)) slot (object_in page slot (get_or image slot no_slot))
    (in_below (length image) slot h) (objects_in_in page slot (get_or image slot no_slot) e)
