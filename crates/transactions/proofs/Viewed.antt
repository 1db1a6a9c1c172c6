-- What a transaction's view has at a place.
use Rattle.std.proofs.Common.{◌≡◌, ℕ, Bool, true, false, not, ◌==◌, cond, List, [], ◌∷◌, ◌++◌, map, length, refl, sym, ap, ◌∙◌, inl, inr}
use Rattle.std.specs.List.{filter, slice_set}
use Rattle.std.proofs.lemmas.Bool.{and_parts, cases_Bool, eqb-true, cond-false}
use Rattle.std.proofs.lemmas.List.Elements.{filter-append}
use Rattle.std.proofs.lemmas.List.{length-map}
use Rattle.object_graph.specs.NameParts.{NameParts}
use Rattle.object_graph.specs.Names.{name_eq}
use Rattle.object_graph.specs.ObjectParts.{ObjectParts}
use Rattle.object_graph.specs.Graphs.{is_at, objects_at, has_name}
use Rattle.store_model.specs.Worlds.{World, Transaction, Write, link, assign, view, with_writes, written_by, new_object, is_unfreed}
use Rattle.store_model.specs.Images.{unfreed_at, shown_slot, slot_with}
use Rattle.object_graph.proofs.Members.{In, in_filter}
use Rattle.store_model.proofs.Places.{objects_at-map, map_of_map}
use Rattle.store_model.proofs.Reach.{name-with_writes, name-written_by}
use Rattle.object_graph.proofs.Paths.{name_eq_same}

-- a change that keeps names keeps what is at a place
pub filter-map_kept : {A : Type 0} (p : A → Bool) (f : A → A) → ((x : A) → p (f x) ≡ p x) → (xs : List A) → filter p (map f xs) ≡ map f (filter p xs)
filter-map_kept p f e [] = refl
filter-map_kept p f e (x ∷ xs) =
    ap (λ b. cond b (f x ∷ filter p (map f xs)) (filter p (map f xs))) (e x)
    ∙ one p f x xs (filter-map_kept p f e xs) (p x)
  where
    one : {A : Type 0} (p : A → Bool) (f : A → A) (x : A) (xs : List A) → filter p (map f xs) ≡ map f (filter p xs)
        → (b : Bool) → cond b (f x ∷ filter p (map f xs)) (filter p (map f xs)) ≡ map f (cond b (x ∷ filter p xs) (filter p xs))
    one p f x xs h true = ap (λ ys. f x ∷ ys) h
    one p f x xs h false = h

abbrev pub KeepsNames : (ObjectParts → ObjectParts) → Type 0
KeepsNames f = (o : ObjectParts) → (f o).name ≡ o.name

pub unfreed_at-map : (f : ObjectParts → ObjectParts) (graph : List ObjectParts) (freed : List NameParts) (page slot : ℕ) → KeepsNames f
    → unfreed_at (map f graph) freed page slot ≡ map f (unfreed_at graph freed page slot)
unfreed_at-map f graph freed page slot kept =
    ap (filter (is_unfreed freed)) (objects_at-map f graph page slot kept)
    ∙ filter-map_kept (is_unfreed freed) f (λ o. ap (λ n. not (has_name freed n)) (kept o)) (objects_at graph page slot)

-- a slot as a changed graph has it
pub shown_slot-map : (fields : ℕ) (f : ObjectParts → ObjectParts) (graph : List ObjectParts) (freed : List NameParts) (page slot : ℕ) → KeepsNames f
    → shown_slot fields (map f graph) freed page slot
    ≡ slot_with fields (map f (unfreed_at graph freed page slot)) (length (objects_at graph page slot))
shown_slot-map fields f graph freed page slot kept =
    ap (λ us. slot_with fields us (length (objects_at (map f graph) page slot))) (unfreed_at-map f graph freed page slot kept)
    ∙ ap (λ n. slot_with fields (map f (unfreed_at graph freed page slot)) n)
    (ap length (objects_at-map f graph page slot kept) ∙ length-map (objects_at graph page slot) f)

pub map_same : {A B : Type 0} (f g : A → B) (xs : List A) → ((x : A) → In x xs → f x ≡ g x) → map f xs ≡ map g xs
map_same f g [] e = refl
map_same f g (x ∷ xs) e = ap (λ y. y ∷ map f xs) (e x (inl refl)) ∙ ap (λ ys. g x ∷ ys) (map_same f g xs (λ y m. e y (inr m)))

pub map_id : {A : Type 0} (f : A → A) (xs : List A) → ((x : A) → In x xs → f x ≡ x) → map f xs ≡ xs
map_id f [] e = refl
map_id f (x ∷ xs) e = ap (λ y. y ∷ map f xs) (e x (inl refl)) ∙ ap (λ ys. x ∷ ys) (map_id f xs (λ y m. e y (inr m)))

-- one more write is laid over the view
pub view-writes : (w : World) (t : Transaction) (write : Write) (pages : List ℕ)
    → view w (record t { writes = write ∷ t.writes; pages_written = pages }) ≡ map (written_by write) (view w t)
view-writes w t write pages = sym (map_of_map (with_writes t.writes) (written_by write) (w.graph ++ map (new_object w) t.own))

-- which object a write is to
abbrev pub written_name : Write → NameParts
written_name (link name field target) = name
written_name (assign name value) = name

pub written_by_other : (write : Write) (o : ObjectParts) → name_eq o.name (written_name write) ≡ false → written_by write o ≡ o
written_by_other (link name field target) o e = cond-false (name_eq o.name name) (record o { refs = slice_set o.refs field target }) o e
written_by_other (assign name value) o e = cond-false (name_eq o.name name) (record o { number = value }) o e

pub place_of : (page slot : ℕ) (graph : List ObjectParts) (o : ObjectParts) → In o (objects_at graph page slot) → (o.name.page ≡ page) × (o.name.slot ≡ slot)
place_of page slot graph o m =
    let a = in_filter (λ o. is_at page slot o.name) graph o m in
    let b = and_parts (o.name.page == page) (o.name.slot == slot) a.1 in
    (eqb-true o.name.page page b.0, eqb-true o.name.slot slot b.1)

other_name : (a b : NameParts) → (a ≡ b → ⊥) → name_eq a b ≡ false
other_name a b ne = elim (cases_Bool (name_eq a b)) [ inl t ↦ absurd (ne (name_eq_same a b t)) | inr f ↦ f ]

-- a write elsewhere leaves a place as it is shown
pub write_elsewhere : (fields : ℕ) (write : Write) (graph : List ObjectParts) (freed : List NameParts) (page slot : ℕ)
    → (((written_name write).page ≡ page) × ((written_name write).slot ≡ slot) → ⊥)
    → shown_slot fields (map (written_by write) graph) freed page slot ≡ shown_slot fields graph freed page slot
write_elsewhere fields write graph freed page slot off =
    shown_slot-map fields (written_by write) graph freed page slot (name-written_by write)
    ∙ ap (λ us. slot_with fields us (length (objects_at graph page slot)))
    (map_id (written_by write) (unfreed_at graph freed page slot) (λ o m.
    let k = place_of page slot graph o (in_filter (is_unfreed freed) (objects_at graph page slot) o m).0 in
    written_by_other write o (other_name o.name (written_name write) (λ e.
    off (sym (ap (λ (n : NameParts). n.page) e) ∙ k.0, sym (ap (λ (n : NameParts). n.slot) e) ∙ k.1)))))

-- a write shows at the place of its object, which alone is unfreed there
pub write_here : (fields : ℕ) (write : Write) (graph : List ObjectParts) (freed : List NameParts) (o : ObjectParts) (page slot : ℕ)
    → unfreed_at graph freed page slot ≡ o ∷ []
    → shown_slot fields (map (written_by write) graph) freed page slot
    ≡ slot_with fields (written_by write o ∷ []) (length (objects_at graph page slot))
write_here fields write graph freed o page slot alone =
    shown_slot-map fields (written_by write) graph freed page slot (name-written_by write)
    ∙ ap (λ us. slot_with fields (map (written_by write) us) (length (objects_at graph page slot))) alone

-- a view at a place
pub objects_at-view : (w : World) (t : Transaction) (page slot : ℕ)
    → objects_at (view w t) page slot ≡ map (with_writes t.writes) (objects_at w.graph page slot ++ map (new_object w) (filter (is_at page slot) t.own))
objects_at-view w t page slot =
    objects_at-map (with_writes t.writes) (w.graph ++ map (new_object w) t.own) page slot (name-with_writes t.writes)
    ∙ ap (map (with_writes t.writes))
    (filter-append (λ o. is_at page slot o.name) w.graph (map (new_object w) t.own)
    ∙ ap (λ os. objects_at w.graph page slot ++ os) (own_objects w t.own page slot))
  where
    own_objects : (w : World) (names : List NameParts) (page slot : ℕ) → objects_at (map (new_object w) names) page slot ≡ map (new_object w) (filter (is_at page slot) names)
    own_objects w [] page slot = refl
    own_objects w (n ∷ ns) page slot = one w n ns page slot (own_objects w ns page slot) (is_at page slot n)
      where
        one : (w : World) (n : NameParts) (ns : List NameParts) (page slot : ℕ) → objects_at (map (new_object w) ns) page slot ≡ map (new_object w) (filter (is_at page slot) ns)
            → (b : Bool) → cond b (new_object w n ∷ objects_at (map (new_object w) ns) page slot) (objects_at (map (new_object w) ns) page slot) ≡ map (new_object w) (cond b (n ∷ filter (is_at page slot) ns) (filter (is_at page slot) ns))
        one w n ns page slot h true = ap (λ os. new_object w n ∷ os) h
        one w n ns page slot h false = h

-- the view has at a place what it is shown to have, if the graphs of two worlds agree there
pub shown_from_place : (fields : ℕ) (one two : List ObjectParts) (freed : List NameParts) (page slot : ℕ)
    → objects_at one page slot ≡ objects_at two page slot → shown_slot fields one freed page slot ≡ shown_slot fields two freed page slot
shown_from_place fields one two freed page slot e = ap (λ os. slot_with fields (filter (is_unfreed freed) os) (length os)) e
