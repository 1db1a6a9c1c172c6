-- What a call of a transaction does to the image of a page in its view, and what a sweep does to it.
use Rattle.std.proofs.Common.{◌≡◌, ◌≢◌, ℕ, suc, ◌<◌, ◌==◌, Bool, true, false, not, ◌||◌, cond, List, [], ◌∷◌, ◌++◌, map, length, get_or, set, None, replicate, append-nil, refl, sym, subst, ap, ◌∙◌, inl, inr, arith}
use Rattle.std.specs.List.{list_any, filter, slice_set, AllByRecursion}
use Rattle.std.specs.Bool.{IsTrue}
use Rattle.std.proofs.lemmas.Bool.{and_parts, and_from, cases_Bool, cases_eq, eqb-true, eq-eqb}
use Rattle.std.proofs.lemmas.List.{length-map, length-set, get_or-set_same, get_or-set_other, map-append}
use Rattle.std.proofs.lemmas.List.Elements.{filter-append}
use Rattle.store_model.proofs.Lists.{any_false_filter}
use Rattle.store_model.specs.Causes.{has_page}
use Rattle.store_model.specs.Lawful.{IsLawfulTransaction, IsApart}
use Rattle.store_model.proofs.Committed.{place_away}
use Rattle.object_graph.specs.NameParts.{NameParts}
use Rattle.object_graph.specs.Names.{name_eq}
use Rattle.object_graph.specs.SlotParts.{SlotParts}
use Rattle.object_graph.specs.ObjectParts.{ObjectParts}
use Rattle.object_graph.specs.Graphs.{has_name, is_at, objects_at}
use Rattle.object_graph.specs.Slots.{below}
use Rattle.store_model.specs.Images.{slot_with, shown_slot, shown_of, shown_in, unfreed_at, no_slot}
use Rattle.store_model.specs.Worlds.{World, Transaction, slots_of, fields_of, Write, link, assign, view, with_writes, written_by, new_object}
use Rattle.store_model.specs.Steps.{writes, makes}
use Rattle.object_graph.proofs.Members.{In, in_filter, filter_in, in_map, each_in, or_left, or_right}
use Rattle.object_graph.proofs.Paths.{name_eq_same, name_eq_refl}
use Rattle.store_model.proofs.Places.{map_of_map, filter_of_map}
use Rattle.store_model.proofs.Reach.{name-written_by, name-with_writes}
use Rattle.store_model.specs.Worlds.{is_unfreed}
use Rattle.cut_model.specs.Frames.{written_slot, written_name, freed_slot}
use Rattle.store_model.specs.Lawful.{CountsUp, OnlyLastUnfreed, IsLastOfPlace, IsOrderly}
use Rattle.store_model.proofs.Orders.{lawful_one, placed_one}
use Rattle.store_model.proofs.Committed.{view_is_orderly}
use Rattle.store_model.proofs.Shown.{one_each, in_unfreed_at}
use Rattle.store_model.proofs.Flats.{get-map_below, length-map_below}
use Rattle.store_model.proofs.Places.{objects_at-map}
use Rattle.cut_model.proofs.Views.{unfreed_at-map}
use Rattle.cut_model.proofs.Commits.{map_same}

-- ---- images that agree

pub same_elements : {A : Type 0} (xs ys : List A) (d : A) → length xs ≡ length ys → ((i : ℕ) → i < length xs → get_or xs i d ≡ get_or ys i d) → xs ≡ ys
same_elements [] [] d l h = refl
same_elements [] (y ∷ ys) d l h = absurd (omega arith)
same_elements (x ∷ xs) [] d l h = absurd (omega arith)
same_elements (x ∷ xs) (y ∷ ys) d l h =
    let a : x ≡ y = h 0 (omega arith) in
    let b : xs ≡ ys = same_elements xs ys d (omega arith) (λ i low. h (suc i) (omega arith)) in
    ap (λ z. z ∷ xs) a ∙ ap (λ zs. y ∷ zs) b

-- an image whose slot at one place is new, and the others as they were
one_slot_differs : (f g : ℕ → SlotParts) (n slot : ℕ) (s : SlotParts) → g slot ≡ s → ((k : ℕ) → k ≢ slot → g k ≡ f k) → map g (below n) ≡ set (map f (below n)) slot s
one_slot_differs f g n slot s e h =
    same_elements (map g (below n)) (set (map f (below n)) slot s) no_slot
    (length-map_below g n ∙ (sym (length-map_below f n) ∙ sym (length-set (map f (below n)) slot s)))
    (λ i low.
    let lg = length-map_below g n in
    let lf = length-map_below f n in
    let within : i < n = omega arith in
    get-map_below g n i no_slot within ∙ (elim (cases_eq i slot) [
      | inl q ↦
          let here : slot < length (map f (below n)) = omega arith in
          ap g q ∙ (e ∙ (sym (get_or-set_same (map f (below n)) slot s no_slot here) ∙ ap (λ k. get_or (set (map f (below n)) slot s) k no_slot) (sym q)))
      | inr ne ↦ h i ne ∙ (sym (get-map_below f n i no_slot within) ∙ sym (get_or-set_other (map f (below n)) slot i s no_slot ne))
    ]))

-- ---- a write

-- the view after a write
view_written : (w : World) (t : Transaction) (write : Write) (page : ℕ) → view w (writes write page t) ≡ map (written_by write) (view w t)
view_written w t write page = sym (map_of_map (with_writes t.writes) (written_by write) (w.graph ++ map (new_object w) t.own))

-- a write leaves objects of other names, and changes the one of its name
written_other : (write : Write) (o : ObjectParts) → name_eq o.name (written_name write) ≡ false → written_by write o ≡ o
written_other (link name field target) o e = ap (λ b. cond b (record o { refs = slice_set o.refs field target }) o) e
written_other (assign name value) o e = ap (λ b. cond b (record o { number = value }) o) e

written_same : (fields : ℕ) (write : Write) (o : ObjectParts) (os : List ObjectParts) (names : ℕ) → name_eq o.name (written_name write) ≡ true
    → slot_with fields (written_by write o ∷ os) names ≡ written_slot write (slot_with fields (o ∷ os) names)
written_same fields (link name field target) o os names e = ap (λ b. slot_with fields (cond b (record o { refs = slice_set o.refs field target }) o ∷ os) names) e
written_same fields (assign name value) o os names e = ap (λ b. slot_with fields (cond b (record o { number = value }) o ∷ os) names) e

-- the slot of another place
other_slot : (fields : ℕ) (write : Write) (os : List ObjectParts) (names : ℕ) → ((o : ObjectParts) → In o os → name_eq o.name (written_name write) ≡ false)
    → slot_with fields (map (written_by write) os) names ≡ slot_with fields os names
other_slot fields write [] names h = refl
other_slot fields write (o ∷ os) names h = ap (λ (x : ObjectParts). slot_with fields (x ∷ []) names) (written_other write o (h o (inl refl)))

this_slot : (fields : ℕ) (write : Write) (os : List ObjectParts) (o : ObjectParts) (names : ℕ) → In o os → ((a b : ObjectParts) → In a os → In b os → a ≡ b) → o.name ≡ written_name write
    → slot_with fields (map (written_by write) os) names ≡ written_slot write (slot_with fields os names)
this_slot fields write [] o names m one e = absurd m
this_slot fields write (h ∷ hs) o names m one e =
    let q : h.name ≡ written_name write = ap (λ (x : ObjectParts). x.name) (one h o (inl refl) m) ∙ e in
    written_same fields write h (map (written_by write) hs) names (subst (λ n. name_eq h.name n ≡ true) q (name_eq_refl h.name))

shown_slot-map : (fields : ℕ) (write : Write) (graph : List ObjectParts) (freed : List NameParts) (page slot : ℕ)
    → shown_slot fields (map (written_by write) graph) freed page slot ≡ slot_with fields (map (written_by write) (unfreed_at graph freed page slot)) (length (objects_at graph page slot))
shown_slot-map fields write graph freed page slot =
    ap (λ us. slot_with fields us (length (objects_at (map (written_by write) graph) page slot))) (unfreed_at-map (written_by write) graph freed page slot (name-written_by write))
    ∙ ap (slot_with fields (map (written_by write) (unfreed_at graph freed page slot)))
    (ap length (objects_at-map (written_by write) graph page slot (name-written_by write)) ∙ length-map (objects_at graph page slot) (written_by write))

at_place : (graph : List ObjectParts) (freed : List NameParts) (page slot : ℕ) (o : ObjectParts) → In o (unfreed_at graph freed page slot) → (o.name.page ≡ page) × (o.name.slot ≡ slot)
at_place graph freed page slot o m =
    let a = in_filter (is_unfreed freed) (objects_at graph page slot) o m in
    let b = in_filter (λ (o : ObjectParts). is_at page slot o.name) graph o a.0 in
    let c = and_parts (o.name.page == page) (o.name.slot == slot) b.1 in
    (eqb-true o.name.page page c.0, eqb-true o.name.slot slot c.1)

shown_slot_elsewhere : (fields : ℕ) (write : Write) (graph : List ObjectParts) (freed : List NameParts) (page slot : ℕ) → ¬ (((written_name write).page ≡ page) × ((written_name write).slot ≡ slot))
    → shown_slot fields (map (written_by write) graph) freed page slot ≡ shown_slot fields graph freed page slot
shown_slot_elsewhere fields write graph freed page slot away =
    shown_slot-map fields write graph freed page slot
    ∙ other_slot fields write (unfreed_at graph freed page slot) (length (objects_at graph page slot)) (λ o m. elim (cases_Bool (name_eq o.name (written_name write))) [
      | inr e ↦ e
      | inl e ↦
          let q : o.name ≡ written_name write = name_eq_same o.name (written_name write) e in
          let p = at_place graph freed page slot o m in
          absurd (away (sym (ap (λ (n : NameParts). n.page) q) ∙ p.0, sym (ap (λ (n : NameParts). n.slot) q) ∙ p.1))
    ])

-- the image of the written page has one slot changed
pub write_changes_slot : (w : World) (t : Transaction) (write : Write) (page : ℕ) (o : ObjectParts) → In o (unfreed_at (view w t) w.freed (written_name write).page (written_name write).slot)
    → ((a b : ObjectParts) → In a (unfreed_at (view w t) w.freed (written_name write).page (written_name write).slot) → In b (unfreed_at (view w t) w.freed (written_name write).page (written_name write).slot) → a ≡ b)
    → o.name ≡ written_name write → (written_name write).slot < slots_of w (written_name write).page
    → shown_in w (view w (writes write page t)) (written_name write).page
    ≡ set (shown_in w (view w t) (written_name write).page) (written_name write).slot
    (written_slot write (get_or (shown_in w (view w t) (written_name write).page) (written_name write).slot no_slot))
unfolding shown_of
write_changes_slot w t write page o m one e low =
    ap (λ g. map (shown_slot (fields_of w p) g w.freed p) (below (slots_of w p))) (view_written w t write page) ∙ changes (slots_of w p) low
  where
    p : ℕ
    p = (written_name write).page

    s : ℕ
    s = (written_name write).slot

    changes : (n : ℕ) → s < n → map (shown_slot (fields_of w p) (map (written_by write) (view w t)) w.freed p) (below n)
        ≡ set (map (shown_slot (fields_of w p) (view w t) w.freed p) (below n)) s (written_slot write (get_or (map (shown_slot (fields_of w p) (view w t) w.freed p) (below n)) s no_slot))
    changes n low =
        one_slot_differs (shown_slot (fields_of w p) (view w t) w.freed p) (shown_slot (fields_of w p) (map (written_by write) (view w t)) w.freed p) n s
        (written_slot write (get_or (map (shown_slot (fields_of w p) (view w t) w.freed p) (below n)) s no_slot))
        (shown_slot-map (fields_of w p) write (view w t) w.freed p s
        ∙ (this_slot (fields_of w p) write (unfreed_at (view w t) w.freed p s) o (length (objects_at (view w t) p s)) m one e
        ∙ ap (written_slot write) (sym (get-map_below (shown_slot (fields_of w p) (view w t) w.freed p) n s no_slot low))))
        (λ k ne. shown_slot_elsewhere (fields_of w p) write (view w t) w.freed p k (λ q. ne (sym q.1)))

-- the images of other pages stay
pub write_leaves_page : (w : World) (t : Transaction) (write : Write) (page other : ℕ) → (written_name write).page ≢ other → shown_in w (view w (writes write page t)) other ≡ shown_in w (view w t) other
unfolding shown_of
write_leaves_page w t write page other ne =
    ap (λ g. map (shown_slot (fields_of w other) g w.freed other) (below (slots_of w other))) (view_written w t write page) ∙ leaves (slots_of w other)
  where
    leaves : (n : ℕ) → map (shown_slot (fields_of w other) (map (written_by write) (view w t)) w.freed other) (below n) ≡ map (shown_slot (fields_of w other) (view w t) w.freed other) (below n)
    leaves n = map_same (shown_slot (fields_of w other) (map (written_by write) (view w t)) w.freed other) (shown_slot (fields_of w other) (view w t) w.freed other) (below n)
        (λ slot. shown_slot_elsewhere (fields_of w other) write (view w t) w.freed other slot (λ q. ne q.0))

-- ---- a sweep

has_name-append : (names freed : List NameParts) (n : NameParts) → has_name (names ++ freed) n ≡ (has_name names n || has_name freed n)
has_name-append [] freed n = refl
has_name-append (m ∷ ms) freed n = by_test (name_eq m n) (has_name-append ms freed n)
  where
    by_test : (b : Bool) → has_name (ms ++ freed) n ≡ (has_name ms n || has_name freed n) → (b || has_name (ms ++ freed) n) ≡ ((b || has_name ms n) || has_name freed n)
    by_test true h = refl
    by_test false h = h

filter_same_in : {A : Type 0} (p q : A → Bool) (xs : List A) → ((x : A) → In x xs → p x ≡ q x) → filter p xs ≡ filter q xs
filter_same_in p q [] h = refl
filter_same_in p q (x ∷ xs) h =
    ap (λ b. cond b (x ∷ filter p xs) (filter p xs)) (h x (inl refl)) ∙ ap (λ ys. cond (q x) (x ∷ ys) ys) (filter_same_in p q xs (λ y m. h y (inr m)))

filter_none_in : {A : Type 0} (p : A → Bool) (xs : List A) → ((x : A) → In x xs → p x ≡ false) → filter p xs ≡ []
filter_none_in p [] h = refl
filter_none_in p (x ∷ xs) h = ap (λ b. cond b (x ∷ filter p xs) (filter p xs)) (h x (inl refl)) ∙ filter_none_in p xs (λ y m. h y (inr m))

freed_with : (fields : ℕ) (os : List ObjectParts) (o : ObjectParts) (names : ℕ) → In o os → ((a b : ObjectParts) → In a os → In b os → a ≡ b) → o.name.generation ≡ names → slot_with fields [] names ≡ freed_slot fields (slot_with fields os names)
freed_with fields [] o names m one e = absurd m
freed_with fields (h ∷ hs) o names m one e =
    ap (λ k. slot_with fields [] k) (sym e)
    ∙ ap (λ (x : ObjectParts). let s : SlotParts = record { in_use = false; generation = x.name.generation; number = 0; refs = replicate fields None } in s) (one o h m (inl refl))

pub sweep_frees_slot : (fields : ℕ) (graph : List ObjectParts) (freed names : List NameParts) (page slot : ℕ) (o : ObjectParts) → In o (unfreed_at graph freed page slot)
    → ((a b : ObjectParts) → In a (unfreed_at graph freed page slot) → In b (unfreed_at graph freed page slot) → a ≡ b)
    → o.name.generation ≡ length (objects_at graph page slot) → has_name names o.name ≡ true
    → shown_slot fields graph (names ++ freed) page slot ≡ freed_slot fields (shown_slot fields graph freed page slot)
sweep_frees_slot fields graph freed names page slot o m one last gone =
    ap (λ us. slot_with fields us (length (objects_at graph page slot))) (filter_none_in (is_unfreed (names ++ freed)) (objects_at graph page slot) (λ x i.
    ap not (has_name-append names freed x.name ∙ (elim (cases_Bool (has_name freed x.name)) [
      | inl e ↦ or_right (has_name names x.name) (has_name freed x.name) e
      | inr e ↦
          let here : In x (unfreed_at graph freed page slot) = filter_in (is_unfreed freed) (objects_at graph page slot) x i (ap not e) in
          or_left (has_name names x.name) (has_name freed x.name) (subst (λ (y : ObjectParts). has_name names y.name ≡ true) (one o x m here) gone)
    ]))))
    ∙ freed_with fields (unfreed_at graph freed page slot) o (length (objects_at graph page slot)) m one last

pub sweep_leaves_slot : (fields : ℕ) (graph : List ObjectParts) (freed names : List NameParts) (page slot : ℕ)
    → ((o : ObjectParts) → In o (unfreed_at graph freed page slot) → has_name names o.name ≡ false)
    → shown_slot fields graph (names ++ freed) page slot ≡ shown_slot fields graph freed page slot
sweep_leaves_slot fields graph freed names page slot away =
    ap (λ us. slot_with fields us (length (objects_at graph page slot))) (filter_same_in (is_unfreed (names ++ freed)) (is_unfreed freed) (objects_at graph page slot) (λ x i.
    ap not (has_name-append names freed x.name ∙ (elim (cases_Bool (has_name freed x.name)) [
      | inl e ↦ or_right (has_name names x.name) (has_name freed x.name) e ∙ sym e
      | inr e ↦ ap (λ b. b || has_name freed x.name) (away x (filter_in (is_unfreed freed) (objects_at graph page slot) x i (ap not e)))
    ]))))

-- ---- the same, in a graph that counts up

pub write_changes_one_slot : (w : World) (t : Transaction) (write : Write) (page : ℕ) (o : ObjectParts) → CountsUp (view w t) → OnlyLastUnfreed (view w t) w.freed → In o (view w t)
    → is_unfreed w.freed o ≡ true → o.name ≡ written_name write → (written_name write).slot < slots_of w (written_name write).page
    → shown_in w (view w (writes write page t)) (written_name write).page
    ≡ set (shown_in w (view w t) (written_name write).page) (written_name write).slot
    (written_slot write (get_or (shown_in w (view w t) (written_name write).page) (written_name write).slot no_slot))
write_changes_one_slot w t write page o counts last m u named low =
    write_changes_slot w t write page o (subst (λ (n : NameParts). In o (unfreed_at (view w t) w.freed n.page n.slot)) named (in_unfreed_at (view w t) w.freed o m u))
    (one_each (view w t) w.freed counts last (written_name write).page (written_name write).slot) named low

pub sweep_frees_its_slot : (fields : ℕ) (graph : List ObjectParts) (freed names : List NameParts) (o : ObjectParts) → CountsUp graph → OnlyLastUnfreed graph freed → In o graph → is_unfreed freed o ≡ true
    → has_name names o.name ≡ true
    → shown_slot fields graph (names ++ freed) o.name.page o.name.slot ≡ freed_slot fields (shown_slot fields graph freed o.name.page o.name.slot)
sweep_frees_its_slot fields graph freed names o counts last m u gone =
    sweep_frees_slot fields graph freed names o.name.page o.name.slot o (in_unfreed_at graph freed o m u) (one_each graph freed counts last o.name.page o.name.slot)
    (each_in (IsLastOfPlace graph) (filter (is_unfreed freed) graph) o last (filter_in (is_unfreed freed) graph o m u)) gone

pub view_in_order : (w : World) (t : Transaction) → IsOrderly w → In t w.transactions → CountsUp (view w t) × OnlyLastUnfreed (view w t) w.freed
view_in_order w t orderly m = let v = view_is_orderly w t w.commits orderly (lawful_one w t orderly m) (placed_one w t orderly m) in (v.counted, v.last)

-- ---- a new object

-- writes on other names leave an object
writes_elsewhere : (ws : List Write) (o : ObjectParts) → AllByRecursion (λ write. name_eq o.name (written_name write) ≡ false) ws → with_writes ws o ≡ o
writes_elsewhere [] o h = refl
writes_elsewhere (write ∷ ws) o h = ap (written_by write) (writes_elsewhere ws o h.1) ∙ written_other write o h.0

one_more_place : (w : World) (t : Transaction) (name : NameParts) (page slot : ℕ)
    → objects_at (view w (makes name t)) page slot
    ≡ map (with_writes t.writes) (objects_at w.graph page slot ++ (objects_at (map (new_object w) t.own) page slot ++ objects_at (new_object w name ∷ []) page slot))
one_more_place w t name page slot =
    let news : List ObjectParts = map (new_object w) t.own in
    let at : ObjectParts → Bool = λ (o : ObjectParts). is_at page slot o.name in
    ap (λ os. objects_at (map (with_writes t.writes) (w.graph ++ os)) page slot) (map-append (new_object w) t.own (name ∷ []))
    ∙ (objects_at-map (with_writes t.writes) (w.graph ++ (news ++ new_object w name ∷ [])) page slot (name-with_writes t.writes)
    ∙ ap (map (with_writes t.writes)) (filter-append at w.graph (news ++ new_object w name ∷ [])
    ∙ ap (λ os. objects_at w.graph page slot ++ os) (filter-append at news (new_object w name ∷ []))))

plain_place : (w : World) (t : Transaction) (page slot : ℕ)
    → objects_at (view w t) page slot ≡ map (with_writes t.writes) (objects_at w.graph page slot ++ objects_at (map (new_object w) t.own) page slot)
plain_place w t page slot =
    objects_at-map (with_writes t.writes) (w.graph ++ map (new_object w) t.own) page slot (name-with_writes t.writes)
    ∙ ap (map (with_writes t.writes)) (filter-append (λ (o : ObjectParts). is_at page slot o.name) w.graph (map (new_object w) t.own))

-- the slot of another place stays
pub new_leaves_slot : (fields : ℕ) (w : World) (t : Transaction) (name : NameParts) (page slot : ℕ) → is_at page slot name ≡ false
    → shown_slot fields (view w (makes name t)) w.freed page slot ≡ shown_slot fields (view w t) w.freed page slot
new_leaves_slot fields w t name page slot away =
    let news : List ObjectParts = objects_at (map (new_object w) t.own) page slot in
    ap (λ os. slot_with fields (filter (is_unfreed w.freed) os) (length os))
    (one_more_place w t name page slot
    ∙ (ap (λ b. map (with_writes t.writes) (objects_at w.graph page slot ++ (news ++ cond b (new_object w name ∷ []) []))) away
    ∙ (ap (λ os. map (with_writes t.writes) (objects_at w.graph page slot ++ os)) (append-nil news)
    ∙ sym (plain_place w t page slot))))

-- the slot of the new object: it was free, and has the next generation
pub new_takes_slot : (w : World) (t : Transaction) (name : NameParts) → AllByRecursion (λ o. IsTrue (has_name w.freed o.name)) (objects_at w.graph name.page name.slot)
    → list_any (is_at name.page name.slot) t.own ≡ false → has_name w.freed name ≡ false
    → AllByRecursion (λ write. name_eq name (written_name write) ≡ false) t.writes
    → shown_slot (fields_of w name.page) (view w (makes name t)) w.freed name.page name.slot
    ≡ record { in_use = true; generation = name.generation; number = 0; refs = replicate (fields_of w name.page) None }
new_takes_slot w t name free none unfreed other =
    let page : ℕ = name.page in
    let slot : ℕ = name.slot in
    let news : List ObjectParts = map (new_object w) t.own in
    let at : is_at page slot name ≡ true = and_from (page == page) (slot == slot) (eq-eqb page page refl) (eq-eqb slot slot refl) in
    let empty : objects_at news page slot ≡ [] =
    filter_of_map (new_object w) (λ (o : ObjectParts). is_at page slot o.name) t.own ∙ ap (map (new_object w)) (any_false_filter (is_at page slot) t.own none) in
    let still : with_writes t.writes (new_object w name) ≡ new_object w name = writes_elsewhere t.writes (new_object w name) other in
    let a : objects_at (view w (makes name t)) page slot ≡ map (with_writes t.writes) (objects_at w.graph page slot) ++ new_object w name ∷ [] =
    one_more_place w t name page slot
    ∙ (ap (λ b. map (with_writes t.writes) (objects_at w.graph page slot ++ (objects_at news page slot ++ cond b (new_object w name ∷ []) []))) at
    ∙ (ap (λ os. map (with_writes t.writes) (objects_at w.graph page slot ++ (os ++ new_object w name ∷ []))) empty
    ∙ (map-append (with_writes t.writes) (objects_at w.graph page slot) (new_object w name ∷ [])
    ∙ ap (λ (x : ObjectParts). map (with_writes t.writes) (objects_at w.graph page slot) ++ x ∷ []) still))) in
    let b : filter (is_unfreed w.freed) (map (with_writes t.writes) (objects_at w.graph page slot) ++ new_object w name ∷ []) ≡ new_object w name ∷ [] =
    filter-append (is_unfreed w.freed) (map (with_writes t.writes) (objects_at w.graph page slot)) (new_object w name ∷ [])
    ∙ (ap (λ os. os ++ filter (is_unfreed w.freed) (new_object w name ∷ [])) (filter_none_in (is_unfreed w.freed) (map (with_writes t.writes) (objects_at w.graph page slot)) (λ x i.
    let c = in_map (with_writes t.writes) (objects_at w.graph page slot) x i in
    let f = each_in (λ (o : ObjectParts). IsTrue (has_name w.freed o.name)) (objects_at w.graph page slot) c.0 free c.1 in
    ap not (subst (λ n. has_name w.freed n ≡ true) (sym (ap (λ (x : ObjectParts). x.name) c.2 ∙ name-with_writes t.writes c.0)) f)))
    ∙ ap (λ e. cond (not e) (new_object w name ∷ []) []) unfreed) in
    let len : ℕ = length (objects_at (view w (makes name t)) page slot) in
    ap (λ os. slot_with (fields_of w page) (filter (is_unfreed w.freed) os) len) a ∙ ap (λ us. slot_with (fields_of w page) us len) b

-- ---- a commit of another transaction

-- a commit leaves the image of each page that another open transaction wrote, as that one sees it
pub other_view_stays : (w : World) (t u : Transaction) (page : ℕ) → IsLawfulTransaction w.graph w.freed t → IsApart t u → has_page u.pages_written page ≡ true
    → shown_in w (view (record w { graph = view w t }) u) page ≡ shown_in w (view w u) page
unfolding shown_of
other_view_stays w t u page lt apart wrote =
    map_same (shown_slot (fields_of w page) (view (record w { graph = view w t }) u) w.freed page) (shown_slot (fields_of w page) (view w u) w.freed page) (below (slots_of w page)) (λ slot.
    ap (λ os. slot_with (fields_of w page) (filter (is_unfreed w.freed) os) (length os))
    (plain_place (record w { graph = view w t }) u page slot
    ∙ (ap (λ os. map (with_writes u.writes) (os ++ objects_at (map (new_object w) u.own) page slot))
    (place_away w t page slot lt (apart page (or_right (has_page u.pages_read page) (has_page u.pages_written page) wrote)))
    ∙ sym (plain_place w u page slot))))
