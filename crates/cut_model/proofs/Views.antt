-- The name of each place stays, also in the view of a transaction.
use Rattle.std.proofs.Common.{◌≡◌, ℕ, ◌+◌, ◌<◌, ◌==◌, false, not, ◌&&◌, cond, List, [], ◌∷◌, ◌++◌, map, length, refl, sym, subst, ap, ◌∙◌, inl, inr, arith, append-nil}
use Rattle.std.specs.List.{list_any, filter, AllByRecursion}
use Rattle.std.specs.Bool.{IsTrue}
use Rattle.std.proofs.lemmas.Bool.{and_parts, and_from, cases_Bool, eqb-true}
use Rattle.std.proofs.lemmas.List.{length-map}
use Rattle.std.proofs.lemmas.List.Elements.{filter-append}
use Rattle.object_graph.specs.NameParts.{NameParts}
use Rattle.object_graph.specs.Names.{name_eq}
use Rattle.object_graph.specs.ObjectParts.{ObjectParts}
use Rattle.object_graph.specs.Graphs.{has_name, has_object, is_at, is_to, refers, objects_at}
use Rattle.store_model.specs.Worlds.{World, Transaction, Opening, slots_of, fields_of, view, with_writes, new_object}
use Rattle.store_model.specs.Lawful.{IsOwn, IsLawfulTransaction}
use Rattle.object_graph.proofs.Members.{In, in_any, in_filter, each_in, each_from}
use Rattle.object_graph.proofs.Paths.{name_eq_refl, has_name_in}
use Rattle.store_model.proofs.Places.{filter_of_map, objects_at-map}
use Rattle.store_model.proofs.Lists.{filter_same}
use Rattle.store_model.proofs.Keeps.{view_kept}
use Rattle.store_model.proofs.Reach.{name-with_writes}
use Rattle.store_model.proofs.Cuts.{next_name_is_new}
use Rattle.store_model.proofs.OutOfReach.{safe_one}
use Rattle.store_model.specs.Lawful.{IsOrderly}
use Rattle.store_model.specs.Worlds.{is_unfreed, IsLost}
use Rattle.store_model.specs.Images.{shown_in, shown, unfreed_at, objects_of}
use Rattle.cut_model.specs.States.{generation_with, generation_at, KeepsOpening}
use Rattle.cut_model.specs.Sound.{IsSafeObject, IsSafeImage}
use Rattle.store_model.proofs.Shown.{in_shown}

-- ---- a change that keeps names keeps the name of each place

pub unfreed_at-map : (f : ObjectParts → ObjectParts) (os : List ObjectParts) (freed : List NameParts) (page slot : ℕ) → ((o : ObjectParts) → (f o).name ≡ o.name)
    → unfreed_at (map f os) freed page slot ≡ map f (unfreed_at os freed page slot)
unfreed_at-map f os freed page slot h =
    ap (filter (is_unfreed freed)) (objects_at-map f os page slot h)
    ∙ (filter_of_map f (is_unfreed freed) (objects_at os page slot)
    ∙ ap (map f) (filter_same (λ (o : ObjectParts). is_unfreed freed (f o)) (is_unfreed freed) (objects_at os page slot) (λ o. ap (λ n. not (has_name freed n)) (h o))))

generation_with-map : (f : ObjectParts → ObjectParts) (os : List ObjectParts) (names : ℕ) → ((o : ObjectParts) → (f o).name ≡ o.name) → generation_with (map f os) names ≡ generation_with os names
generation_with-map f [] names h = refl
generation_with-map f (o ∷ os) names h = ap (λ (n : NameParts). n.generation) (h o)

pub generation_at-map : (f : ObjectParts → ObjectParts) (os : List ObjectParts) (freed : List NameParts) (page slot : ℕ) → ((o : ObjectParts) → (f o).name ≡ o.name)
    → generation_at (map f os) freed page slot ≡ generation_at os freed page slot
generation_at-map f os freed page slot h =
    ap (λ us. generation_with us (length (objects_at (map f os) page slot))) (unfreed_at-map f os freed page slot h)
    ∙ (ap (λ k. generation_with (map f (unfreed_at os freed page slot)) k) (ap length (objects_at-map f os page slot h) ∙ length-map (objects_at os page slot) f)
    ∙ generation_with-map f (unfreed_at os freed page slot) (length (objects_at os page slot)) h)

-- ---- new objects take the names that are next

none_unfreed : (freed : List NameParts) (os : List ObjectParts) → AllByRecursion (λ o. IsTrue (has_name freed o.name)) os → filter (is_unfreed freed) os ≡ []
none_unfreed freed [] h = refl
none_unfreed freed (o ∷ os) h = ap (λ b. cond (not b) (o ∷ filter (is_unfreed freed) os) (filter (is_unfreed freed) os)) h.0 ∙ none_unfreed freed os h.1

-- a name that is new isn't freed
new_unfreed : (w : World) (n : NameParts) → AllByRecursion (λ name. IsTrue (has_object w.graph name)) w.freed → has_object w.graph n ≡ false → has_name w.freed n ≡ false
new_unfreed w n there new = elim (cases_Bool (has_name w.freed n)) [
  | inl e ↦ let t = each_in (λ (name : NameParts). IsTrue (has_object w.graph name)) w.freed n there (has_name_in w.freed n e) in cc
  | inr e ↦ e
]

generation_with_own : (w : World) (t : Transaction) (page slot : ℕ) → IsOrderly w → AllByRecursion (IsOwn w.graph w.freed t) t.own → (names : List NameParts)
    → names ≡ filter (is_at page slot) t.own → length names < 2
    → generation_with (unfreed_at w.graph w.freed page slot ++ filter (is_unfreed w.freed) (map (new_object w) names)) (length (objects_at w.graph page slot ++ map (new_object w) names))
    ≡ generation_at w.graph w.freed page slot
generation_with_own w t page slot lawful own [] e few =
    ap (λ us. generation_with us (length (objects_at w.graph page slot ++ []))) (append-nil (unfreed_at w.graph w.freed page slot))
    ∙ ap (λ os. generation_with (unfreed_at w.graph w.freed page slot) (length os)) (append-nil (objects_at w.graph page slot))
generation_with_own w t page slot lawful own (n ∷ []) e few =
    let m : In n (filter (is_at page slot) t.own) = subst (λ ns. In n ns) e (inl refl) in
    let a = in_filter (is_at page slot) t.own n m in
    let b = and_parts (n.page == page) (n.slot == slot) a.1 in
    let p = eqb-true n.page page b.0 in
    let q = eqb-true n.slot slot b.1 in
    let is = each_in (IsOwn w.graph w.freed t) t.own n own a.0 in
    let g : n.generation ≡ 1 + length (objects_at w.graph n.page n.slot) = ap (λ (k : NameParts). k.generation) is.next in
    let g2 : n.generation ≡ 1 + length (objects_at w.graph page slot) =
    g ∙ (ap (λ k. 1 + length (objects_at w.graph k n.slot)) p ∙ ap (λ k. 1 + length (objects_at w.graph page k)) q) in
    let free : AllByRecursion (λ (o : ObjectParts). IsTrue (has_name w.freed o.name)) (objects_at w.graph page slot) =
    subst (λ k. AllByRecursion (λ (o : ObjectParts). IsTrue (has_name w.freed o.name)) (objects_at w.graph page k)) q
    (subst (λ k. AllByRecursion (λ (o : ObjectParts). IsTrue (has_name w.freed o.name)) (objects_at w.graph k n.slot)) p is.free) in
    let none : unfreed_at w.graph w.freed page slot ≡ [] = none_unfreed w.freed (objects_at w.graph page slot) free in
    let unf : has_name w.freed n ≡ false = new_unfreed w n lawful.freed_there (next_name_is_new w n lawful.counted is.next) in
    let one : filter (is_unfreed w.freed) (new_object w n ∷ []) ≡ new_object w n ∷ [] = ap (λ b. cond (not b) (new_object w n ∷ []) []) unf in
    let len : ℕ = length (objects_at w.graph page slot ++ new_object w n ∷ []) in
    ap (λ us. generation_with (us ++ filter (is_unfreed w.freed) (new_object w n ∷ [])) len) none
    ∙ (ap (λ us. generation_with us len) one
    ∙ (g2 ∙ sym (ap (λ us. generation_with us (length (objects_at w.graph page slot))) none)))
generation_with_own w t page slot lawful own (n ∷ m ∷ ns) e few = absurd (omega arith)

-- in the view of a transaction each place has the name that it has in the graph
pub view_keeps_names : (w : World) (t : Transaction) (page slot : ℕ) → IsOrderly w → In t w.transactions
    → generation_at (view w t) w.freed page slot ≡ generation_at w.graph w.freed page slot
view_keeps_names w t page slot lawful m =
    let lt = each_in (IsLawfulTransaction w.graph w.freed) w.transactions t lawful.transactions m in
    let news : List ObjectParts = map (new_object w) t.own in
    let names : List NameParts = filter (is_at page slot) t.own in
    let a : objects_at (w.graph ++ news) page slot ≡ objects_at w.graph page slot ++ map (new_object w) names =
    filter-append (λ (o : ObjectParts). is_at page slot o.name) w.graph news
    ∙ ap (λ os. objects_at w.graph page slot ++ os) (filter_of_map (new_object w) (λ (o : ObjectParts). is_at page slot o.name) t.own) in
    let b : unfreed_at (w.graph ++ news) w.freed page slot ≡ unfreed_at w.graph w.freed page slot ++ filter (is_unfreed w.freed) (map (new_object w) names) =
    ap (filter (is_unfreed w.freed)) a ∙ filter-append (is_unfreed w.freed) (objects_at w.graph page slot) (map (new_object w) names) in
    generation_at-map (with_writes t.writes) (w.graph ++ news) w.freed page slot (name-with_writes t.writes)
    ∙ (ap (λ us. generation_with us (length (objects_at (w.graph ++ news) page slot))) b
    ∙ (ap (λ os. generation_with (unfreed_at w.graph w.freed page slot ++ filter (is_unfreed w.freed) (map (new_object w) names)) (length os)) a
    ∙ generation_with_own w t page slot lawful lt.own names refl (lt.one_at_each_place page slot)))

-- ---- safe images

-- the images of a graph are safe that keeps the names of places and refers to nothing lost
pub safe_image : (w : World) (opening : Opening) (graph : List ObjectParts) (page : ℕ) → KeepsOpening w opening
    → ((page slot : ℕ) → generation_at graph w.freed page slot ≡ generation_at w.graph w.freed page slot)
    → ((name target : NameParts) → ¬ IsLost opening name → IsLost opening target → IsTrue (not (has_name w.freed name)) → ¬ IsTrue (refers graph name target))
    → IsSafeImage opening page (shown_in w graph page)
safe_image w opening graph page keeps names kept =
    each_from (IsSafeObject opening) (objects_of page (shown_in w graph page)) (λ o m.
    let shown = in_shown (slots_of w page) (fields_of w page) graph w.freed page o m in
    record {
      name = sym (ap (λ os. generation_with os (length (objects_at graph o.name.page o.name.slot))) shown.first) ∙ (names o.name.page o.name.slot ∙ keeps.names o.name.page o.name.slot);
      kept = λ safe target lost r. kept o.name target safe lost shown.unfreed
          (in_any (λ (p : ObjectParts). name_eq p.name o.name && list_any (is_to target) p.refs) graph o shown.there
          (and_from (name_eq o.name o.name) (list_any (is_to target) o.refs) (name_eq_refl o.name) r));
    })

pub committed_safe : (w : World) (opening : Opening) (page : ℕ) → KeepsOpening w opening → IsSafeImage opening page (shown w page)
committed_safe w opening page keeps = safe_image w opening w.graph page keeps (λ page slot. refl) keeps.lost.kept

pub view_safe : (w : World) (t : Transaction) (opening : Opening) (page : ℕ) → IsOrderly w → In t w.transactions → KeepsOpening w opening
    → IsSafeImage opening page (shown_in w (view w t) page)
view_safe w t opening page lawful m keeps =
    safe_image w opening (view w t) page keeps (λ page slot. view_keeps_names w t page slot lawful m)
    (λ name target. view_kept w t opening name target (safe_one w t lawful m) keeps.lost)
