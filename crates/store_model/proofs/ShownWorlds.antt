-- A lawful world shows images that a store may have.
use Rattle.std.proofs.Common.{◌≡◌, ◌↔◌, ℕ, zero, suc, ◌<◌, ◌≤◌, ◌⊎◌, ◌==◌, ◌&&◌, Bool, true, not, List, [], ◌∷◌, map, length, get_or, None, refl, sym, ◌∙◌, ap, subst, arith, inl, inr}
use Rattle.std.specs.List.{list_any}
use Rattle.std.proofs.lemmas.Bool.{cases_Bool, cases_lt, and_parts, eqb-true}
use Rattle.std.proofs.lemmas.List.{length-replicate}
use Rattle.object_graph.specs.NameParts.{NameParts}
use Rattle.object_graph.specs.SlotParts.{SlotParts}
use Rattle.object_graph.specs.Names.{root_name, name_eq}
use Rattle.object_graph.specs.ObjectParts.{ObjectParts}
use Rattle.object_graph.specs.Graphs.{has_name, has_object, is_at, is_to, refers, objects_at, IsPath, IsReachedFrom}
use Rattle.object_graph.specs.Slots.{below}
use Rattle.object_graph.proofs.Members.{In, any_in, in_any, in_filter, filter_in, in_map, map_in, each_in}
use Rattle.object_graph.proofs.Paths.{has_object_in, in_has_object, reached_more}
use Rattle.store_model.specs.Worlds.{World, slots_of, fields_of, starts, unfreed, is_freed, is_unfreed}
use Rattle.store_model.specs.Images.{no_slot, unfreed_at, slot_with, shown_slot, shown_of, shown, all_shown, objects_of}
use Rattle.store_model.specs.Lawful.{IsPlaced, HaveFields, CountsUp, IsOrderly, IsLawful}
use Rattle.store_model.specs.FromImages.{slot_in, objects_in_use, is_name_in_use, was_given, IsSlotWith, AreImagesOf, has_root, IsWhole}
use Rattle.store_model.proofs.Cuts.{below_bound}
use Rattle.store_model.proofs.Fields.{HasFields}
use Rattle.store_model.proofs.Flats.{in_flat, flat_in, length-map_below, get-map_below}
use Rattle.store_model.proofs.Lists.{in_below}
use Rattle.store_model.proofs.OutOfReach.{reached_unfreed}
use Rattle.store_model.proofs.Places.{generation_of}
use Rattle.store_model.proofs.PlacedLists.{filter_nothing, inside}
use Rattle.store_model.proofs.Shown.{IsShown, one_each, last_at, in_shown, shows_object}
use Rattle.store_model.proofs.Given.{used_named, names_given, freed_given}

-- ---- paths in a part of a graph

module _ (part graph : List ObjectParts) (sub : (o : ObjectParts) → In o part → In o graph) where
  more_objects : (name : NameParts) → has_object part name ≡ true → has_object graph name ≡ true
  more_objects name h = let a = has_object_in part name h in subst (λ (n : NameParts). has_object graph n ≡ true) a.2 (in_has_object graph a.0 (sub a.0 a.1))

  pub more_refers : (from to : NameParts) → refers part from to ≡ true → refers graph from to ≡ true
  more_refers from to h =
      let test : ObjectParts → Bool = λ o. name_eq o.name from && list_any (is_to to) o.refs in
      let a = any_in test part h in
      in_any test graph a.0 (sub a.0 a.1) a.2

  more_path : (first : NameParts) (rest : List NameParts) (last : NameParts) → IsPath part first rest last → IsPath graph first rest last
  more_path first [] last p = (p.0, more_objects first p.1)
  more_path first (next ∷ rest) last p = (more_refers first next p.0, more_objects first p.1, more_path next rest last p.2)

  pub more_reached : (starts : List NameParts) (name : NameParts) → IsReachedFrom part starts name → IsReachedFrom graph starts name
  more_reached starts name r = (r.0, r.1, (r.2.0, more_path r.0 r.2.0 name r.2.1))

-- ---- the objects in use

pub page_shown : (w : World) (page : ℕ) → page < w.pages → get_or (all_shown w) page [] ≡ shown w page
page_shown w page within = get-map_below (shown w) w.pages page [] within

pub used_shown : (w : World) (o : ObjectParts) → In o (objects_in_use (all_shown w)) → IsShown w.graph w.freed o.name.page o
used_shown w o m =
    let images : List (List SlotParts) = all_shown w in
    let a = in_flat (λ (page : ℕ). objects_of page (get_or images page [])) (below (length images)) o m in
    let page : ℕ = a.0 in
    let within : page < w.pages = subst (λ (n : ℕ). page < n) (length-map_below (shown w) w.pages) (below_bound (length images) page a.1) in
    let s = in_shown (slots_of w page) (fields_of w page) w.graph w.freed page o (subst (λ (image : List SlotParts). In o (objects_of page image)) (page_shown w page within) a.2) in
    subst (λ (n : ℕ). IsShown w.graph w.freed n o) (sym s.on) s

pub shown_used : (w : World) (o : ObjectParts) → IsOrderly w → In o w.graph → is_unfreed w.freed o ≡ true → In o (objects_in_use (all_shown w))
shown_used w o lawful there unfreed =
    let images : List (List SlotParts) = all_shown w in
    let page : ℕ = o.name.page in
    let at = each_in (λ (x : ObjectParts). IsPlaced w.pages (slots_of w) x.name) w.graph o lawful.placed there in
    let m = shows_object (slots_of w page) (fields_of w page) w.graph w.freed o (one_each w.graph w.freed lawful.counted lawful.last) there unfreed at.1 in
    let within : page < length images = subst (λ (n : ℕ). page < n) (sym (length-map_below (shown w) w.pages)) at.0 in
    flat_in (λ (page : ℕ). objects_of page (get_or images page [])) (below (length images)) page o (in_below (length images) page within)
    (subst (λ (image : List SlotParts). In o (objects_of page image)) (sym (page_shown w page at.0)) m)

pub unfreed_are_shown : (w : World) (o : ObjectParts) → IsOrderly w → In o (unfreed w) ↔ In o (objects_in_use (all_shown w))
unfreed_are_shown w o lawful = (
  λ m. let a = in_filter (is_unfreed w.freed) w.graph o m in shown_used w o lawful a.0 a.1,
  λ m. let s = used_shown w o m in filter_in (is_unfreed w.freed) w.graph o s.there s.unfreed,
)

pub name_used : (w : World) (name : NameParts) → IsOrderly w → has_object w.graph name ≡ true → not (is_freed w name) ≡ true → has_object (objects_in_use (all_shown w)) name ≡ true
name_used w name lawful there unfreed =
    let a = has_object_in w.graph name there in
    let u : is_unfreed w.freed a.0 ≡ true = subst (λ (n : NameParts). not (has_name w.freed n) ≡ true) (sym a.2) unfreed in
    subst (λ (n : NameParts). has_object (objects_in_use (all_shown w)) n ≡ true) a.2 (in_has_object (objects_in_use (all_shown w)) a.0 (shown_used w a.0 lawful a.1 u))

pub shows_root : (w : World) → IsOrderly w → has_root (all_shown w) ≡ true
shows_root w lawful =
    let r = and_parts (has_object w.graph root_name) (not (is_freed w root_name)) lawful.root in
    used_named (all_shown w) root_name (name_used w root_name lawful r.0 r.1)

pub shows_whole : (w : World) → IsLawful w → IsWhole (all_shown w)
shows_whole w lawful = λ name target reached refers_to.
    let used : List ObjectParts = objects_in_use (all_shown w) in
    let sub : (o : ObjectParts) → In o used → In o w.graph = λ o m. (used_shown w o m).there in
    let r = more_reached used w.graph sub (root_name ∷ []) name reached in
    let step = more_refers used w.graph sub name target refers_to in
    let there = lawful.orderly.whole name target r step in
    name_used w target lawful.orderly there (reached_unfreed w target lawful.freed (reached_more w.graph (root_name ∷ []) name target r step there))

-- ---- each image

pub slot_shown : (w : World) (page slot : ℕ) → page < w.pages → slot < slots_of w page → slot_in (all_shown w) page slot ≡ shown_slot (fields_of w page) w.graph w.freed page slot
unfolding shown_of
slot_shown w page slot p s =
    ap (λ (image : List SlotParts). get_or image slot no_slot) (page_shown w page p)
    ∙ get-map_below (shown_slot (fields_of w page) w.graph w.freed page) (slots_of w page) slot no_slot s

pub length_shown : (w : World) (page : ℕ) → length (shown w page) ≡ slots_of w page
unfolding shown_of
length_shown w page = length-map_below (shown_slot (fields_of w page) w.graph w.freed page) (slots_of w page)

-- what is known of the unfreed objects of a place
record IsNamed (fields : ℕ) (o : ObjectParts) : Type 0 where
  some : 0 < o.name.generation
  width : length o.refs ≡ fields

slot_right : (fields names : ℕ) (os : List ObjectParts) → ((o : ObjectParts) → In o os → IsNamed fields o) → IsSlotWith fields (slot_with fields os names)
slot_right fields names [] h = record { named = λ e. absurd cc; number = λ e. refl; refs = λ e. refl; width = length-replicate fields None }
slot_right fields names (o ∷ os) h =
    let a = h o (inl refl) in
    record { named = λ e. a.some; number = λ e. absurd cc; refs = λ e. absurd cc; width = a.width }

generation_some : (graph : List ObjectParts) (page slot : ℕ) (o : ObjectParts) → CountsUp graph → In o (objects_at graph page slot) → 0 < o.name.generation
generation_some graph page slot o counts m =
    let g : In o.name.generation (map suc (below (length (objects_at graph page slot)))) =
    subst (λ (l : List ℕ). In o.name.generation l) (counts page slot) (map_in generation_of (objects_at graph page slot) o m) in
    let a = in_map suc (below (length (objects_at graph page slot))) o.name.generation g in
    let e : o.name.generation ≡ suc a.0 = a.2 in
    omega (arith, e)

named_at : (w : World) (page slot : ℕ) (o : ObjectParts) → IsOrderly w → HaveFields (fields_of w) w.graph → In o (unfreed_at w.graph w.freed page slot) → IsNamed (fields_of w page) o
named_at w page slot o lawful fields m =
    let a = in_filter (is_unfreed w.freed) (objects_at w.graph page slot) o m in
    let b = in_filter (λ (x : ObjectParts). is_at page slot x.name) w.graph o a.0 in
    let on : o.name.page ≡ page = eqb-true o.name.page page (and_parts (o.name.page == page) (o.name.slot == slot) b.1).0 in
    record { some = generation_some w.graph page slot o lawful.counted a.0; width = each_in (HasFields (fields_of w)) w.graph o fields b.0 ∙ ap (fields_of w) on }

pub shows_images : (w : World) → IsOrderly w → HaveFields (fields_of w) w.graph → AreImagesOf (slots_of w) (fields_of w) (all_shown w)
shows_images w lawful fields =
    let count = length-map_below (shown w) w.pages in
    record {
      count = λ page within. ap length (page_shown w page (subst (λ (n : ℕ). page < n) count within)) ∙ length_shown w page;
      slots = λ page slot within s.
          subst (IsSlotWith (fields_of w page)) (sym (slot_shown w page slot (subst (λ (n : ℕ). page < n) count within) s))
          (slot_right (fields_of w page) (length (objects_at w.graph page slot)) (unfreed_at w.graph w.freed page slot) (λ o m. named_at w page slot o lawful fields m));
    }

-- ---- the names

slot_generation : (fields names : ℕ) (os : List ObjectParts) → ((o : ObjectParts) → In o os → o.name.generation ≡ names) → (slot_with fields os names).generation ≡ names
slot_generation fields names [] h = refl
slot_generation fields names (o ∷ os) h = h o (inl refl)

-- a place that isn't of the store has no names
none_past : (w : World) (page slot : ℕ) → IsOrderly w → ¬ ((page < w.pages) × (slot < slots_of w page)) → objects_at w.graph page slot ≡ []
none_past w page slot lawful past = filter_nothing (λ (o : ObjectParts). is_at page slot o.name) w.graph (λ o m. elim (cases_Bool (is_at page slot o.name)) [
  | inr e ↦ e
  | inl e ↦
      let placed = each_in (λ (o : ObjectParts). IsPlaced w.pages (slots_of w) o.name) w.graph o lawful.placed m in
      let at = and_parts (o.name.page == page) (o.name.slot == slot) e in
      let p = eqb-true o.name.page page at.0 in
      let s = eqb-true o.name.slot slot at.1 in
      absurd (past (subst (λ (n : ℕ). n < w.pages) p placed.0, subst (λ (n : ℕ). n < slots_of w page) s (subst (λ (n : ℕ). o.name.slot < slots_of w n) p placed.1)))
])

stored_past : (w : World) (page slot : ℕ) → IsOrderly w → ¬ ((page < w.pages) × (slot < slots_of w page)) → (slot_in (all_shown w) page slot).generation ≡ length (objects_at w.graph page slot)
stored_past w page slot lawful past = zero_generation (slot_in (all_shown w) page slot).generation refl ∙ sym (ap length (none_past w page slot lawful past))
  where
    zero_generation : (n : ℕ) → (slot_in (all_shown w) page slot).generation ≡ n → n ≡ 0
    zero_generation zero e = refl
    zero_generation (suc n) e =
        let in_bounds = inside (all_shown w) page slot (omega (arith, e)) in
        let p : page < w.pages = subst (λ (n : ℕ). page < n) (length-map_below (shown w) w.pages) in_bounds.0 in
        absurd (past (p, subst (λ (n : ℕ). slot < n) (ap length (page_shown w page p) ∙ length_shown w page) in_bounds.1))

-- the stored generation of a place is the number of its names
pub stored_is : (w : World) (page slot : ℕ) → IsOrderly w → (slot_in (all_shown w) page slot).generation ≡ length (objects_at w.graph page slot)
stored_is w page slot lawful = by_bounds (cases_lt page w.pages) (cases_lt slot (slots_of w page))
  where
    by_bounds : (page < w.pages) ⊎ (w.pages ≤ page) → (slot < slots_of w page) ⊎ (slots_of w page ≤ slot) → (slot_in (all_shown w) page slot).generation ≡ length (objects_at w.graph page slot)
    by_bounds (inl p) (inl s) =
        ap (λ (s : SlotParts). s.generation) (slot_shown w page slot p s)
        ∙ slot_generation (fields_of w page) (length (objects_at w.graph page slot)) (unfreed_at w.graph w.freed page slot) (λ o m. last_at w.graph w.freed page slot o lawful.last m)
    by_bounds (inl p) (inr s) = stored_past w page slot lawful (λ h. omega (arith, h.1, s))
    by_bounds (inr p) s = stored_past w page slot lawful (λ h. omega (arith, h.0, p))

pub names_are_given : (w : World) (name : NameParts) → IsOrderly w → has_object w.graph name ≡ was_given (all_shown w) name
names_are_given w name lawful = names_given w.graph (all_shown w) lawful.counted (λ page slot. stored_is w page slot lawful) name

pub freed_are_shown_unused : (w : World) (name : NameParts) → IsOrderly w → is_freed w name ≡ (was_given (all_shown w) name && not (is_name_in_use (all_shown w) name))
freed_are_shown_unused w name lawful =
    freed_given w.graph w.freed (all_shown w) (λ name. names_are_given w name lawful) lawful.freed_there (λ o. unfreed_are_shown w o lawful) name
