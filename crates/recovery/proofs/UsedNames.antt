-- Names in use, and what their objects refer to.
use Rattle.std.proofs.Common.{◌≡◌, ℕ, ◌<◌, ◌==◌, ◌&&◌, true, false, List, [], length, get_or, Option, refl, sym, ◌∙◌, ap, inl, inr}
use Rattle.std.specs.List.{list_any}
use Rattle.std.proofs.lemmas.Bool.{cases_lt, and_parts, and_from, eq-eqb, eqb-true}
use Rattle.std.proofs.lemmas.List.{get_or_past}
use Rattle.object_graph.specs.NameParts.{NameParts}
use Rattle.object_graph.specs.Names.{name_eq}
use Rattle.object_graph.specs.SlotParts.{SlotParts}
use Rattle.object_graph.specs.ObjectParts.{ObjectParts}
use Rattle.object_graph.specs.Graphs.{refers, is_to}
use Rattle.object_graph.proofs.Members.{In, any_in, in_any}
use Rattle.object_graph.proofs.Paths.{name_of, name_eq_same, name_eq_refl}
use Rattle.store_model.specs.Images.{no_slot, object_in, objects_in}
use Rattle.store_model.specs.FromImages.{slot_in, objects_in_use, is_name_in_use, is_in_use_under}
use Rattle.store_model.proofs.Flats.{in_objects_in, objects_in_in}
use Rattle.store_model.proofs.PlacedLists.{in_places, place_gives}

-- at a place there is one name in use
pub same_used : (images : List (List SlotParts)) (a b : NameParts) → is_name_in_use images a ≡ true → is_name_in_use images b ≡ true → a.page ≡ b.page → a.slot ≡ b.slot → a ≡ b
same_used images a b used_a used_b page slot =
    let pa = and_parts (slot_in images a.page a.slot).in_use ((slot_in images a.page a.slot).generation == a.generation) used_a in
    let pb = and_parts (slot_in images b.page b.slot).in_use ((slot_in images b.page b.slot).generation == b.generation) used_b in
    let ga : (slot_in images a.page a.slot).generation ≡ a.generation = eqb-true _ _ pa.1 in
    let gb : (slot_in images b.page b.slot).generation ≡ b.generation = eqb-true _ _ pb.1 in
    let same : slot_in images a.page a.slot ≡ slot_in images b.page b.slot = ap (λ (p : ℕ). slot_in images p a.slot) page ∙ ap (λ (s : ℕ). slot_in images b.page s) slot in
    let generation : a.generation ≡ b.generation = sym ga ∙ ap (λ (s : SlotParts). s.generation) same ∙ gb in
    name_eq_same a b (and_from (a.page == b.page) ((a.slot == b.slot) && (a.generation == b.generation)) (eq-eqb a.page b.page page)
    (and_from (a.slot == b.slot) (a.generation == b.generation) (eq-eqb a.slot b.slot slot) (eq-eqb a.generation b.generation generation)))

-- the object at the place of a name in use refers to what the slot there has
pub slot_refers : (images : List (List SlotParts)) (from to : NameParts) → is_name_in_use images from ≡ true → list_any (is_to to) (slot_in images from.page from.slot).refs ≡ true → refers (objects_in_use images) from to ≡ true
slot_refers images from to used there =
    let s : SlotParts = slot_in images from.page from.slot in
    let a = and_parts s.in_use (s.generation == from.generation) used in
    let o : ObjectParts = object_in from.page from.slot s in
    let m : In o (objects_in_use images) = place_gives objects_in (λ page slot. refl) images from.page from.slot o (objects_in_in from.page from.slot s a.0) in
    let named : o.name ≡ from = ap (name_of from.page from.slot) (eqb-true s.generation from.generation a.1) in
    in_any (λ (x : ObjectParts). name_eq x.name from && list_any (is_to to) x.refs) (objects_in_use images) o m
    (and_from (name_eq o.name from) (list_any (is_to to) s.refs) (ap (λ (n : NameParts). name_eq n from) named ∙ name_eq_refl from) there)

pub refers_slot : (images : List (List SlotParts)) (from to : NameParts) → refers (objects_in_use images) from to ≡ true → list_any (is_to to) (slot_in images from.page from.slot).refs ≡ true
refers_slot images from to h =
    let a = any_in (λ (x : ObjectParts). name_eq x.name from && list_any (is_to to) x.refs) (objects_in_use images) h in
    let b = and_parts (name_eq a.0.name from) (list_any (is_to to) a.0.refs) a.2 in
    let named : a.0.name ≡ from = name_eq_same a.0.name from b.0 in
    let p = in_places objects_in images a.0 a.1 in
    let d = in_objects_in p.page p.slot (slot_in images p.page p.slot) a.0 p.there in
    let page : p.page ≡ from.page = sym (ap (λ (x : ObjectParts). x.name.page) d.1) ∙ ap (λ (n : NameParts). n.page) named in
    let slot : p.slot ≡ from.slot = sym (ap (λ (x : ObjectParts). x.name.slot) d.1) ∙ ap (λ (n : NameParts). n.slot) named in
    let refs : a.0.refs ≡ (slot_in images from.page from.slot).refs =
    ap (λ (x : ObjectParts). x.refs) d.1 ∙ ap (λ (k : ℕ). (slot_in images k p.slot).refs) page ∙ ap (λ (k : ℕ). (slot_in images from.page k).refs) slot in
    ap (λ (l : List (Option NameParts)). list_any (is_to to) l) (sym refs) ∙ b.1

-- a name in use stands on a page of the images
pub used_within : (images : List (List SlotParts)) (name : NameParts) → is_name_in_use images name ≡ true → name.page < length images
used_within images name used = elim (cases_lt name.page (length images)) [
  | inl lt ↦ lt
  | inr le ↦
      let nothing : get_or images name.page [] ≡ [] = get_or_past images name.page [] le in
      let wrong : is_in_use_under (slot_in images name.page name.slot) name.generation ≡ false = ap (λ (l : List SlotParts). is_in_use_under (get_or l name.slot no_slot) name.generation) nothing in
      absurd (cc (used, wrong))
]
