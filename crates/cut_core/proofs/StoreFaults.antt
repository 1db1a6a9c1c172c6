-- A store has no fault.
use Rattle.std.proofs.Common.{◌≡◌, ℕ, zero, suc, true, false, List, [], ◌∷◌, Some, sym, subst, ◌∙◌, inl, inr, ⊎_elim}
use Rattle.std.specs.List.{slice_get}
use Rattle.object_graph.specs.SlotParts.{SlotParts}
use Rattle.object_graph.specs.Graphs.{is_to, has_object}
use Rattle.object_graph.proofs.Members.{In, in_any}
use Rattle.object_graph.proofs.Paths.{name_eq_refl}
use Rattle.store_model.specs.FromImages.{slot_in, objects_in_use, is_name_in_use, has_root}
use Rattle.store_model.proofs.Committed.{path_last}
use Rattle.store_model.proofs.Given.{used_named}
use Rattle.recovery.proofs.UsedNames.{slot_refers}
use Rattle.image_model.specs.Opening.{StoreParts, Fault, store_images}
use Rattle.image_model.specs.Stores.{IsStore, IsRooted, DanglesAt, HasFaultAt, HasFault, HoldsFault}

get_in : {A : Type 0} (xs : List A) (i : ℕ) (x : A) → slice_get xs i ≡ Some x → In x xs
get_in [] i x is = absurd cc
get_in (y ∷ ys) zero x is = inl (let same : x ≡ y = cc in same)
get_in (y ∷ ys) (suc i) x is = inr (get_in ys i x is)

none_dangles : (images : List (List SlotParts)) (at : ℕ) → IsRooted images → DanglesAt images at → ⊥
none_dangles images at rooted d =
    let used = used_named images d.from (path_last (objects_in_use images) d.reached.0 d.reached.2.0 d.from d.reached.2.1) in
    let refs = (slot_in images d.from.page d.from.slot).refs in
    let to = in_any (is_to d.target) refs (Some d.target) (get_in refs d.field (Some d.target) d.refers) (name_eq_refl d.target) in
    let there : has_object (objects_in_use images) d.target ≡ true = rooted.whole d.from d.target d.reached (slot_refers images d.from d.target used to) in
    let in_use : is_name_in_use images d.target ≡ true = used_named images d.target there in
    let bad : true ≡ false = sym in_use ∙ d.missing in
    cc

rooted_clean : (images : List (List SlotParts)) (at : ℕ) → IsRooted images → HasFaultAt images at → ⊥
rooted_clean images at rooted fault =
    ⊎_elim
    (λ none. let root : has_root images ≡ true = rooted.root in let bad : true ≡ false = sym root ∙ none.none in cc)
    (λ dangling. none_dangles images at rooted dangling.first.dangles) fault

-- a file that is a store has no fault
pub store_has_none : (file : List ℕ) (held : StoreParts) (fault : Fault) → IsStore file held → HasFault file fault → ⊥
store_has_none file held fault h has =
    ⊎_elim (λ closed. let e = sym h.opens ∙ closed in cc) (λ (holds : HoldsFault file fault). other holds (let e = sym h.opens ∙ holds.opens in cc)) has
  where
    other : (holds : HoldsFault file fault) → held ≡ holds.store → ⊥
    other holds same = rooted_clean (store_images holds.store) holds.at (subst (λ (p : StoreParts). IsRooted (store_images p)) same h.rooted) holds.there
