-- Whether a reference dangles, as the walk tells it.
use Rattle.std.proofs.Common.{◌≡◌, ℕ, suc, Bool, true, false, List, [], ◌∷◌, Option, Some, None, refl, sym, ap, subst, inl, inr}
use Rattle.std.specs.Prelude.{slice_get}
use Rattle.object_graph.specs.NameParts.{NameParts}
use Rattle.object_graph.specs.SlotParts.{SlotParts}
use Rattle.object_graph.specs.Graphs.{is_to}
use Rattle.object_graph.proofs.Members.{In, any_in}
use Rattle.object_graph.proofs.Paths.{is_to_same}
use Rattle.store_model.specs.FromImages.{slot_in, is_name_in_use, has_root}
use Rattle.store_model.proofs.Given.{named_used}
use Rattle.image_model.specs.Stores.{IsRooted, IsFirstDangling, DanglesAt, reference_place}
use Rattle.recovery.specs.Marks.{IsUpTo, IsLeastDangling}
use Rattle.recovery.proofs.UsedNames.{refers_slot}

in_get : {A : Type 0} (x : A) (xs : List A) → In x xs → (i : ℕ) × (slice_get xs i ≡ Some x)
in_get x [] m = absurd m
in_get {A} x (y ∷ ys) (inl e) = (0, ap (λ (z : A). let o : Option A = Some z in o) (sym e))
in_get x (y ∷ ys) (inr m) = let a = in_get x ys m in (suc a.0, a.1)

-- nothing dangles
pub none_dangle : (images : List (List SlotParts)) → has_root images ≡ true → IsLeastDangling images None → IsRooted images
none_dangle images root none = record {
  root = root;
  whole = λ name target reached refers_to.
      let s : SlotParts = slot_in images name.page name.slot in
      let ref = any_in (is_to target) s.refs (refers_slot images name target refers_to) in
      let is : In (Some target) s.refs = subst (λ (r : Option NameParts). In r s.refs) (is_to_same target ref.0 ref.2) ref.1 in
      let field = in_get (Some target) s.refs is in
      let missed : is_name_in_use images target ≡ false → ⊥ = λ missing.
      let d : DanglesAt images (reference_place name field.0) = record { from = name; field = field.0; target = target; reached = reached; refers = field.1; missing = missing; place = refl } in
      none.first (reference_place name field.0) d in
      named_used images target (by_test (is_name_in_use images target) missed);
}
  where
    by_test : (b : Bool) → (b ≡ false → ⊥) → b ≡ true
    by_test true h = refl
    by_test false h = absurd (h refl)

-- this reference does, and none before it
pub first_dangles : (images : List (List SlotParts)) (least : Option ℕ) (at : ℕ) → least ≡ Some at → IsLeastDangling images least → IsFirstDangling images at
first_dangles images least at is h = record {
  dangles = h.dangles at is;
  least = λ other d. let P : Option ℕ → Type 0 = λ o. IsUpTo o other in subst P is (h.first other d);
}
