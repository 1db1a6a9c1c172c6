-- What a commit leaves of the images of pages.
use Rattle.std.proofs.Common.{◌≡◌, ℕ, Bool, true, false, ◌==◌, cond, List, [], ◌∷◌, ◌++◌, map, length, refl, sym, subst, ap, ◌∙◌, inl, inr, append-nil}
use Rattle.std.specs.List.{filter, AllByRecursion}
use Rattle.std.proofs.lemmas.Bool.{and_parts, cases_Bool, eqb-true}
use Rattle.std.proofs.lemmas.List.Elements.{filter-append}
use Rattle.object_graph.specs.NameParts.{NameParts}
use Rattle.object_graph.specs.ObjectParts.{ObjectParts}
use Rattle.object_graph.specs.Graphs.{is_at, objects_at}
use Rattle.store_model.specs.Worlds.{World, Transaction, view, with_writes, new_object, is_unfreed}
use Rattle.store_model.specs.Images.{shown_slot, slot_with}
use Rattle.store_model.specs.Causes.{has_page}
use Rattle.store_model.specs.Lawful.{IsKnownWrite}
use Rattle.store_model.proofs.Locks.{writes_away}
use Rattle.store_model.proofs.Reach.{name-with_writes}

pub cond_false : {A : Type 0} (b : Bool) (x y : A) → b ≡ false → cond b x y ≡ y
cond_false b x y e = rw e refl

-- writes on other pages leave the objects of a place
pub objects_away : (t : Transaction) (graph : List ObjectParts) (page slot : ℕ) → AllByRecursion (IsKnownWrite t) t.writes
    → has_page t.pages_written page ≡ false → objects_at (map (with_writes t.writes) graph) page slot ≡ objects_at graph page slot
objects_away t [] page slot known away = refl
objects_away t (o ∷ os) page slot known away = elim (cases_Bool (is_at page slot o.name)) [
  | inl at ↦
      let p = eqb-true o.name.page page (and_parts (o.name.page == page) (o.name.slot == slot) at).0 in
      let still : with_writes t.writes o ≡ o =
      writes_away t t.writes o known (subst (λ k. has_page t.pages_written k ≡ false) (sym p) away) in
      ap (λ (x : ObjectParts). cond (is_at page slot x.name) (x ∷ objects_at (map (with_writes t.writes) os) page slot) (objects_at (map (with_writes t.writes) os) page slot)) still
      ∙ ap (λ xs. cond (is_at page slot o.name) (o ∷ xs) xs) (objects_away t os page slot known away)
  | inr off ↦
      let seen_off : is_at page slot (with_writes t.writes o).name ≡ false = subst (λ n. is_at page slot n ≡ false) (sym (name-with_writes t.writes o)) off in
      let rest : List ObjectParts = objects_at (map (with_writes t.writes) os) page slot in
      cond_false (is_at page slot (with_writes t.writes o).name) (with_writes t.writes o ∷ rest) rest seen_off
      ∙ (objects_away t os page slot known away
      ∙ sym (cond_false (is_at page slot o.name) (o ∷ objects_at os page slot) (objects_at os page slot) off))
]

pub none_new : (w : World) (t : Transaction) (names : List NameParts) (page slot : ℕ) → AllByRecursion (λ n. has_page t.pages_written n.page ≡ true) names
    → has_page t.pages_written page ≡ false → objects_at (map (new_object w) names) page slot ≡ []
none_new w t [] page slot own away = refl
none_new w t (n ∷ ns) page slot own away = elim (cases_Bool (is_at page slot n)) [
  | inl at ↦
      let p = eqb-true n.page page (and_parts (n.page == page) (n.slot == slot) at).0 in
      let z : has_page t.pages_written page ≡ true = subst (λ k. has_page t.pages_written k ≡ true) p own.0 in cc
  | inr off ↦
      cond_false (is_at page slot n) (new_object w n ∷ objects_at (map (new_object w) ns) page slot) (objects_at (map (new_object w) ns) page slot) off
      ∙ none_new w t ns page slot own.1 away
]

-- a commit leaves the image of each page that it didn't write
pub commit_keeps_slot : (w : World) (t : Transaction) (fields page slot : ℕ) → AllByRecursion (IsKnownWrite t) t.writes
    → AllByRecursion (λ n. has_page t.pages_written n.page ≡ true) t.own → has_page t.pages_written page ≡ false
    → shown_slot fields (view w t) w.freed page slot ≡ shown_slot fields w.graph w.freed page slot
commit_keeps_slot w t fields page slot known own away =
    ap (λ os. slot_with fields (filter (is_unfreed w.freed) os) (length os))
    (objects_away t (w.graph ++ map (new_object w) t.own) page slot known away
    ∙ (filter-append (λ o. is_at page slot o.name) w.graph (map (new_object w) t.own)
    ∙ (ap (λ os. objects_at w.graph page slot ++ os) (none_new w t t.own page slot own away)
    ∙ append-nil (objects_at w.graph page slot))))
