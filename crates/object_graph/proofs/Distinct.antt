-- Graphs that have each name once.
use Rattle.std.proofs.Common.{◌≡◌, ℕ, Bool, true, false, List, [], ◌∷◌, ◌++◌, map, refl, sym, subst, ap, ◌∙◌, cond, Option}
use Rattle.std.specs.List.{list_any, IsDistinct, AllByRecursion, slice_set}
use Rattle.std.specs.Cmp.{IsEquivalence}
use Rattle.std.proofs.lemmas.Map.Keys.{IsDistinct-push}
use Rattle.object_graph.specs.NameParts.{NameParts}
use Rattle.object_graph.specs.Names.{name_eq}
use Rattle.object_graph.specs.Graphs.{has_object, has_same_name, HasEachNameOnce, with_number, with_ref}
use Rattle.object_graph.specs.ObjectParts.{ObjectParts}
use Rattle.object_graph.proofs.Paths.{name_eq_same, name_eq_refl}

name_eq_true_flips : (a b : NameParts) → name_eq a b ≡ true → name_eq b a ≡ true
name_eq_true_flips a b h = subst (λ n. name_eq n a ≡ true) (name_eq_same a b h) (name_eq_refl a)

same_tests : (p q : Bool) → (p ≡ true → q ≡ true) → (q ≡ true → p ≡ true) → p ≡ q
same_tests true q f g = sym (f refl)
same_tests false true f g = g refl
same_tests false false f g = refl

pub name_eq_flips : (a b : NameParts) → name_eq a b ≡ name_eq b a
name_eq_flips a b = same_tests (name_eq a b) (name_eq b a) (name_eq_true_flips a b) (name_eq_true_flips b a)

pub same_name_flips : (a b : ObjectParts) → has_same_name a b ≡ has_same_name b a
same_name_flips a b = name_eq_flips a.name b.name

pub same_name_laws : IsEquivalence has_same_name
same_name_laws = record {
  refl = λ a. name_eq_refl a.name;
  symm = same_name_flips;
  congr = λ a b c h. ap (λ n. name_eq n c.name) (name_eq_same a.name b.name h);
}

all_kept : (f : ObjectParts → ObjectParts) → ((o : ObjectParts) → (f o).name ≡ o.name) → (x : ObjectParts) (ys : List ObjectParts)
    → AllByRecursion (λ y. has_same_name x y ≡ false) ys → AllByRecursion (λ y. has_same_name (f x) y ≡ false) (map f ys)
all_kept f keeps x [] h = tt
all_kept f keeps x (y ∷ ys) h =
    (ap (λ n. name_eq n (f y).name) (keeps x) ∙ (ap (λ n. name_eq x.name n) (keeps y) ∙ h.0), all_kept f keeps x ys h.1)

-- a change of the objects that keeps each name
pub once_mapped : (f : ObjectParts → ObjectParts) → ((o : ObjectParts) → (f o).name ≡ o.name) → (graph : List ObjectParts)
    → HasEachNameOnce graph → HasEachNameOnce (map f graph)
unfolding IsDistinct
once_mapped f keeps [] h = tt
once_mapped f keeps (x ∷ xs) h = (all_kept f keeps x xs h.0, once_mapped f keeps xs h.1)

cond_name : (b : Bool) (x o : ObjectParts) → x.name ≡ o.name → (cond b x o).name ≡ o.name
cond_name true x o e = e
cond_name false x o e = refl

pub once_put : (name : NameParts) (number : ℕ) (graph : List ObjectParts) → HasEachNameOnce graph → HasEachNameOnce (map (with_number name number) graph)
once_put name number = once_mapped (with_number name number) (λ o. cond_name (name_eq o.name name) (record o { number = number }) o refl)

pub once_linked : (name : NameParts) (field : ℕ) (target : Option NameParts) (graph : List ObjectParts)
    → HasEachNameOnce graph → HasEachNameOnce (map (with_ref name field target) graph)
once_linked name field target =
    once_mapped (with_ref name field target) (λ o. cond_name (name_eq o.name name) (record o { refs = slice_set o.refs field target }) o refl)

any_flips : (name : NameParts) (graph : List ObjectParts) → list_any (λ o. name_eq name o.name) graph ≡ has_object graph name
any_flips name [] = refl
any_flips name (o ∷ os) = rw (name_eq_flips name o.name, any_flips name os) refl

-- an object of a new name at the end
pub once_added : (o : ObjectParts) (graph : List ObjectParts) → HasEachNameOnce graph → has_object graph o.name ≡ false → HasEachNameOnce (graph ++ o ∷ [])
once_added o graph h new = IsDistinct-push same_name_laws graph o h (any_flips o.name graph ∙ new)
