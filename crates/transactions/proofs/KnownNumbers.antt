-- Names kept by their numbers.
use Rattle.std.proofs.Common.{◌≡◌, ℕ, Bool, true, false, ◌||◌, List, [], ◌∷◌, ◌++◌, map, nat_eq, refl, sym, ◌∙◌, ap, inl, inr, if◌then◌else◌}
use Rattle.std.specs.List.{AllByRecursion, list_any}
use Rattle.std.proofs.lemmas.Bool.{cases_Bool, eq-eqb, eqb-true}
use Rattle.std.proofs.lemmas.List.{map-append}
use Rattle.object_graph.specs.NameParts.{NameParts, IsName}
use Rattle.object_graph.specs.Names.{number_of, name_eq}
use Rattle.object_graph.specs.Graphs.{has_name}
use Rattle.object_graph.proofs.Paths.{name_eq_same, name_eq_refl}
use Rattle.page_image.specs.Fields.{numbered_name}
use Rattle.page_image.proofs.Again.{name_again}
use Rattle.indexmap.specs.IndexSet.{insert_key}
use Rattle.transactions.specs.KnownNumbers.{IsOfName}

-- the number of a name is that of a name
pub is_of_name : (n : NameParts) → IsName n → IsOfName (number_of n)
is_of_name n h = ap number_of (name_again n h)

-- two numbers of names are the same where the names are
same_test : (n : NameParts) (k : ℕ) → IsName n → IsOfName k → nat_eq (number_of n) k ≡ name_eq (numbered_name k) n
same_test n k h kept = elim (cases_Bool (name_eq (numbered_name k) n)) [
  | inl same ↦ eq-eqb (number_of n) k (sym (ap number_of (name_eq_same (numbered_name k) n same)) ∙ kept) ∙ sym same
  | inr other ↦ elim (cases_Bool (nat_eq (number_of n) k)) [
    | inr differ ↦ differ ∙ sym other
    | inl same ↦
        let names : numbered_name k ≡ n = ap numbered_name (sym (eqb-true (number_of n) k same)) ∙ name_again n h in
        let found : name_eq (numbered_name k) n ≡ true = ap (λ (m : NameParts). name_eq m n) names ∙ name_eq_refl n in
        absurd cc
  ]
]

-- a look-up by the number is one by the name
pub known_by_number : (numbers : List ℕ) (n : NameParts) → IsName n → AllByRecursion IsOfName numbers → list_any (nat_eq (number_of n)) numbers ≡ has_name (map numbered_name numbers) n
known_by_number [] n h kept = refl
known_by_number (k ∷ ks) n h kept = λ i. same_test n k h kept.0 i || known_by_number ks n h kept.1 i

-- one number more is one name more
pub names_more : (numbers : List ℕ) (n : NameParts) → IsName n → map numbered_name (numbers ++ number_of n ∷ []) ≡ map numbered_name numbers ++ n ∷ []
names_more numbers n h = map-append numbered_name numbers (number_of n ∷ []) ∙ ap (λ (m : NameParts). map numbered_name numbers ++ m ∷ []) (name_again n h)

pub kept_more : (numbers : List ℕ) (n : NameParts) → IsName n → AllByRecursion IsOfName numbers → AllByRecursion IsOfName (numbers ++ number_of n ∷ [])
kept_more [] n h kept = (is_of_name n h, tt)
kept_more (k ∷ ks) n h kept = (kept.0, kept_more ks n h kept.1)

-- a name that isn't known goes last
pub inserted : (numbers : List ℕ) (n : NameParts) → IsName n → AllByRecursion IsOfName numbers → has_name (map numbered_name numbers) n ≡ false → insert_key nat_eq numbers (number_of n) ≡ numbers ++ number_of n ∷ []
inserted numbers n h kept absent = ap (λ (b : Bool). if b then numbers else numbers ++ number_of n ∷ []) (known_by_number numbers n h kept ∙ absent)
