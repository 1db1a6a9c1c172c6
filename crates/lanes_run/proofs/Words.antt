-- The word of the command.
use Rattle.std.proofs.Common.{◌≡◌, ap, ◌∙◌, sym, ℕ, List, [], ◌∷◌, Bool}
use Rattle.std.specs.Prelude.{IsTrue, ◌↔◌}
use Rattle.std.specs.Str.{bytes_eq}
use Rattle.std.proofs.lemmas.Slice.Eq.{bytes_eq-Decides}

one_is : (a b : List ℕ) → ◌≡◌ {A = List (List ℕ)} (a ∷ []) (b ∷ []) → a ≡ b
one_is a b e = cc

pub tells_word : (list : List (List ℕ)) (text word : List ℕ) (r : Bool) → list ≡ text ∷ [] → r ≡ bytes_eq text word → IsTrue r ↔ (list ≡ word ∷ [])
tells_word list text word r is e = (λ (t : IsTrue r). is ∙ ap (λ x. x ∷ []) ((bytes_eq-Decides text word).0 (sym e ∙ t)), λ (h : list ≡ word ∷ []). e ∙ (bytes_eq-Decides text word).1 (one_is text word (sym is ∙ h)))
