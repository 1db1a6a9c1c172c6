-- Texts of a word and numbers, each number after its separator: no two have one text.
use Rattle.std.proofs.Common.{◌≡◌, ℕ, ◌+◌, ◌*◌, ◌<◌, ◌≤◌, ◌^◌, ◌==◌, cond, List, [], ◌∷◌, ◌++◌, length, get_or, refl, sym, subst, ap, ◌∙◌, arith}
use Rattle.std.specs.List.{AllByRecursion}
use Rattle.std.specs.Prelude.{decimal}
use Rattle.std.specs.Str.Parse.{AllDigits}
use Rattle.std.proofs.lemmas.Fmt.{decimal_is_IsNumeral, decimal_injective}
use Rattle.std.proofs.lemmas.Str.Parse.{digit_from_value}
use Rattle.std.proofs.lemmas.List.{append_cancel_left}
use Rattle.store_model.specs.Texts.{AreShort}

-- ---- digits end where a separator stands

abbrev pub AreDigits : List ℕ → Type 0
AreDigits ds = AllByRecursion (λ c. 48 ≤ c) ds

-- nothing, or a separator first
abbrev pub StartsLow : List ℕ → Type 0
StartsLow [] = Unit {0}
StartsLow (c ∷ cs) = c < 48

from_digits : (ds : List ℕ) → AllDigits 10 ds → AreDigits ds
from_digits [] d = tt
from_digits (c ∷ cs) d = (omega (arith, digit_from_value c d.0), from_digits cs d.1)

pub decimal_digits : (n : ℕ) → n < 2 ^ 64 → AreDigits (decimal n)
decimal_digits n h = from_digits (decimal n) (decimal_is_IsNumeral n h).0.1

pub digits_then : (ds es xs ys : List ℕ) → AreDigits ds → AreDigits es → StartsLow xs → StartsLow ys → ds ++ xs ≡ es ++ ys → (ds ≡ es) × (xs ≡ ys)
digits_then [] [] xs ys d e x y same = (refl, same)
digits_then [] (c ∷ cs) xs ys d e x y same = let low : StartsLow (c ∷ (cs ++ ys)) = subst StartsLow same x in let high = e.0 in absurd (omega arith)
digits_then (c ∷ cs) [] xs ys d e x y same = let low : StartsLow (c ∷ (cs ++ xs)) = subst StartsLow (sym same) y in let high = d.0 in absurd (omega arith)
digits_then (c ∷ cs) (b ∷ bs) xs ys d e x y same =
    let first : c ≡ b = cc in
    let rest : cs ++ xs ≡ bs ++ ys = cc in
    let r = digits_then cs bs xs ys d.1 e.1 x y rest in
    (ap (λ k. k ∷ cs) first ∙ ap (λ ks. b ∷ ks) r.0, r.1)

-- ---- numbers after their separators

abbrev pub joined : List ℕ → List ℕ → List ℕ
joined [] ns = []
joined (s ∷ ss) [] = []
joined (s ∷ ss) (n ∷ ns) = s ∷ (decimal n ++ joined ss ns)

abbrev pub AreSeparators : List ℕ → Type 0
AreSeparators ss = AllByRecursion (λ s. s < 48) ss

joined_low : (ss ns : List ℕ) → AreSeparators ss → StartsLow (joined ss ns)
joined_low [] ns h = tt
joined_low (s ∷ ss) [] h = tt
joined_low (s ∷ ss) (n ∷ ns) h = h.0

joined_same : (ss ms ns : List ℕ) → AreSeparators ss → length ms ≡ length ss → length ns ≡ length ss → AreShort ms → AreShort ns → joined ss ms ≡ joined ss ns → ms ≡ ns
joined_same [] [] [] h p q a b e = refl
joined_same [] [] (n ∷ ns) h p q a b e = absurd (omega arith)
joined_same [] (m ∷ ms) ns h p q a b e = absurd (omega arith)
joined_same (s ∷ ss) [] ns h p q a b e = absurd (omega arith)
joined_same (s ∷ ss) (m ∷ ms) [] h p q a b e = absurd (omega arith)
joined_same (s ∷ ss) (m ∷ ms) (n ∷ ns) h p q a b e =
    let rest : decimal m ++ joined ss ms ≡ decimal n ++ joined ss ns = cc in
    let r = digits_then (decimal m) (decimal n) (joined ss ms) (joined ss ns) (decimal_digits m a.0) (decimal_digits n b.0) (joined_low ss ms h.1) (joined_low ss ns h.1) rest in
    ap (λ k. k ∷ ms) (decimal_injective m n a.0 b.0 r.0)
    ∙ ap (λ ks. n ∷ ks) (joined_same ss ms ns h.1 (omega arith) (omega arith) a.1 b.1 r.1)

-- ---- values that are spelled so

-- a value is told by its kind and its numbers, and its text by their word and separators; the kind is told by the text
pub record IsSpelled {A : Type 0} (text : A → List ℕ) (kind : A → ℕ) (numbers : A → List ℕ) (of : ℕ → List ℕ → A) (word seps : ℕ → List ℕ) (kind_in : List ℕ → ℕ) (x : A) : Type 0 where
  pub told : kind_in (text x) ≡ kind x
  pub is : text x ≡ word (kind x) ++ joined (seps (kind x)) (numbers x)
  pub all : length (numbers x) ≡ length (seps (kind x))
  pub low : AreSeparators (seps (kind x))
  pub again : of (kind x) (numbers x) ≡ x

pub spelled_same : {A : Type 0} (text : A → List ℕ) (kind : A → ℕ) (numbers : A → List ℕ) (of : ℕ → List ℕ → A) (word seps : ℕ → List ℕ) (kind_in : List ℕ → ℕ) (a b : A)
    → IsSpelled text kind numbers of word seps kind_in a → IsSpelled text kind numbers of word seps kind_in b
    → AreShort (numbers a) → AreShort (numbers b) → text a ≡ text b → a ≡ b
spelled_same text kind numbers of word seps kind_in a b x y p q e =
    let k : kind b ≡ kind a = sym y.told ∙ (ap kind_in (sym e) ∙ x.told) in
    let t : word (kind a) ++ joined (seps (kind a)) (numbers a) ≡ word (kind a) ++ joined (seps (kind a)) (numbers b) =
    sym x.is ∙ (e ∙ (y.is ∙ ap (λ n. word n ++ joined (seps n) (numbers b)) k)) in
    let j = append_cancel_left (word (kind a)) (joined (seps (kind a)) (numbers a)) (joined (seps (kind a)) (numbers b)) t in
    let n : numbers a ≡ numbers b = joined_same (seps (kind a)) (numbers a) (numbers b) x.low x.all (y.all ∙ ap (λ m. length (seps m)) k) p q j in
    sym x.again ∙ (ap (of (kind a)) n ∙ (ap (λ m. of m (numbers b)) (sym k) ∙ y.again))

-- ---- words by their letters

abbrev pub letter : List ℕ → ℕ → ℕ
letter text at = get_or text at 0

-- the first three letters as a number
abbrev pub front_of : List ℕ → ℕ
front_of text = (letter text 0 * 256 + letter text 1) * 256 + letter text 2

abbrev pub place_of : ℕ → List ℕ → ℕ
place_of n [] = 0
place_of n (m ∷ ms) = cond (n == m) 0 (1 + place_of n ms)

-- the word at a place of a list
abbrev pub word_in : List (List ℕ) → ℕ → List ℕ
word_in words at = get_or words at []
