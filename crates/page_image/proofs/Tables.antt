-- The first wrong field of tables of fields.
use Rattle.std.proofs.Common.{◌≡◌, ℕ, zero, suc, ◌+◌, ◌<◌, ◌≤◌, ◌==◌, inl, inr, true, false, List, [], ◌∷◌, ◌++◌, Option, Some, None, Ok, map, refl, sym, ◌∙◌, ap, subst, arith}
use Rattle.std.specs.List.{flat_map}
use Rattle.std.specs.Prelude.{option_map}
use Rattle.std.proofs.lemmas.Grind.{flat_map-append}
use Rattle.std.proofs.lemmas.List.{append-nil}
use Rattle.std.proofs.lemmas.Bool.{cases_lt, eq-eqb, ne_eqb}
use Rattle.std.proofs.lemmas.List.Concat.{flat_map_single}
use Rattle.object_graph.specs.Slots.{below}
use Rattle.page_image.specs.Fields.{Field, first_wrong, slot_fields, fields_of_slot, slot_piece, slot_start, byte_at, zeros, header_fields, page_fields, page_of, page_or, page_at}
use Rattle.page_image.specs.Pages.{PageParts}
use Rattle.object_graph.specs.declared.sizes.TheConstants.{SLOTS_PER_PAGE}

-- where the first table is right, the second decides
pub first_wrong-after : (xs ys : List Field) → first_wrong xs ≡ None → first_wrong (xs ++ ys) ≡ first_wrong ys
first_wrong-after [] ys is = refl
first_wrong-after ((at, true) ∷ xs) ys is = first_wrong-after xs ys is
first_wrong-after ((at, false) ∷ xs) ys is = absurd (cc is)

-- where the first table has a wrong field, it decides
pub first_wrong-before : (xs ys : List Field) (at : ℕ) → first_wrong xs ≡ Some at → first_wrong (xs ++ ys) ≡ Some at
first_wrong-before [] ys at is = absurd (cc is)
first_wrong-before ((a, true) ∷ xs) ys at is = first_wrong-before xs ys at is
first_wrong-before ((a, false) ∷ xs) ys at is = is

-- where both are right, each is
pub first_wrong-front : (xs ys : List Field) → first_wrong (xs ++ ys) ≡ None → first_wrong xs ≡ None
first_wrong-front [] ys is = refl
first_wrong-front ((a, true) ∷ xs) ys is = first_wrong-front xs ys is
first_wrong-front ((a, false) ∷ xs) ys is = absurd (cc is)

pub first_wrong-back : (xs ys : List Field) → first_wrong (xs ++ ys) ≡ None → first_wrong ys ≡ None
first_wrong-back [] ys is = is
first_wrong-back ((a, true) ∷ xs) ys is = first_wrong-back xs ys is
first_wrong-back ((a, false) ∷ xs) ys is = absurd (cc is)

-- a table of one more place
pub flat_map-below : (g : ℕ → List Field) (n : ℕ) → flat_map g (below (suc n)) ≡ flat_map g (below n) ++ g n
flat_map-below g n = flat_map-append g (below n) (n ∷ []) ∙ ap (λ (l : List Field). flat_map g (below n) ++ l) (append-nil (g n))

-- the tables of all places below a number, one more, and one place of them
pub one_more_right : (g : ℕ → List Field) (n : ℕ) → first_wrong (flat_map g (below n)) ≡ None → first_wrong (g n) ≡ None → first_wrong (flat_map g (below (suc n))) ≡ None
one_more_right g n before now = ap first_wrong (flat_map-below g n) ∙ (first_wrong-after (flat_map g (below n)) (g n) before ∙ now)

pub one_wrong : (g : ℕ → List Field) (n at : ℕ) → first_wrong (flat_map g (below n)) ≡ None → first_wrong (g n) ≡ Some at → first_wrong (flat_map g (below (suc n))) ≡ Some at
one_wrong g n at before now = ap first_wrong (flat_map-below g n) ∙ (first_wrong-after (flat_map g (below n)) (g n) before ∙ now)

pub wrong_among : (g : ℕ → List Field) (m n at : ℕ) → n ≤ m → first_wrong (flat_map g (below n)) ≡ Some at → first_wrong (flat_map g (below m)) ≡ Some at
wrong_among g zero n at few is = let same : n ≡ zero = omega arith in subst (λ (k : ℕ). first_wrong (flat_map g (below k)) ≡ Some at) same is
wrong_among g (suc m) n at few is =
    elim (cases_lt m n) [
      | inl all ↦ let same : n ≡ suc m = omega (arith, all, few) in subst (λ (k : ℕ). first_wrong (flat_map g (below k)) ≡ Some at) same is
      | inr fewer ↦ ap first_wrong (flat_map-below g m) ∙ first_wrong-before (flat_map g (below m)) (g m) at (wrong_among g m n at fewer is)
    ]

pub right_at : (g : ℕ → List Field) (m n : ℕ) → n < m → first_wrong (flat_map g (below m)) ≡ None → first_wrong (g n) ≡ None
right_at g zero n among is = absurd (omega arith)
right_at g (suc m) n among is =
    elim (cases_lt n m) [
      | inl fewer ↦ right_at g m n fewer (first_wrong-front (flat_map g (below m)) (g m) (sym (ap first_wrong (flat_map-below g m)) ∙ is))
      | inr last ↦ let same : m ≡ n = omega (arith, last, among) in subst (λ (k : ℕ). first_wrong (g k) ≡ None) same (first_wrong-back (flat_map g (below m)) (g m) (sym (ap first_wrong (flat_map-below g m)) ∙ is))
    ]

-- a table that is moved
pub first_wrong-moved : (n : ℕ) (xs : List Field) → first_wrong (map (λ f. (n + f.0, f.1)) xs) ≡ option_map (λ at. n + at) (first_wrong xs)
first_wrong-moved n [] = refl
first_wrong-moved n ((a, true) ∷ xs) = first_wrong-moved n xs
first_wrong-moved n ((a, false) ∷ xs) = refl

-- one place more
pub below-more : (n : ℕ) → below (n + 1) ≡ below n ++ n ∷ []
below-more n = ap below (next n)
  where
    next : (n : ℕ) → n + 1 ≡ suc n
    next n = omega arith

-- the table of a slot that is right, or has a wrong field
pub slot_right-moved : (bytes : List ℕ) (slot : ℕ) → first_wrong (slot_fields (slot_piece bytes slot)) ≡ None → first_wrong (fields_of_slot bytes slot) ≡ None
slot_right-moved bytes slot is = first_wrong-moved (slot_start slot) (slot_fields (slot_piece bytes slot)) ∙ rw is refl

pub slot_wrong-moved : (bytes : List ℕ) (slot at : ℕ) → first_wrong (slot_fields (slot_piece bytes slot)) ≡ Some at → first_wrong (fields_of_slot bytes slot) ≡ Some (slot_start slot + at)
slot_wrong-moved bytes slot at is = first_wrong-moved (slot_start slot) (slot_fields (slot_piece bytes slot)) ∙ rw is refl

pub slot_right-back : (bytes : List ℕ) (slot : ℕ) → first_wrong (fields_of_slot bytes slot) ≡ None → first_wrong (slot_fields (slot_piece bytes slot)) ≡ None
slot_right-back bytes slot is = back (first_wrong (slot_fields (slot_piece bytes slot))) (sym (first_wrong-moved (slot_start slot) (slot_fields (slot_piece bytes slot))) ∙ is)
  where
    back : (o : Option ℕ) → option_map (λ at. slot_start slot + at) o ≡ None → o ≡ None
    back None e = refl
    back (Some at) e = absurd (cc e)

-- zero bytes, as tables of one field each
abbrev pub zero_field : List ℕ → ℕ → ℕ → List Field
zero_field bytes from i = (from + i, byte_at bytes (from + i) == 0) ∷ []

pub zeros-flat : (bytes : List ℕ) (from count : ℕ) → zeros bytes from count ≡ flat_map (zero_field bytes from) (below count)
zeros-flat bytes from count = sym (flat_map_single (λ i. (from + i, byte_at bytes (from + i) == 0)) (below count))

pub one_more_zero : (bytes : List ℕ) (from n : ℕ) → first_wrong (zeros bytes from n) ≡ None → byte_at bytes (from + n) ≡ 0 → first_wrong (zeros bytes from (n + 1)) ≡ None
one_more_zero bytes from n before is =
    let next : suc n ≡ n + 1 = omega arith in
    let now : first_wrong (zero_field bytes from n) ≡ None = rw (eq-eqb (byte_at bytes (from + n)) 0 is) refl in
    subst (λ (k : ℕ). first_wrong (zeros bytes from k) ≡ None) next
    (ap first_wrong (zeros-flat bytes from (suc n)) ∙ one_more_right (zero_field bytes from) n (sym (ap first_wrong (zeros-flat bytes from n)) ∙ before) now)

pub no_zero : (bytes : List ℕ) (from count n : ℕ) → n < count → first_wrong (zeros bytes from n) ≡ None → (byte_at bytes (from + n) ≡ 0 → ⊥) → first_wrong (zeros bytes from count) ≡ Some (from + n)
no_zero bytes from count n among before wrong =
    let now : first_wrong (zero_field bytes from n) ≡ Some (from + n) = rw (ne_eqb (byte_at bytes (from + n)) 0 wrong) refl in
    ap first_wrong (zeros-flat bytes from count)
    ∙ wrong_among (zero_field bytes from) count (suc n) (from + n) (omega (arith, among)) (one_wrong (zero_field bytes from) n (from + n) (sym (ap first_wrong (zeros-flat bytes from n)) ∙ before) now)

-- a page whose header and slots are right
pub page_at-right : (bytes : List ℕ) → first_wrong (header_fields bytes) ≡ None → first_wrong (flat_map (fields_of_slot bytes) (below SLOTS_PER_PAGE)) ≡ None → page_at bytes ≡ Ok (page_of bytes)
page_at-right bytes header is = ap (page_or (page_of bytes)) (first_wrong-after (header_fields bytes) (flat_map (fields_of_slot bytes) (below SLOTS_PER_PAGE)) header ∙ is)

-- what is right of a page that is read
pub record IsRead (bytes : List ℕ) (said : PageParts) : Type 0 where
  pub header : first_wrong (header_fields bytes) ≡ None
  pub slots : first_wrong (flat_map (fields_of_slot bytes) (below SLOTS_PER_PAGE)) ≡ None
  pub page : page_of bytes ≡ said

pub page_at-read : (bytes : List ℕ) (page : PageParts) → page_at bytes ≡ Ok page → IsRead bytes page
page_at-read bytes page is = by_first (first_wrong (page_fields bytes)) refl is
  where
    by_first : (first : Option ℕ) → first_wrong (page_fields bytes) ≡ first → page_or (page_of bytes) first ≡ Ok page → IsRead bytes page
    by_first None none e = record {
      header = first_wrong-front (header_fields bytes) (flat_map (fields_of_slot bytes) (below SLOTS_PER_PAGE)) none;
      slots = first_wrong-back (header_fields bytes) (flat_map (fields_of_slot bytes) (below SLOTS_PER_PAGE)) none;
      page = cc e;
    }
    by_first (Some at) none e = absurd (cc e)
