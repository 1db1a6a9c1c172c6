-- Fields that are right because words of bytes are zero.
use Rattle.std.proofs.Common.{◌≡◌, ℕ, zero, suc, ◌+◌, ◌*◌, ◌-◌, ◌/◌, ◌%◌, ◌<◌, ◌≤◌, inl, inr, Bool, true, false, not, ◌&&◌, ◌==◌, nat_lt, nat_le, List, [], ◌∷◌, None, take, drop, refl, sym, ◌∙◌, ap, subst, arith}
use Rattle.std.specs.Prelude.{slice_index}
use Rattle.std.specs.Int.{w16, w32, w64}
use Rattle.std.proofs.lemmas.Bool.{cases_lt, eq-eqb, ne_eqb, lt-ltb, le-leb, or_left, or_right}
use Rattle.std.proofs.lemmas.List.{get_or-take, get_or-drop}
use Rattle.object_graph.specs.declared.limits.TheConstants.{MOST_PAGES}
use Rattle.object_graph.specs.declared.names.TheConstants.{OBJECT_FIELDS}
use Rattle.object_graph.specs.declared.sizes.TheConstants.{SLOTS_PER_PAGE}
use Rattle.page_image.specs.Fields.{Field, first_wrong, header_fields, slot_fields, says_in_use, is_reference, is_name_number, number_in_bytes, byte_at, zeros}
use Rattle.page_image.proofs.Tables.{first_wrong-after, one_more_zero}
use Rattle.page_image.proofs.Right.{AreRight}

-- where each field of a table is right, none is wrong
pub none_wrong : (fields : List Field) → AreRight fields → first_wrong fields ≡ None
none_wrong [] are = refl
none_wrong ((at, true) ∷ fields) are = none_wrong fields are.1
none_wrong ((at, false) ∷ fields) are = absurd (cc are.0)

-- the bytes of a number that is zero
zero_sum_2 : (a b : ℕ) → a * 256 + b ≡ 0 → (a ≡ 0) × (b ≡ 0)
zero_sum_2 a b is = (omega (arith, is), omega (arith, is))

zero_sum_4 : (a b c d : ℕ) → a * 16777216 + b * 65536 + c * 256 + d ≡ 0 → (a ≡ 0) × ((b ≡ 0) × ((c ≡ 0) × (d ≡ 0)))
zero_sum_4 a b c d is = (omega (arith, is), (omega (arith, is), (omega (arith, is), omega (arith, is))))

zero_sum_8 : (a b c d e f g h : ℕ) → a * 72057594037927936 + b * 281474976710656 + c * 1099511627776 + d * 4294967296 + e * 16777216 + f * 65536 + g * 256 + h ≡ 0
    → (a ≡ 0) × ((b ≡ 0) × ((c ≡ 0) × ((d ≡ 0) × ((e ≡ 0) × ((f ≡ 0) × ((g ≡ 0) × (h ≡ 0)))))))
zero_sum_8 a b c d e f g h is = (omega (arith, is), (omega (arith, is), (omega (arith, is), (omega (arith, is), (omega (arith, is), (omega (arith, is), (omega (arith, is), omega (arith, is))))))))

in_part : (bytes : List ℕ) (at n i : ℕ) → i < n → slice_index (take n (drop at bytes)) i ≡ 0 → byte_at bytes (at + i) ≡ 0
in_part bytes at n i among is = sym (get_or-take n (drop at bytes) i 0 among ∙ get_or-drop at bytes i 0) ∙ is

pub zero_2 : (bytes : List ℕ) (at i : ℕ) → number_in_bytes w16 bytes at ≡ 0 → i < 2 → byte_at bytes (at + i) ≡ 0
zero_2 bytes at i is among = in_part bytes at 2 i among (each i among)
  where
    each : (i : ℕ) → i < 2 → slice_index (take 2 (drop at bytes)) i ≡ 0
    each zero among = (zero_sum_2 _ _ is).0
    each (suc zero) among = (zero_sum_2 _ _ is).1
    each (suc (suc i)) among = absurd (omega (arith, among))

pub zero_4 : (bytes : List ℕ) (at i : ℕ) → number_in_bytes w32 bytes at ≡ 0 → i < 4 → byte_at bytes (at + i) ≡ 0
zero_4 bytes at i is among = in_part bytes at 4 i among (each i among)
  where
    each : (i : ℕ) → i < 4 → slice_index (take 4 (drop at bytes)) i ≡ 0
    each zero among = (zero_sum_4 _ _ _ _ is).0
    each (suc zero) among = (zero_sum_4 _ _ _ _ is).1.0
    each (suc (suc zero)) among = (zero_sum_4 _ _ _ _ is).1.1.0
    each (suc (suc (suc zero))) among = (zero_sum_4 _ _ _ _ is).1.1.1
    each (suc (suc (suc (suc i)))) among = absurd (omega (arith, among))

pub zero_8 : (bytes : List ℕ) (at i : ℕ) → number_in_bytes w64 bytes at ≡ 0 → i < 8 → byte_at bytes (at + i) ≡ 0
zero_8 bytes at i is among = in_part bytes at 8 i among (each i among)
  where
    each : (i : ℕ) → i < 8 → slice_index (take 8 (drop at bytes)) i ≡ 0
    each zero among = (zero_sum_8 _ _ _ _ _ _ _ _ is).0
    each (suc zero) among = (zero_sum_8 _ _ _ _ _ _ _ _ is).1.0
    each (suc (suc zero)) among = (zero_sum_8 _ _ _ _ _ _ _ _ is).1.1.0
    each (suc (suc (suc zero))) among = (zero_sum_8 _ _ _ _ _ _ _ _ is).1.1.1.0
    each (suc (suc (suc (suc zero)))) among = (zero_sum_8 _ _ _ _ _ _ _ _ is).1.1.1.1.0
    each (suc (suc (suc (suc (suc zero))))) among = (zero_sum_8 _ _ _ _ _ _ _ _ is).1.1.1.1.1.0
    each (suc (suc (suc (suc (suc (suc zero)))))) among = (zero_sum_8 _ _ _ _ _ _ _ _ is).1.1.1.1.1.1.0
    each (suc (suc (suc (suc (suc (suc (suc zero))))))) among = (zero_sum_8 _ _ _ _ _ _ _ _ is).1.1.1.1.1.1.1
    each (suc (suc (suc (suc (suc (suc (suc (suc i)))))))) among = absurd (omega (arith, among))

-- so many zero bytes are right
pub zeros_are : (bytes : List ℕ) (from n : ℕ) → ((i : ℕ) → i < n → byte_at bytes (from + i) ≡ 0) → first_wrong (zeros bytes from n) ≡ None
zeros_are bytes from zero are = refl
zeros_are bytes from (suc n) are =
    let next : n + 1 ≡ suc n = omega arith in
    subst (λ (k : ℕ). first_wrong (zeros bytes from k) ≡ None) next (one_more_zero bytes from n (zeros_are bytes from n (λ i among. are i (omega (arith, among)))) (are n (omega arith)))

-- a slot without an object, and one with an object
pub free_is : (bytes : List ℕ) → byte_at bytes 0 ≡ 0 → byte_at bytes 1 ≡ 0 → number_in_bytes w32 bytes 4 ≡ 0 → ((i : ℕ) → i < 1 + OBJECT_FIELDS → number_in_bytes w64 bytes (8 + 8 * i) ≡ 0) → first_wrong (slot_fields bytes) ≡ None
free_is bytes state one four words =
    let free : says_in_use bytes ≡ false = ne_eqb (byte_at bytes 0) 1 (λ e. omega (arith, e, state)) in
    let reference : (n : ℕ) → n ≡ 0 → is_reference (says_in_use bytes) n ≡ true = λ n none. or_left (n == 0) (says_in_use bytes && is_name_number n) (eq-eqb n 0 none) in
    none_wrong (slot_fields bytes) (
      le-leb (byte_at bytes 0) 1 (omega (arith, state)),
      (
        eq-eqb (byte_at bytes 1) 0 one,
        (
          or_left (not (says_in_use bytes)) (nat_le 1 (number_in_bytes w16 bytes 2)) (ap not free),
          (
            eq-eqb (byte_at bytes 4) 0 (zero_4 bytes 4 0 four (omega arith)),
            (
              eq-eqb (byte_at bytes 5) 0 (zero_4 bytes 4 1 four (omega arith)),
              (
                eq-eqb (byte_at bytes 6) 0 (zero_4 bytes 4 2 four (omega arith)),
                (
                  eq-eqb (byte_at bytes 7) 0 (zero_4 bytes 4 3 four (omega arith)),
                  (
                    or_right (says_in_use bytes) (number_in_bytes w64 bytes 8 == 0) (eq-eqb (number_in_bytes w64 bytes 8) 0 (words 0 (omega arith))),
                    (
                      reference (number_in_bytes w64 bytes 16) (words 1 (omega arith)),
                      (
                        reference (number_in_bytes w64 bytes 24) (words 2 (omega arith)),
                        (
                          reference (number_in_bytes w64 bytes 32) (words 3 (omega arith)),
                          (reference (number_in_bytes w64 bytes 40) (words 4 (omega arith)), tt),
                        ),
                      ),
                    ),
                  ),
                ),
              ),
            ),
          ),
        ),
      ),
    )

pub used_is : (bytes : List ℕ) → byte_at bytes 0 ≡ 1 → byte_at bytes 1 ≡ 0 → number_in_bytes w32 bytes 4 ≡ 0 → 1 ≤ number_in_bytes w16 bytes 2 → ((i : ℕ) → i < OBJECT_FIELDS → is_reference true (number_in_bytes w64 bytes (16 + 8 * i)) ≡ true) → first_wrong (slot_fields bytes) ≡ None
used_is bytes state one four some are =
    let used : says_in_use bytes ≡ true = eq-eqb (byte_at bytes 0) 1 state in
    let reference : (n : ℕ) → is_reference true n ≡ true → is_reference (says_in_use bytes) n ≡ true = λ n is. subst (λ (b : Bool). is_reference b n ≡ true) (sym used) is in
    none_wrong (slot_fields bytes) (
      le-leb (byte_at bytes 0) 1 (omega (arith, state)),
      (
        eq-eqb (byte_at bytes 1) 0 one,
        (
          or_right (not (says_in_use bytes)) (nat_le 1 (number_in_bytes w16 bytes 2)) (le-leb 1 (number_in_bytes w16 bytes 2) some),
          (
            eq-eqb (byte_at bytes 4) 0 (zero_4 bytes 4 0 four (omega arith)),
            (
              eq-eqb (byte_at bytes 5) 0 (zero_4 bytes 4 1 four (omega arith)),
              (
                eq-eqb (byte_at bytes 6) 0 (zero_4 bytes 4 2 four (omega arith)),
                (
                  eq-eqb (byte_at bytes 7) 0 (zero_4 bytes 4 3 four (omega arith)),
                  (
                    or_left (says_in_use bytes) (number_in_bytes w64 bytes 8 == 0) used,
                    (
                      reference (number_in_bytes w64 bytes 16) (are 0 (omega arith)),
                      (
                        reference (number_in_bytes w64 bytes 24) (are 1 (omega arith)),
                        (
                          reference (number_in_bytes w64 bytes 32) (are 2 (omega arith)),
                          (reference (number_in_bytes w64 bytes 40) (are 3 (omega arith)), tt),
                        ),
                      ),
                    ),
                  ),
                ),
              ),
            ),
          ),
        ),
      ),
    )

-- a header before zeros
abbrev front : List ℕ → List Field
front bytes = (0, number_in_bytes w32 bytes 0 == 1129334577) ∷ (4, nat_lt (number_in_bytes w32 bytes 4) MOST_PAGES) ∷ (8, byte_at bytes 8 == OBJECT_FIELDS) ∷ (9, byte_at bytes 9 == SLOTS_PER_PAGE) ∷ []

header_zero : (bytes : List ℕ) → number_in_bytes w16 bytes 10 ≡ 0 → number_in_bytes w32 bytes 12 ≡ 0 → ((i : ℕ) → i < 6 → number_in_bytes w64 bytes (16 + 8 * i) ≡ 0) → (i : ℕ) → i < 54 → byte_at bytes (10 + i) ≡ 0
header_zero bytes two four words i among =
    elim (cases_lt i 2) [
      | inl low ↦ zero_2 bytes 10 i two low
      | inr high ↦
          elim (cases_lt i 6) [
            | inl low ↦ let place : 10 + i ≡ 12 + (i - 2) = omega (arith, high) in ap (byte_at bytes) place ∙ zero_4 bytes 12 (i - 2) four (omega (arith, high, low))
            | inr top ↦ let place : 10 + i ≡ 16 + 8 * ((i - 6) / 8) + (i - 6) % 8 = omega (arith, top) in ap (byte_at bytes) place ∙ zero_8 bytes (16 + 8 * ((i - 6) / 8)) ((i - 6) % 8) (words ((i - 6) / 8) (omega (arith, top, among))) (omega arith)
          ]
    ]

pub header_is : (bytes : List ℕ) → number_in_bytes w32 bytes 0 ≡ 1129334577 → number_in_bytes w32 bytes 4 < MOST_PAGES → byte_at bytes 8 ≡ OBJECT_FIELDS → byte_at bytes 9 ≡ SLOTS_PER_PAGE
    → number_in_bytes w16 bytes 10 ≡ 0 → number_in_bytes w32 bytes 12 ≡ 0 → ((i : ℕ) → i < 6 → number_in_bytes w64 bytes (16 + 8 * i) ≡ 0) → first_wrong (header_fields bytes) ≡ None
header_is bytes mark number fields slots two four words =
    let right : first_wrong (front bytes) ≡ None =
    none_wrong (front bytes) (
      eq-eqb (number_in_bytes w32 bytes 0) 1129334577 mark,
      (lt-ltb (number_in_bytes w32 bytes 4) MOST_PAGES number, (eq-eqb (byte_at bytes 8) OBJECT_FIELDS fields, (eq-eqb (byte_at bytes 9) SLOTS_PER_PAGE slots, tt))),
    ) in
    first_wrong-after (front bytes) (zeros bytes 10 54) right ∙ zeros_are bytes 10 54 (header_zero bytes two four words)
