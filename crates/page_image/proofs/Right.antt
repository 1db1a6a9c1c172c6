-- What the bytes of a slot say where its fields are right.
use Rattle.std.proofs.Common.{◌≡◌, ℕ, ◌/◌, ◌%◌, ◌<◌, Bool, true, false, not, ◌||◌, ◌==◌, nat_lt, nat_le, List, [], ◌∷◌, Some, None, refl, arith, inl, inr, if◌then◌else◌}
use Rattle.std.proofs.lemmas.Bool.{and_parts, or_cases, eqb-true, leb-true, ltb-true, or_left, both_ways}
use Rattle.std.specs.Int.{w16, w32, w64}
use Rattle.object_graph.specs.NameParts.{IsName}
use Rattle.object_graph.specs.declared.limits.TheConstants.{MOST_PAGES, MOST_SLOTS}
use Rattle.page_image.specs.Slots.{IsSlot, IsReference}
use Rattle.page_image.specs.Fields.{Field, first_wrong, slot_fields, header_fields, says_in_use, is_reference, is_name_number, reference_of, numbered_name, number_in_bytes, byte_at}

-- every field of a table is right
abbrev pub AreRight : List Field → Type 0
AreRight [] = Unit {0}
AreRight (f ∷ fields) = (f.1 ≡ true) × AreRight fields

pub all_right : (fields : List Field) → first_wrong fields ≡ None → AreRight fields
all_right [] is = tt
all_right ((at, true) ∷ fields) is = (refl, all_right fields is)
all_right ((at, false) ∷ fields) is = absurd (cc is)

-- a reference of a slot in use, and of a free one
pub reference-widens : (in_use : Bool) (n : ℕ) → is_reference in_use n ≡ true → is_reference true n ≡ true
reference-widens true n is = is
reference-widens false n is = elim (or_cases (n == 0) false is) [ inl none ↦ or_left (n == 0) (is_name_number n) none | inr wrong ↦ absurd (cc wrong) ]

pub reference-free : (n : ℕ) → is_reference false n ≡ true → reference_of n ≡ None
reference-free n is = elim (or_cases (n == 0) false is) [ inl none ↦ rw none refl | inr wrong ↦ absurd (cc wrong) ]

pub name_of-valid : (n : ℕ) → is_name_number n ≡ true → IsName (numbered_name n)
name_of-valid n is =
    let page = and_parts (nat_lt (n / 4294967296) MOST_PAGES) _ is in
    let rest = and_parts (nat_lt ((n / 65536) % 65536) MOST_SLOTS) _ page.1 in
    record {
      page = ltb-true (n / 4294967296) MOST_PAGES page.0;
      slot = ltb-true ((n / 65536) % 65536) MOST_SLOTS rest.0;
      first = leb-true 1 (n % 65536) rest.1;
      last = omega arith;
    }

chosen : (b : Bool) (n : ℕ) → (b ≡ false → IsName (numbered_name n)) → IsReference (if b then None else Some (numbered_name n))
chosen true n valid = tt
chosen false n valid = valid refl

pub reference-valid : (n : ℕ) → is_reference true n ≡ true → IsReference (reference_of n)
reference-valid n is = chosen (n == 0) n (λ some. elim (or_cases (n == 0) (is_name_number n) is) [ inl wrong ↦ absurd (both_ways (n == 0) some wrong) | inr name ↦ name_of-valid n name ])

-- the four references of a slot whose fields are right
pub record AreReferences (bytes : List ℕ) : Type 0 where
  pub first : is_reference (says_in_use bytes) (number_in_bytes w64 bytes 16) ≡ true
  pub second : is_reference (says_in_use bytes) (number_in_bytes w64 bytes 24) ≡ true
  pub third : is_reference (says_in_use bytes) (number_in_bytes w64 bytes 32) ≡ true
  pub fourth : is_reference (says_in_use bytes) (number_in_bytes w64 bytes 40) ≡ true

-- what is right of a slot, field by field
pub record IsRight (bytes : List ℕ) : Type 0 where
  pub state : nat_le (byte_at bytes 0) 1 ≡ true
  pub zero_1 : (byte_at bytes 1 == 0) ≡ true
  pub generation : (not (says_in_use bytes) || nat_le 1 (number_in_bytes w16 bytes 2)) ≡ true
  pub zero_4 : (byte_at bytes 4 == 0) ≡ true
  pub zero_5 : (byte_at bytes 5 == 0) ≡ true
  pub zero_6 : (byte_at bytes 6 == 0) ≡ true
  pub zero_7 : (byte_at bytes 7 == 0) ≡ true
  pub number : (says_in_use bytes || number_in_bytes w64 bytes 8 == 0) ≡ true
  pub references : AreReferences bytes

pub slot_right : (bytes : List ℕ) → first_wrong (slot_fields bytes) ≡ None → IsRight bytes
slot_right bytes is =
    let r = all_right (slot_fields bytes) is in
    let s = r.1.1.1.1.1.1.1 in
    record {
      state = r.0;
      zero_1 = r.1.0;
      generation = r.1.1.0;
      zero_4 = r.1.1.1.0;
      zero_5 = r.1.1.1.1.0;
      zero_6 = r.1.1.1.1.1.0;
      zero_7 = r.1.1.1.1.1.1.0;
      number = s.0;
      references = record { first = s.1.0; second = s.1.1.0; third = s.1.1.1.0; fourth = s.1.1.1.1.0 };
    }

-- a right slot is a slot, whose references are read
pub slot_fits : (in_use : Bool) (generation number a b c d : ℕ) → (not in_use || nat_le 1 generation) ≡ true → (in_use || number == 0) ≡ true
    → is_reference in_use a ≡ true → is_reference in_use b ≡ true → is_reference in_use c ≡ true → is_reference in_use d ≡ true
    → IsSlot (record { in_use = in_use; generation = generation; number = number; refs = reference_of a ∷ reference_of b ∷ reference_of c ∷ reference_of d ∷ [] })
slot_fits true generation number a b c d some any ra rb rc rd = record {
  used = λ _. leb-true 1 generation some;
  free = λ wrong. absurd (cc wrong);
  count = refl;
  refs = (reference-valid a ra, (reference-valid b rb, (reference-valid c rc, (reference-valid d rd, tt))));
}
slot_fits false generation number a b c d any none ra rb rc rd = record {
  used = λ wrong. absurd (cc wrong);
  free = λ _. (eqb-true number 0 none, rw (reference-free a ra, reference-free b rb, reference-free c rc, reference-free d rd) refl);
  count = refl;
  refs = (
    reference-valid a (reference-widens false a ra),
    (reference-valid b (reference-widens false b rb), (reference-valid c (reference-widens false c rc), (reference-valid d (reference-widens false d rd), tt))),
  );
}

-- the page number of a right header
pub header_number : (bytes : List ℕ) → first_wrong (header_fields bytes) ≡ None → number_in_bytes w32 bytes 4 < MOST_PAGES
header_number bytes is = ltb-true (number_in_bytes w32 bytes 4) MOST_PAGES (all_right (header_fields bytes) is).1.0
