-- What is read is spelled so.
use Rattle.std.proofs.Common.{◌≡◌, ℕ, zero, suc, ◌+◌, ◌*◌, ◌/◌, ◌%◌, ◌<◌, ◌≤◌, inl, inr, Bool, true, false, ◌==◌, nat_le, nat_lt, List, [], ◌∷◌, ◌++◌, Some, None, length, take, drop, map, replicate, refl, sym, ◌∙◌, ap, subst, arith, if◌then◌else◌, get_or}
use Rattle.std.specs.Int.{w16, w32, w64, to_be_bytes}
use Rattle.std.specs.List.{flat_map}
use Rattle.std.proofs.Math.Seq.{take-add, drop-drop}
use Rattle.std.proofs.lemmas.Grind.{flat_map-append}
use Rattle.std.proofs.lemmas.Nat.{be_bytes_2, be_bytes_4, be_bytes_8}
use Rattle.std.proofs.lemmas.Bool.{eqb-true, leb-true, cases_lt}
use Rattle.std.proofs.lemmas.List.{take_more, take_all, append-nil, map-append, length-take-le, length-drop, get_or-take, get_or-drop, get_or_past, replicate-append-replicate}
use Rattle.object_graph.specs.Slots.{below}
use Rattle.object_graph.specs.SlotParts.{SlotParts}
use Rattle.object_graph.specs.declared.limits.TheConstants.{MOST_PAGES}
use Rattle.object_graph.specs.declared.names.TheConstants.{OBJECT_FIELDS}
use Rattle.object_graph.specs.declared.sizes.TheConstants.{SLOTS_PER_PAGE}
use Rattle.page_image.specs.Spelling.{reference_number, state_byte, slot_bytes, header_bytes, page_bytes, AreBytes}
use Rattle.page_image.specs.Fields.{Field, first_wrong, header_fields, slot_fields, slot_of, slot_piece, slot_start, number_in_bytes, byte_at, reference_of, zeros, page_of, fields_of_slot}
use Rattle.page_image.proofs.Tables.{zeros-flat, zero_field, right_at, slot_right-back, first_wrong-back}
use Rattle.page_image.proofs.Right.{all_right, slot_right}

-- so many bytes from a place on
abbrev pub part : List ℕ → ℕ → ℕ → List ℕ
part bytes at n = take n (drop at bytes)

pub length-part : (bytes : List ℕ) (at n : ℕ) → at + n ≤ length bytes → length (part bytes at n) ≡ n
length-part bytes at n within = length-take-le n (drop at bytes) (let long = length-drop at bytes in omega (arith, long, within))

pub part_bytes : (bytes : List ℕ) (at n : ℕ) → at + n ≤ length bytes → AreBytes bytes → AreBytes (part bytes at n)
part_bytes bytes at n within are i =
    elim (cases_lt i n) [
      | inl among ↦ subst (λ (b : ℕ). b < 256) (sym (get_or-take n (drop at bytes) i 0 among ∙ get_or-drop at bytes i 0)) (are (at + i))
      | inr past ↦ subst (λ (b : ℕ). b < 256) (sym (get_or_past (part bytes at n) i 0 (let long = length-part bytes at n within in omega (arith, past, long)))) (omega arith)
    ]

-- a number is spelled by its bytes
number_2 : (bytes : List ℕ) (at : ℕ) → at + 2 ≤ length bytes → AreBytes bytes → to_be_bytes w16 (number_in_bytes w16 bytes at) ≡ part bytes at 2
number_2 bytes at within are = be_bytes_2 (part bytes at 2) _ (length-part bytes at 2 within) (part_bytes bytes at 2 within are) refl

number_4 : (bytes : List ℕ) (at : ℕ) → at + 4 ≤ length bytes → AreBytes bytes → to_be_bytes w32 (number_in_bytes w32 bytes at) ≡ part bytes at 4
number_4 bytes at within are = be_bytes_4 (part bytes at 4) _ (length-part bytes at 4 within) (part_bytes bytes at 4 within are) refl

number_8 : (bytes : List ℕ) (at : ℕ) → at + 8 ≤ length bytes → AreBytes bytes → to_be_bytes w64 (number_in_bytes w64 bytes at) ≡ part bytes at 8
number_8 bytes at within are = be_bytes_8 (part bytes at 8) _ (length-part bytes at 8 within) (part_bytes bytes at 8 within are) refl

-- one byte
byte_1 : (bytes : List ℕ) (at : ℕ) → at < length bytes → part bytes at 1 ≡ byte_at bytes at ∷ []
byte_1 bytes at within =
    take_more (drop at bytes) 0 0 (let long = length-drop at bytes in omega (arith, long, within)) ∙ ap (λ (b : ℕ). b ∷ []) (get_or-drop at bytes 0 0 ∙ ap (λ (k : ℕ). get_or bytes k 0) (omega arith))

-- zero bytes
zeros_part : (bytes : List ℕ) (from n : ℕ) → from + n ≤ length bytes → first_wrong (zeros bytes from n) ≡ None → (i : ℕ) → i < n → byte_at bytes (from + i) ≡ 0
zeros_part bytes from n within right i among =
    let one = right_at (zero_field bytes from) n i among (sym (ap first_wrong (zeros-flat bytes from n)) ∙ right) in
    eqb-true (byte_at bytes (from + i)) 0 (all_right (zero_field bytes from i) one).0

all_zero : (bytes : List ℕ) (from n : ℕ) → from + n ≤ length bytes → ((i : ℕ) → i < n → byte_at bytes (from + i) ≡ 0) → part bytes from n ≡ replicate n 0
all_zero bytes from zero within are = refl
all_zero bytes from (suc n) within are =
    let next : suc n ≡ n + 1 = omega arith in
    let long = length-drop from bytes in
    ap (part bytes from) next
    ∙ (take_more (drop from bytes) n 0 (omega (arith, long, within))
    ∙ (ap (λ (l : List ℕ). l ++ get_or (drop from bytes) n 0 ∷ []) (all_zero bytes from n (omega (arith, within)) (λ i among. are i (omega (arith, among))))
    ∙ (ap (λ (b : ℕ). replicate n 0 ++ b ∷ []) (get_or-drop from bytes n 0 ∙ are n (omega arith))
    ∙ (replicate-append-replicate n 1 0 ∙ ap (λ (k : ℕ). replicate k 0) (sym next)))))

-- a reference is spelled by its number
reference_spelled : (n : ℕ) → reference_number (reference_of n) ≡ n
reference_spelled n = by_zero (n == 0) (λ e. eqb-true n 0 e)
  where
    by_zero : (b : Bool) → (b ≡ true → n ≡ 0) → reference_number (if b then None else Some (record { page = n / 4294967296; slot = (n / 65536) % 65536; generation = n % 65536 })) ≡ n
    by_zero true is = sym (is refl)
    by_zero false is = omega arith

reference_8 : (bytes : List ℕ) (at : ℕ) → at + 8 ≤ length bytes → AreBytes bytes → to_be_bytes w64 (reference_number (reference_of (number_in_bytes w64 bytes at))) ≡ part bytes at 8
reference_8 bytes at within are = ap (to_be_bytes w64) (reference_spelled (number_in_bytes w64 bytes at)) ∙ number_8 bytes at within are

state_spelled : (b : ℕ) → nat_le b 1 ≡ true → state_byte (b == 1) ≡ b
state_spelled zero small = refl
state_spelled (suc zero) small = refl
state_spelled (suc (suc b)) small = absurd (let n = leb-true (suc (suc b)) 1 small in omega (arith, n))

-- two parts side by side
joined : (bytes : List ℕ) (at n m : ℕ) → part bytes at (n + m) ≡ part bytes at n ++ part bytes (at + n) m
joined bytes at n m = take-add n m (drop at bytes) ∙ ap (λ (l : List ℕ). part bytes at n ++ take m l) (drop-drop n at bytes)

-- one more part, which is this
more : (bytes : List ℕ) (at n m : ℕ) (front piece : List ℕ) → part bytes at n ≡ front → part bytes (at + n) m ≡ piece → part bytes at (n + m) ≡ front ++ piece
more bytes at n m front piece e f = joined bytes at n m ∙ (λ i. e i ++ f i)

-- the bytes of a right slot are spelled by what they say
pub slot_takes : (bytes : List ℕ) → length bytes ≡ 48 → AreBytes bytes → first_wrong (slot_fields bytes) ≡ None → slot_bytes (slot_of bytes) ≡ bytes
slot_takes bytes long are is =
    let right = slot_right bytes is in
    let one : (at : ℕ) → at < 48 → part bytes at 1 ≡ byte_at bytes at ∷ [] = λ at within. byte_1 bytes at (omega (arith, long, within)) in
    let zero_at : (at : ℕ) → at < 48 → (byte_at bytes at == 0) ≡ true → part bytes at 1 ≡ 0 ∷ [] = λ at within e. one at within ∙ ap (λ (b : ℕ). b ∷ []) (eqb-true (byte_at bytes at) 0 e) in
    let state : part bytes 0 1 ≡ state_byte (byte_at bytes 0 == 1) ∷ [] = one 0 (omega arith) ∙ ap (λ (b : ℕ). b ∷ []) (sym (state_spelled (byte_at bytes 0) right.state)) in
    let whole =
    more bytes 0 40 8 _ _
    (more bytes 0 32 8 _ _
    (more bytes 0 24 8 _ _
    (more bytes 0 16 8 _ _
    (more bytes 0 8 8 _ _
    (more bytes 0 7 1 _ _
    (more bytes 0 6 1 _ _
    (more bytes 0 5 1 _ _
    (more bytes 0 4 1 _ _
    (more bytes 0 2 2 _ _
    (more bytes 0 1 1 _ _ state (zero_at 1 (omega arith) right.zero_1))
    (sym (number_2 bytes 2 (omega (arith, long)) are)))
    (zero_at 4 (omega arith) right.zero_4))
    (zero_at 5 (omega arith) right.zero_5))
    (zero_at 6 (omega arith) right.zero_6))
    (zero_at 7 (omega arith) right.zero_7))
    (sym (number_8 bytes 8 (omega (arith, long)) are)))
    (sym (reference_8 bytes 16 (omega (arith, long)) are)))
    (sym (reference_8 bytes 24 (omega (arith, long)) are)))
    (sym (reference_8 bytes 32 (omega (arith, long)) are)))
    (sym (reference_8 bytes 40 (omega (arith, long)) are)) in
    sym whole ∙ take_all 48 bytes (omega (arith, long))

-- the zeros of a right header are right
zeros_right : (bytes : List ℕ) → first_wrong (header_fields bytes) ≡ None → first_wrong (zeros bytes 10 54) ≡ None
zeros_right bytes is = first_wrong-back (front bytes) (zeros bytes 10 54) is
  where
    front : List ℕ → List Field
    front bytes = (0, number_in_bytes w32 bytes 0 == 1129334577) ∷ (4, nat_lt (number_in_bytes w32 bytes 4) MOST_PAGES) ∷ (8, byte_at bytes 8 == OBJECT_FIELDS) ∷ (9, byte_at bytes 9 == SLOTS_PER_PAGE) ∷ []

-- the bytes of a right header are spelled by the number that they say
pub header_takes : (bytes : List ℕ) → length bytes ≡ 1024 → AreBytes bytes → first_wrong (header_fields bytes) ≡ None → part bytes 0 64 ≡ header_bytes (number_in_bytes w32 bytes 4)
header_takes bytes long are is =
    let right = all_right (header_fields bytes) is in
    let one : (at : ℕ) (b : ℕ) → at < 1024 → (byte_at bytes at == b) ≡ true → part bytes at 1 ≡ b ∷ [] = λ at b within e. byte_1 bytes at (omega (arith, long, within)) ∙ ap (λ (b : ℕ). b ∷ []) (eqb-true (byte_at bytes at) b e) in
    let mark : part bytes 0 4 ≡ to_be_bytes w32 1129334577 = sym (number_4 bytes 0 (omega (arith, long)) are) ∙ ap (to_be_bytes w32) (eqb-true (number_in_bytes w32 bytes 0) 1129334577 right.0) in
    let within : 10 + 54 ≤ length bytes = omega (arith, long) in
    let zeros_are = all_zero bytes 10 54 within (zeros_part bytes 10 54 within (zeros_right bytes is)) in
    more bytes 0 10 54 _ _
    (more bytes 0 9 1 _ _
    (more bytes 0 8 1 _ _
    (more bytes 0 4 4 _ _ mark (sym (number_4 bytes 4 (omega (arith, long)) are)))
    (one 8 OBJECT_FIELDS (omega arith) right.1.1.0))
    (one 9 SLOTS_PER_PAGE (omega arith) right.1.1.1.0))
    zeros_are

-- the bytes of right slots are spelled by what they say
pub slots_take : (bytes : List ℕ) (n : ℕ) → 64 + 48 * n ≤ length bytes → AreBytes bytes → ((k : ℕ) → k < n → first_wrong (slot_fields (slot_piece bytes k)) ≡ None)
    → flat_map slot_bytes (map (λ (k : ℕ). slot_of (slot_piece bytes k)) (below n)) ≡ part bytes 64 (48 * n)
slots_take bytes zero within are right = refl
slots_take bytes (suc n) within are right =
    let read : ℕ → SlotParts = λ k. slot_of (slot_piece bytes k) in
    let here : 64 + 48 * n + 48 ≤ length bytes = omega (arith, within) in
    let next : 48 * n + 48 ≡ 48 * suc n = omega arith in
    ap (flat_map slot_bytes) (map-append read (below n) (n ∷ []))
    ∙ (flat_map-append slot_bytes (map read (below n)) (read n ∷ [])
    ∙ ((λ i. slots_take bytes n (omega (arith, within)) are (λ k among. right k (omega (arith, among))) i
    ++ (append-nil (slot_bytes (read n)) ∙ slot_takes (slot_piece bytes n) (length-part bytes (slot_start n) 48 here) (part_bytes bytes (slot_start n) 48 here are) (right n (omega arith))) i)
    ∙ (sym (joined bytes 64 (48 * n) 48) ∙ ap (part bytes 64) next)))

-- a page that is read is spelled so
pub page_takes : (bytes : List ℕ) → length bytes ≡ 1024 → AreBytes bytes → first_wrong (header_fields bytes) ≡ None → first_wrong (flat_map (fields_of_slot bytes) (below SLOTS_PER_PAGE)) ≡ None → page_bytes (page_of bytes) ≡ bytes
page_takes bytes long are header slots =
    let each : (k : ℕ) → k < SLOTS_PER_PAGE → first_wrong (slot_fields (slot_piece bytes k)) ≡ None = λ k among. slot_right-back bytes k (right_at (fields_of_slot bytes) SLOTS_PER_PAGE k among slots) in
    (λ i. sym (header_takes bytes long are header) i ++ slots_take bytes SLOTS_PER_PAGE (omega (arith, long)) are each i)
    ∙ (sym (joined bytes 0 64 960) ∙ take_all 1024 bytes (omega (arith, long)))
