-- What is spelled is read again.
use Rattle.std.proofs.Common.{◌≡◌, ℕ, zero, suc, ◌+◌, ◌*◌, ◌/◌, ◌%◌, ◌^◌, ◌<◌, ◌≤◌, Bool, true, false, ◌==◌, nat_lt, nat_le, List, [], ◌∷◌, ◌++◌, Option, Some, None, length, take, drop, map, refl, sym, ◌∙◌, ap, subst, arith, get_or, append_assoc, Ok}
use Rattle.std.specs.Int.{w16, w32, w64}
use Rattle.std.specs.List.{flat_map, AllByRecursion}
use Rattle.std.proofs.Math.Seq.{drop-append-add, take-append_seam}
use Rattle.std.proofs.lemmas.List.{take_more, take_all, map-append, length-append}
use Rattle.std.proofs.lemmas.Nat.{from_be_bytes-to_be_bytes_2, from_be_bytes-to_be_bytes_4, from_be_bytes-to_be_bytes_8}
use Rattle.std.proofs.lemmas.Bool.{lt-ltb, le-leb, ne_eqb, and_from, or_right}
use Rattle.object_graph.specs.NameParts.{NameParts, IsName}
use Rattle.object_graph.specs.SlotParts.{SlotParts}
use Rattle.object_graph.specs.Slots.{below}
use Rattle.object_graph.specs.declared.limits.TheConstants.{MOST_PAGES, MOST_SLOTS}
use Rattle.object_graph.specs.declared.names.TheConstants.{OBJECT_FIELDS}
use Rattle.object_graph.specs.declared.sizes.TheConstants.{SLOTS_PER_PAGE}
use Rattle.page_image.specs.Slots.{IsWholeSlot, IsReference, fresh_slot}
use Rattle.page_image.specs.Pages.{PageParts, IsPage}
use Rattle.page_image.specs.Spelling.{reference_number, slot_bytes, header_bytes, page_bytes}
use Rattle.page_image.specs.Fields.{first_wrong, header_fields, slot_fields, slot_of, number_in_bytes, is_reference, is_name_number, reference_of, numbered_name, slot_piece, slot_start, fields_of_slot, page_at}
use Rattle.page_image.proofs.Tables.{one_more_right, slot_right-moved, page_at-right}

-- the header of a page with this number is right, and has this number
pub header_again : (number : ℕ) (rest : List ℕ) → number < MOST_PAGES → first_wrong (header_fields (header_bytes number ++ rest)) ≡ None
header_again number rest small =
    let is : number_in_bytes w32 (header_bytes number ++ rest) 4 ≡ number = from_be_bytes-to_be_bytes_4 number (omega (arith, small)) in
    let right : nat_lt (number_in_bytes w32 (header_bytes number ++ rest) 4) MOST_PAGES ≡ true = rw is (lt-ltb number MOST_PAGES small) in
    rw right refl

pub number_again : (number : ℕ) (rest : List ℕ) → number < MOST_PAGES → number_in_bytes w32 (header_bytes number ++ rest) 4 ≡ number
number_again number rest small = from_be_bytes-to_be_bytes_4 number (omega (arith, small))

-- the number of a name is read as that name
pub name_again : (n : NameParts) → IsName n → numbered_name (n.page * 4294967296 + n.slot * 65536 + n.generation) ≡ n
name_again n is =
    let page = is.page in
    let slot = is.slot in
    let last = is.last in
    let p : (n.page * 4294967296 + n.slot * 65536 + n.generation) / 4294967296 ≡ n.page = omega (arith, page, slot, last) in
    let s : ((n.page * 4294967296 + n.slot * 65536 + n.generation) / 65536) % 65536 ≡ n.slot = omega (arith, page, slot, last) in
    let g : (n.page * 4294967296 + n.slot * 65536 + n.generation) % 65536 ≡ n.generation = omega (arith, page, slot, last) in
    λ i. record { page = p i; slot = s i; generation = g i }

pub name_again-valid : (n : NameParts) → IsName n → is_name_number (n.page * 4294967296 + n.slot * 65536 + n.generation) ≡ true
name_again-valid n is =
    let same = name_again n is in
    and_from _ _
    (ap (λ m. nat_lt m.page MOST_PAGES) same ∙ lt-ltb n.page MOST_PAGES is.page)
    (and_from _ _ (ap (λ m. nat_lt m.slot MOST_SLOTS) same ∙ lt-ltb n.slot MOST_SLOTS is.slot) (ap (λ m. nat_le 1 m.generation) same ∙ le-leb 1 n.generation is.first))

pub name_some : (n : NameParts) → IsName n → (n.page * 4294967296 + n.slot * 65536 + n.generation == 0) ≡ false
name_some n is = let first = is.first in ne_eqb _ 0 (λ e. omega (arith, e, first))

pub reference_again : (r : Option NameParts) → IsReference r → reference_of (reference_number r) ≡ r
reference_again None is = refl
reference_again (Some n) is = rw (name_some n is) (ap (λ m. Some m) (name_again n is))

pub reference_small : (r : Option NameParts) → IsReference r → reference_number r < 2 ^ 64
reference_small None is = omega arith
reference_small (Some n) is = let page = is.page in let slot = is.slot in let last = is.last in omega (arith, page, slot, last)

pub reference_right : (in_use : Bool) (r : Option NameParts) → IsReference r → (in_use ≡ false → r ≡ None) → is_reference in_use (reference_number r) ≡ true
reference_right in_use None is free = refl
reference_right true (Some n) is free = or_right _ _ (name_again-valid n is)
reference_right false (Some n) is free = absurd (cc (free refl))

abbrev slot_with : Bool → ℕ → ℕ → Option NameParts → Option NameParts → Option NameParts → Option NameParts → SlotParts
slot_with in_use generation number a b c d = record { in_use = in_use; generation = generation; number = number; refs = a ∷ b ∷ c ∷ d ∷ [] }

-- the fields of a slot that was spelled are right
used_right : (generation number : ℕ) (a b c d : Option NameParts) → IsWholeSlot (slot_with true generation number a b c d) → first_wrong (slot_fields (slot_bytes (slot_with true generation number a b c d))) ≡ None
used_right generation number a b c d is =
    let bytes = slot_bytes (slot_with true generation number a b c d) in
    let refs = is.slot.refs in
    let g : nat_le 1 (number_in_bytes w16 bytes 2) ≡ true = rw (from_be_bytes-to_be_bytes_2 generation is.generation) (le-leb 1 generation (is.slot.used refl)) in
    let ra : is_reference true (number_in_bytes w64 bytes 16) ≡ true = rw (from_be_bytes-to_be_bytes_8 (reference_number a) (reference_small a refs.0)) (reference_right true a refs.0 (λ w. absurd (cc w))) in
    let rb : is_reference true (number_in_bytes w64 bytes 24) ≡ true = rw (from_be_bytes-to_be_bytes_8 (reference_number b) (reference_small b refs.1.0)) (reference_right true b refs.1.0 (λ w. absurd (cc w))) in
    let rc : is_reference true (number_in_bytes w64 bytes 32) ≡ true = rw (from_be_bytes-to_be_bytes_8 (reference_number c) (reference_small c refs.1.1.0)) (reference_right true c refs.1.1.0 (λ w. absurd (cc w))) in
    let rd : is_reference true (number_in_bytes w64 bytes 40) ≡ true = rw (from_be_bytes-to_be_bytes_8 (reference_number d) (reference_small d refs.1.1.1.0)) (reference_right true d refs.1.1.1.0 (λ w. absurd (cc w))) in
    rw (g, ra, rb, rc, rd) refl

-- it is read as it was
used_again : (generation number : ℕ) (a b c d : Option NameParts) → IsWholeSlot (slot_with true generation number a b c d) → slot_of (slot_bytes (slot_with true generation number a b c d)) ≡ slot_with true generation number a b c d
used_again generation number a b c d is =
    let refs = is.slot.refs in
    let g = from_be_bytes-to_be_bytes_2 generation is.generation in
    let n = from_be_bytes-to_be_bytes_8 number is.number in
    let ra = ap reference_of (from_be_bytes-to_be_bytes_8 (reference_number a) (reference_small a refs.0)) ∙ reference_again a refs.0 in
    let rb = ap reference_of (from_be_bytes-to_be_bytes_8 (reference_number b) (reference_small b refs.1.0)) ∙ reference_again b refs.1.0 in
    let rc = ap reference_of (from_be_bytes-to_be_bytes_8 (reference_number c) (reference_small c refs.1.1.0)) ∙ reference_again c refs.1.1.0 in
    let rd = ap reference_of (from_be_bytes-to_be_bytes_8 (reference_number d) (reference_small d refs.1.1.1.0)) ∙ reference_again d refs.1.1.1.0 in
    λ i. record { in_use = true; generation = g i; number = n i; refs = ra i ∷ rb i ∷ rc i ∷ rd i ∷ [] }

-- a free slot has nothing but its generation
abbrev free_with : ℕ → SlotParts
free_with generation = slot_with false generation 0 None None None None

free_right : (generation : ℕ) → first_wrong (slot_fields (slot_bytes (free_with generation))) ≡ None
free_right generation = refl

free_again : (generation : ℕ) → generation < 2 ^ 16 → slot_of (slot_bytes (free_with generation)) ≡ free_with generation
free_again generation small = let g = from_be_bytes-to_be_bytes_2 generation small in λ i. record { in_use = false; generation = g i; number = 0; refs = None ∷ None ∷ None ∷ None ∷ [] }

-- each whole slot is read from its bytes
pub slot_again : (s : SlotParts) → IsWholeSlot s → (first_wrong (slot_fields (slot_bytes s)) ≡ None) × (slot_of (slot_bytes s) ≡ s)
slot_again s is = by_state s.in_use s.generation s.number s.refs is
  where
    by_refs : (generation number : ℕ) (refs : List (Option NameParts)) → IsWholeSlot (record { in_use = true; generation = generation; number = number; refs = refs })
        → (first_wrong (slot_fields (slot_bytes (record { in_use = true; generation = generation; number = number; refs = refs }))) ≡ None) × (slot_of (slot_bytes (record { in_use = true; generation = generation; number = number; refs = refs })) ≡ record { in_use = true; generation = generation; number = number; refs = refs })
    by_refs generation number [] w = absurd (cc w.slot.count)
    by_refs generation number (a ∷ []) w = absurd (let n = w.slot.count in omega (arith, n))
    by_refs generation number (a ∷ b ∷ []) w = absurd (let n = w.slot.count in omega (arith, n))
    by_refs generation number (a ∷ b ∷ c ∷ []) w = absurd (let n = w.slot.count in omega (arith, n))
    by_refs generation number (a ∷ b ∷ c ∷ d ∷ []) w = (used_right generation number a b c d w, used_again generation number a b c d w)
    by_refs generation number (a ∷ b ∷ c ∷ d ∷ e ∷ more) w = absurd (let n = w.slot.count in omega (arith, n))

    by_state : (in_use : Bool) (generation number : ℕ) (refs : List (Option NameParts)) → IsWholeSlot (record { in_use = in_use; generation = generation; number = number; refs = refs })
        → (first_wrong (slot_fields (slot_bytes (record { in_use = in_use; generation = generation; number = number; refs = refs }))) ≡ None) × (slot_of (slot_bytes (record { in_use = in_use; generation = generation; number = number; refs = refs })) ≡ record { in_use = in_use; generation = generation; number = number; refs = refs })
    by_state true generation number refs w = by_refs generation number refs w
    by_state false generation number refs w =
        let empty = w.slot.free refl in
        let same : free_with generation ≡ record { in_use = false; generation = generation; number = number; refs = refs } = λ i. record { in_use = false; generation = generation; number = sym empty.0 i; refs = sym empty.1 i } in
        subst (λ s. (first_wrong (slot_fields (slot_bytes s)) ≡ None) × (slot_of (slot_bytes s) ≡ s)) same (free_right generation, free_again generation w.generation)

-- the bytes of a slot are 48, and so many slots are read one by one
pub length-slot_bytes : (s : SlotParts) → length s.refs ≡ OBJECT_FIELDS → length (slot_bytes s) ≡ 48
length-slot_bytes s count = by_count s.in_use s.generation s.number s.refs count
  where
    by_count : (in_use : Bool) (generation number : ℕ) (refs : List (Option NameParts)) → length refs ≡ OBJECT_FIELDS → length (slot_bytes (record { in_use = in_use; generation = generation; number = number; refs = refs })) ≡ 48
    by_count in_use generation number [] n = absurd (cc n)
    by_count in_use generation number (a ∷ []) n = absurd (omega (arith, n))
    by_count in_use generation number (a ∷ b ∷ []) n = absurd (omega (arith, n))
    by_count in_use generation number (a ∷ b ∷ c ∷ []) n = absurd (omega (arith, n))
    by_count in_use generation number (a ∷ b ∷ c ∷ d ∷ []) n = refl
    by_count in_use generation number (a ∷ b ∷ c ∷ d ∷ e ∷ more) n = absurd (omega (arith, n))

-- the piece at a place, of pieces of 48 bytes after a front
pub piece_again : (slots : List SlotParts) (front : List ℕ) (n at : ℕ) (d : SlotParts) → AllByRecursion IsWholeSlot slots → at ≡ length front + 48 * n → n < length slots
    → take 48 (drop at (front ++ flat_map slot_bytes slots)) ≡ slot_bytes (get_or slots n d)
piece_again [] front n at d whole is among = absurd (omega (arith, among))
piece_again (s ∷ slots) front zero at d whole is among =
    let first : at ≡ length front + 0 = omega (arith, is) in
    let long = length-slot_bytes s whole.0.slot.count in
    ap (λ (k : ℕ). take 48 (drop k (front ++ flat_map slot_bytes (s ∷ slots)))) first
    ∙ (ap (take 48) (drop-append-add front (flat_map slot_bytes (s ∷ slots)) 0)
    ∙ (ap (λ (k : ℕ). take k (slot_bytes s ++ flat_map slot_bytes slots)) (sym long) ∙ take-append_seam (slot_bytes s) (flat_map slot_bytes slots)))
piece_again (s ∷ slots) front (suc n) at d whole is among =
    let long = length-slot_bytes s whole.0.slot.count in
    let longer : length (front ++ slot_bytes s) ≡ length front + 48 = length-append front (slot_bytes s) ∙ ap (λ (k : ℕ). length front + k) long in
    ap (λ (l : List ℕ). take 48 (drop at l)) (sym (append_assoc front (slot_bytes s) (flat_map slot_bytes slots)))
    ∙ piece_again slots (front ++ slot_bytes s) n at d whole.1 (omega (arith, is, longer)) (omega (arith, among))

-- the slots of a page that was spelled are right, and are read as they were
abbrev spelled_slots : ℕ → List SlotParts → List ℕ
spelled_slots number slots = header_bytes number ++ flat_map slot_bytes slots

pub slot_piece_again : (number : ℕ) (slots : List SlotParts) (n : ℕ) (d : SlotParts) → AllByRecursion IsWholeSlot slots → n < length slots → slot_piece (spelled_slots number slots) n ≡ slot_bytes (get_or slots n d)
slot_piece_again number slots n d whole among = piece_again slots (header_bytes number) n (slot_start n) d whole refl among

pub whole_at : (slots : List SlotParts) (n : ℕ) (d : SlotParts) → AllByRecursion IsWholeSlot slots → n < length slots → IsWholeSlot (get_or slots n d)
whole_at [] n d whole among = absurd (omega (arith, among))
whole_at (s ∷ slots) zero d whole among = whole.0
whole_at (s ∷ slots) (suc n) d whole among = whole_at slots n d whole.1 (omega (arith, among))

pub slots_right : (number : ℕ) (slots : List SlotParts) (d : SlotParts) (n : ℕ) → AllByRecursion IsWholeSlot slots → n ≤ length slots → first_wrong (flat_map (fields_of_slot (spelled_slots number slots)) (below n)) ≡ None
slots_right number slots d zero whole few = refl
slots_right number slots d (suc n) whole few =
    let bytes = spelled_slots number slots in
    let among : n < length slots = omega (arith, few) in
    let right : first_wrong (slot_fields (slot_piece bytes n)) ≡ None = ap (λ (l : List ℕ). first_wrong (slot_fields l)) (slot_piece_again number slots n d whole among) ∙ (slot_again (get_or slots n d) (whole_at slots n d whole among)).0 in
    one_more_right (fields_of_slot bytes) n (slots_right number slots d n whole (omega (arith, few))) (slot_right-moved bytes n right)

pub slots_again : (number : ℕ) (slots : List SlotParts) (d : SlotParts) (n : ℕ) → AllByRecursion IsWholeSlot slots → n ≤ length slots → map (λ (k : ℕ). slot_of (slot_piece (spelled_slots number slots) k)) (below n) ≡ take n slots
slots_again number slots d zero whole few = refl
slots_again number slots d (suc n) whole few =
    let bytes = spelled_slots number slots in
    let read : ℕ → SlotParts = λ k. slot_of (slot_piece bytes k) in
    let among : n < length slots = omega (arith, few) in
    let next : n + 1 ≡ suc n = omega arith in
    map-append read (below n) (n ∷ [])
    ∙ (ap (λ (l : List SlotParts). l ++ read n ∷ []) (slots_again number slots d n whole (omega (arith, few)))
    ∙ (ap (λ (s : SlotParts). take n slots ++ s ∷ []) (ap slot_of (slot_piece_again number slots n d whole among) ∙ (slot_again (get_or slots n d) (whole_at slots n d whole among)).1)
    ∙ (sym (take_more slots n d among) ∙ ap (λ (k : ℕ). take k slots) next)))

-- a page that was spelled is read as it was
pub page_again : (p : PageParts) → IsPage p → page_at (page_bytes p) ≡ Ok p
page_again p is =
    let bytes = page_bytes p in
    let all : SLOTS_PER_PAGE ≤ length p.slots = let n = is.count in omega (arith, n) in
    page_at-right bytes (header_again p.number (flat_map slot_bytes p.slots) is.number) (slots_right p.number p.slots fresh_slot SLOTS_PER_PAGE is.slots all)
    ∙ (λ i. Ok (record {
      number = number_again p.number (flat_map slot_bytes p.slots) is.number i;
      slots = (slots_again p.number p.slots fresh_slot SLOTS_PER_PAGE is.slots all ∙ take_all SLOTS_PER_PAGE p.slots (let n = is.count in omega (arith, n))) i;
    }))
