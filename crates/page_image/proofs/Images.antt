-- The page that bytes say, and what it is after some of them are overwritten.
use Rattle.std.proofs.Common.{◌≡◌, ℕ, zero, suc, ◌+◌, ◌*◌, ◌^◌, ◌<◌, ◌≤◌, ◌&&◌, not, nat_lt, inl, inr, Bool, true, false, List, [], ◌∷◌, ◌++◌, Ok, None, Option, length, take, drop, map, get_or, replicate, refl, sym, ◌∙◌, ap, subst, arith, append_assoc}
use mir.Val.{bool_byte}
use Rattle.std.specs.Prelude.{slice_set}
use Rattle.std.specs.Int.{w64, to_be_bytes}
use Rattle.std.specs.List.{flat_map, AllByRecursion}
use Rattle.std.proofs.Math.Seq.{drop-append-add}
use Rattle.std.proofs.lemmas.Bool.{cases_lt, and_parts, ltb-true, lt-ltb, le-ltb}
use Rattle.std.proofs.lemmas.List.{append-nil, map-append, length-map, length-append, length-set, get_or_append_left, get_or_at, get_or_past, take-append-le, drop-append-le, drop_all, drop-drop, take_at, length-take-le, replicate-append-replicate, get_or-replicate}
use Rattle.object_graph.specs.NameParts.{NameParts}
use Rattle.object_graph.specs.SlotParts.{SlotParts}
use Rattle.object_graph.specs.Slots.{below}
use Rattle.object_graph.specs.declared.limits.TheConstants.{MOST_PAGES, LAST_GENERATION}
use Rattle.object_graph.specs.declared.names.TheConstants.{OBJECT_FIELDS}
use Rattle.object_graph.specs.declared.sizes.TheConstants.{SLOTS_PER_PAGE}
use Rattle.page_image.specs.Slots.{IsWholeSlot, IsReference, fresh_slot, taken, freed, slot_with_number, slot_with_ref, has_room}
use Rattle.page_image.specs.Pages.{PageParts, IsPage, IsFull, IsFirstWithRoom, slot_at, with_slot, empty_page}
use Rattle.page_image.specs.Spelling.{reference_number, state_byte, slot_bytes, header_bytes, page_bytes, AreBytes}
use Rattle.page_image.specs.Fields.{first_wrong, header_fields, slot_fields, fields_of_slot, slot_of, slot_piece, slot_start, page_of, page_at, page_fields, says_in_use, reference_of, number_in_bytes}
use Rattle.page_image.specs.Images.{page_said, IsImage, overwritten}
use Rattle.page_image.proofs.Tables.{right_at, slot_right-back, page_at-read, first_wrong-front, first_wrong-back}
use Rattle.page_image.proofs.Right.{slot_right, slot_fits, header_number}
use Rattle.page_image.proofs.Again.{page_again, whole_at, length-slot_bytes}
use Rattle.page_image.proofs.Takes.{part, part_bytes, length-part, page_takes}

-- what the bytes say, slot by slot
pub said_is : (bytes : List ℕ) → page_said bytes ≡ page_of bytes
unfolding page_said
said_is bytes = refl

length-below : (n : ℕ) → length (below n) ≡ n
length-below zero = refl
length-below (suc n) = length-append (below n) (n ∷ []) ∙ (let before = length-below n in omega (arith, before))

get_or-below : {X : Type 0} (f : ℕ → X) (m n : ℕ) (d : X) → n < m → get_or (map f (below m)) n d ≡ f n
get_or-below f zero n d among = absurd (omega (arith, among))
get_or-below f (suc m) n d among =
    let long : length (map f (below m)) ≡ m = length-map (below m) f ∙ length-below m in
    ap (λ l. get_or l n d) (map-append f (below m) (m ∷ []))
    ∙ elim (cases_lt n m) [
      | inl fewer ↦ get_or_append_left (map f (below m)) (f m ∷ []) d n (omega (arith, long, fewer)) ∙ get_or-below f m n d fewer
      | inr last ↦ let same : m ≡ n = omega (arith, last, among) in get_or_at (map f (below m)) (f m) [] d n (long ∙ same) ∙ ap f same
    ]

pub said_slot : (bytes : List ℕ) (n : ℕ) → n < SLOTS_PER_PAGE → slot_at (page_said bytes) n ≡ slot_of (slot_piece bytes n)
said_slot bytes n among = ap (λ p. slot_at p n) (said_is bytes) ∙ get_or-below (λ k. slot_of (slot_piece bytes k)) SLOTS_PER_PAGE n fresh_slot among

pub said_count : (bytes : List ℕ) → length (page_said bytes).slots ≡ SLOTS_PER_PAGE
said_count bytes = ap (λ p. length p.slots) (said_is bytes)

pub said_past : (bytes : List ℕ) (n : ℕ) → SLOTS_PER_PAGE ≤ n → slot_at (page_said bytes) n ≡ fresh_slot
said_past bytes n past = get_or_past (page_said bytes).slots n fresh_slot (let count = said_count bytes in omega (arith, count, past))

pub whole_said : (bytes : List ℕ) (n : ℕ) → IsImage bytes → n < SLOTS_PER_PAGE → IsWholeSlot (slot_at (page_said bytes) n)
whole_said bytes n is among = whole_at (page_said bytes).slots n fresh_slot is.page.slots (let count = said_count bytes in omega (arith, count, among))

pub whole_piece : (bytes : List ℕ) (n : ℕ) → IsImage bytes → n < SLOTS_PER_PAGE → IsWholeSlot (slot_of (slot_piece bytes n))
whole_piece bytes n is among = subst IsWholeSlot (said_slot bytes n among) (whole_said bytes n is among)

-- a page that is spelled is said
pub record IsSaid (bytes : List ℕ) (p : PageParts) : Type 0 where
  pub image : IsImage bytes
  pub page : page_said bytes ≡ p

pub image_of : (bytes : List ℕ) (p : PageParts) → IsPage p → bytes ≡ page_bytes p → IsSaid bytes p
image_of bytes p is spelled =
    let said : page_said bytes ≡ p = ap page_said spelled ∙ (said_is (page_bytes p) ∙ (page_at-read (page_bytes p) p (page_again p is)).page) in
    record { image = record { page = subst IsPage (sym said) is; spelled = ap page_bytes said ∙ sym spelled }; page = said }

-- what an image is read as
pub image_read : (bytes : List ℕ) → IsImage bytes → page_at bytes ≡ Ok (page_said bytes)
image_read bytes is = ap page_at (sym is.spelled) ∙ page_again (page_said bytes) is.page

-- what holds of each element, and of one more
all_more : {X : Type 0} (P : X → Type 0) (xs : List X) (x : X) → AllByRecursion P xs → P x → AllByRecursion P (xs ++ x ∷ [])
all_more P [] x are is = (is, tt)
all_more P (y ∷ xs) x are is = (are.0, all_more P xs x are.1 is)

-- bytes whose fields are right are an image
sum_2 : (a b : ℕ) → a < 256 → b < 256 → a * 256 + b < 65536
sum_2 a b fa fb = omega (arith, fa, fb)

sum_8 : (a b c d e f g h : ℕ) → a < 256 → b < 256 → c < 256 → d < 256 → e < 256 → f < 256 → g < 256 → h < 256
    → a * 72057594037927936 + b * 281474976710656 + c * 1099511627776 + d * 4294967296 + e * 16777216 + f * 65536 + g * 256 + h < 18446744073709551616
sum_8 a b c d e f g h fa fb fc fd fe ff fg fh = omega (arith, fa, fb, fc, fd, fe, ff, fg, fh)

piece_whole : (bytes : List ℕ) → length bytes ≡ 48 → AreBytes bytes → first_wrong (slot_fields bytes) ≡ None → IsWholeSlot (slot_of bytes)
piece_whole bytes long are is =
    let right = slot_right bytes is in
    let two : AreBytes (part bytes 2 2) = part_bytes bytes 2 2 (omega (arith, long)) are in
    let eight : AreBytes (part bytes 8 8) = part_bytes bytes 8 8 (omega (arith, long)) are in
    record {
      slot = slot_fits (says_in_use bytes) _ _ _ _ _ _ right.generation right.number right.references.first right.references.second right.references.third right.references.fourth;
      generation = sum_2 _ _ (two 0) (two 1);
      number = sum_8 _ _ _ _ _ _ _ _ (eight 0) (eight 1) (eight 2) (eight 3) (eight 4) (eight 5) (eight 6) (eight 7);
    }

all_whole : (bytes : List ℕ) (n : ℕ) → 64 + 48 * n ≤ length bytes → AreBytes bytes → ((k : ℕ) → k < n → first_wrong (slot_fields (slot_piece bytes k)) ≡ None)
    → AllByRecursion IsWholeSlot (map (λ (k : ℕ). slot_of (slot_piece bytes k)) (below n))
all_whole bytes zero within are right = tt
all_whole bytes (suc n) within are right =
    let read : ℕ → SlotParts = λ k. slot_of (slot_piece bytes k) in
    let here : 64 + 48 * n + 48 ≤ length bytes = omega (arith, within) in
    subst (AllByRecursion IsWholeSlot) (sym (map-append read (below n) (n ∷ [])))
    (all_more IsWholeSlot (map read (below n)) (read n) (all_whole bytes n (omega (arith, within)) are (λ k among. right k (omega (arith, among))))
    (piece_whole (slot_piece bytes n) (length-part bytes (slot_start n) 48 here) (part_bytes bytes (slot_start n) 48 here are) (right n (omega arith))))

pub right_image : (bytes : List ℕ) → length bytes ≡ 1024 → AreBytes bytes → first_wrong (page_fields bytes) ≡ None → IsImage bytes
right_image bytes long are right =
    let header = first_wrong-front (header_fields bytes) (flat_map (fields_of_slot bytes) (below SLOTS_PER_PAGE)) right in
    let slots = first_wrong-back (header_fields bytes) (flat_map (fields_of_slot bytes) (below SLOTS_PER_PAGE)) right in
    let each : (k : ℕ) → k < SLOTS_PER_PAGE → first_wrong (slot_fields (slot_piece bytes k)) ≡ None = λ k among. slot_right-back bytes k (right_at (fields_of_slot bytes) SLOTS_PER_PAGE k among slots) in
    let page : IsPage (page_of bytes) = record { number = header_number bytes header; count = refl; slots = all_whole bytes SLOTS_PER_PAGE (omega (arith, long)) are each } in
    (image_of bytes (page_of bytes) page (sym (page_takes bytes long are header slots))).image

-- a piece overwritten between others
take_add : (front rest : List ℕ) (k : ℕ) → take (length front + k) (front ++ rest) ≡ front ++ take k rest
take_add [] rest k = let same : 0 + k ≡ k = omega arith in ap (λ (n : ℕ). take n rest) same
take_add (b ∷ front) rest k = let next : suc (length front) + k ≡ suc (length front + k) = omega arith in ap (λ (n : ℕ). take n (b ∷ front ++ rest)) next ∙ ap (λ l. b ∷ l) (take_add front rest k)

over_between : (front piece rest new : List ℕ) (k : ℕ) → k + length new ≤ length piece → overwritten (front ++ (piece ++ rest)) (length front + k) new ≡ front ++ (overwritten piece k new ++ rest)
over_between front piece rest new k fits =
    let end : length front + k + length new ≡ length front + (k + length new) = omega arith in
    (λ i. (take_add front (piece ++ rest) k ∙ ap (λ l. front ++ l) (take-append-le k piece rest (omega (arith, fits)))) i
    ++ (new
    ++ (ap (λ (n : ℕ). drop n (front ++ (piece ++ rest))) end ∙ (drop-append-add front (piece ++ rest) (k + length new) ∙ drop-append-le (k + length new) piece rest fits)) i))
    ∙ (append_assoc front (take k piece) (new ++ (drop (k + length new) piece ++ rest))
    ∙ ap (λ l. front ++ l) (ap (λ l. take k piece ++ l) (sym (append_assoc new (drop (k + length new) piece) rest)) ∙ sym (append_assoc (take k piece) (new ++ drop (k + length new) piece) rest)))

-- a slot overwritten among the slots of a page
over_slots : (slots : List SlotParts) (front new : List ℕ) (n k at : ℕ) (d changed : SlotParts) → AllByRecursion IsWholeSlot slots → n < length slots → at ≡ length front + 48 * n + k → k + length new ≤ 48
    → overwritten (slot_bytes (get_or slots n d)) k new ≡ slot_bytes changed → overwritten (front ++ flat_map slot_bytes slots) at new ≡ front ++ flat_map slot_bytes (slice_set slots n changed)
over_slots [] front new n k at d changed whole among is fits over = absurd (omega (arith, among))
over_slots (s ∷ slots) front new zero k at d changed whole among is fits over =
    let first : at ≡ length front + k = omega (arith, is) in
    let long = length-slot_bytes s whole.0.slot.count in
    ap (λ (m : ℕ). overwritten (front ++ flat_map slot_bytes (s ∷ slots)) m new) first
    ∙ (over_between front (slot_bytes s) (flat_map slot_bytes slots) new k (omega (arith, long, fits))
    ∙ ap (λ l. front ++ (l ++ flat_map slot_bytes slots)) over)
over_slots (s ∷ slots) front new (suc n) k at d changed whole among is fits over =
    let long = length-slot_bytes s whole.0.slot.count in
    let longer : length (front ++ slot_bytes s) ≡ length front + 48 = length-append front (slot_bytes s) ∙ ap (λ (k : ℕ). length front + k) long in
    ap (λ l. overwritten l at new) (sym (append_assoc front (slot_bytes s) (flat_map slot_bytes slots)))
    ∙ (over_slots slots (front ++ slot_bytes s) new n k at d changed whole.1 (omega (arith, among)) (omega (arith, is, longer)) fits over
    ∙ append_assoc front (slot_bytes s) (flat_map slot_bytes (slice_set slots n changed)))

-- what holds of each element, where one is set
all_set : {X : Type 0} (P : X → Type 0) (xs : List X) (n : ℕ) (x : X) → AllByRecursion P xs → P x → AllByRecursion P (slice_set xs n x)
all_set P [] n x are is = tt
all_set P (y ∷ xs) zero x are is = (is, are.1)
all_set P (y ∷ xs) (suc n) x are is = (are.0, all_set P xs n x are.1 is)

-- a page with one slot overwritten
pub slot_written : (bytes new : List ℕ) (n k : ℕ) (changed : SlotParts) → IsImage bytes → n < SLOTS_PER_PAGE → k + length new ≤ 48 → IsWholeSlot changed → overwritten (slot_bytes (slot_at (page_said bytes) n)) k new ≡ slot_bytes changed
    → IsSaid (overwritten bytes (slot_start n + k) new) (record { number = (page_said bytes).number; slots = slice_set (page_said bytes).slots n changed })
slot_written bytes new n k changed is among fits whole over =
    let page = page_said bytes in
    let count = said_count bytes in
    image_of (overwritten bytes (slot_start n + k) new) (record { number = page.number; slots = slice_set page.slots n changed })
    (record { number = is.page.number; count = length-set page.slots n changed ∙ count; slots = all_set IsWholeSlot page.slots n changed is.page.slots whole })
    (ap (λ b. overwritten b (slot_start n + k) new) (sym is.spelled)
    ∙ over_slots page.slots (header_bytes page.number) new n k (slot_start n + k) fresh_slot changed is.page.slots (omega (arith, count, among)) refl fits over)

-- a number, a reference and a slot without them
pub number_over : (s : SlotParts) (number : ℕ) → overwritten (slot_bytes s) 8 (to_be_bytes w64 number) ≡ slot_bytes (slot_with_number number s)
number_over s number = refl

pub number_whole : (s : SlotParts) (number : ℕ) → IsWholeSlot s → s.in_use ≡ true → number < 2 ^ 64 → IsWholeSlot (slot_with_number number s)
number_whole s number is used small = record { slot = record { used = is.slot.used; free = λ free. absurd (cc (sym used ∙ free)); count = is.slot.count; refs = is.slot.refs }; generation = is.generation; number = small }

pub reference_over : (s : SlotParts) (field : ℕ) (target : Option NameParts) → length s.refs ≡ OBJECT_FIELDS → field < OBJECT_FIELDS → overwritten (slot_bytes s) (16 + 8 * field) (to_be_bytes w64 (reference_number target)) ≡ slot_bytes (slot_with_ref field target s)
reference_over s field target count among = by_refs s.in_use s.generation s.number s.refs field count among
  where
    by_refs : (in_use : Bool) (generation number : ℕ) (refs : List (Option NameParts)) (field : ℕ) → length refs ≡ OBJECT_FIELDS → field < OBJECT_FIELDS
        → overwritten (slot_bytes (record { in_use = in_use; generation = generation; number = number; refs = refs })) (16 + 8 * field) (to_be_bytes w64 (reference_number target))
        ≡ slot_bytes (record { in_use = in_use; generation = generation; number = number; refs = slice_set refs field target })
    by_refs in_use generation number [] field n among = absurd (cc n)
    by_refs in_use generation number (a ∷ []) field n among = absurd (omega (arith, n))
    by_refs in_use generation number (a ∷ b ∷ []) field n among = absurd (omega (arith, n))
    by_refs in_use generation number (a ∷ b ∷ c ∷ []) field n among = absurd (omega (arith, n))
    by_refs in_use generation number (a ∷ b ∷ c ∷ d ∷ []) zero n among = refl
    by_refs in_use generation number (a ∷ b ∷ c ∷ d ∷ []) (suc zero) n among = refl
    by_refs in_use generation number (a ∷ b ∷ c ∷ d ∷ []) (suc (suc zero)) n among = refl
    by_refs in_use generation number (a ∷ b ∷ c ∷ d ∷ []) (suc (suc (suc zero))) n among = refl
    by_refs in_use generation number (a ∷ b ∷ c ∷ d ∷ []) (suc (suc (suc (suc field)))) n among = absurd (omega (arith, among))
    by_refs in_use generation number (a ∷ b ∷ c ∷ d ∷ e ∷ more) field n among = absurd (omega (arith, n))

pub reference_whole : (s : SlotParts) (field : ℕ) (target : Option NameParts) → IsWholeSlot s → s.in_use ≡ true → IsReference target → IsWholeSlot (slot_with_ref field target s)
reference_whole s field target is used fits = record {
  slot = record { used = is.slot.used; free = λ free. absurd (cc (sym used ∙ free)); count = length-set s.refs field target ∙ is.slot.count; refs = all_set IsReference s.refs field target is.slot.refs fits };
  generation = is.generation;
  number = is.number;
}

pub whole_over : (s changed : SlotParts) → IsWholeSlot s → IsWholeSlot changed → overwritten (slot_bytes s) 0 (slot_bytes changed) ≡ slot_bytes changed
whole_over s changed is whole =
    let old = length-slot_bytes s is.slot.count in
    let new = length-slot_bytes changed whole.slot.count in
    ap (λ l. slot_bytes changed ++ l) (drop_all (0 + length (slot_bytes changed)) (slot_bytes s) (omega (arith, old, new))) ∙ append-nil (slot_bytes changed)

pub freed_whole : (s : SlotParts) → IsWholeSlot s → IsWholeSlot (freed s)
freed_whole s is = record { slot = record { used = λ used. absurd (cc used); free = λ _. (refl, refl); count = refl; refs = (tt, (tt, (tt, (tt, tt)))) }; generation = is.generation; number = omega arith }

pub taken_whole : (s : SlotParts) → s.generation < LAST_GENERATION → IsWholeSlot (taken s)
taken_whole s more = record { slot = record { used = λ _. omega arith; free = λ free. absurd (cc free); count = refl; refs = (tt, (tt, (tt, (tt, tt)))) }; generation = omega (arith, more); number = omega arith }

-- a page without objects
empties : (n : ℕ) → flat_map slot_bytes (replicate n fresh_slot) ≡ replicate (48 * n) 0
empties zero = refl
empties (suc n) =
    let next : 48 + 48 * n ≡ 48 * suc n = omega arith in
    let fresh : slot_bytes fresh_slot ≡ replicate 48 0 = refl in
    (λ i. fresh i ++ empties n i) ∙ (replicate-append-replicate 48 (48 * n) 0 ∙ ap (λ (k : ℕ). replicate k 0) next)

all_fresh : (n : ℕ) → AllByRecursion IsWholeSlot (replicate n fresh_slot)
all_fresh zero = tt
all_fresh (suc n) = (record { slot = record { used = λ used. absurd (cc used); free = λ _. (refl, refl); count = refl; refs = (tt, (tt, (tt, (tt, tt)))) }; generation = omega arith; number = omega arith }, all_fresh n)

pub empty_said : (bytes : List ℕ) (number : ℕ) → number < MOST_PAGES → bytes ≡ header_bytes number ++ replicate 960 0 → IsSaid bytes (empty_page number)
empty_said bytes number small is = image_of bytes (empty_page number) (record { number = small; count = refl; slots = all_fresh SLOTS_PER_PAGE }) (is ∙ ap (λ l. header_bytes number ++ l) (sym (empties SLOTS_PER_PAGE)))

-- of a page as contracts see it
pub view_among : (bytes : List ℕ) (page : PageParts) (n : ℕ) → page_said bytes ≡ page → n < length page.slots → n < SLOTS_PER_PAGE
view_among bytes page n is among = let count : length page.slots ≡ SLOTS_PER_PAGE = ap (λ p. length p.slots) (sym is) ∙ said_count bytes in omega (arith, count, among)

pub view_slot : (bytes : List ℕ) (page : PageParts) (n : ℕ) → page_said bytes ≡ page → n < SLOTS_PER_PAGE → slot_of (slot_piece bytes n) ≡ slot_at page n
view_slot bytes page n is among = sym (said_slot bytes n among) ∙ ap (λ p. slot_at p n) is

pub number_written : (bytes : List ℕ) (page : PageParts) (n number : ℕ) → IsImage bytes → page_said bytes ≡ page → n < length page.slots → (slot_at page n).in_use ≡ true → number < 2 ^ 64
    → IsSaid (overwritten bytes (slot_start n + 8) (to_be_bytes w64 number)) (with_slot page n (slot_with_number number))
number_written bytes page n number is view among used small =
    subst (λ p. n < length p.slots → (slot_at p n).in_use ≡ true → IsSaid (overwritten bytes (slot_start n + 8) (to_be_bytes w64 number)) (with_slot p n (slot_with_number number))) view
    (λ among used.
    let fewer = view_among bytes (page_said bytes) n refl among in
    let s = slot_at (page_said bytes) n in
    slot_written bytes (to_be_bytes w64 number) n 8 (slot_with_number number s) is fewer (omega arith) (number_whole s number (whole_said bytes n is fewer) used small) (number_over s number))
    among used

pub reference_written : (bytes : List ℕ) (page : PageParts) (n field : ℕ) (target : Option NameParts) → IsImage bytes → page_said bytes ≡ page → n < length page.slots → (slot_at page n).in_use ≡ true → field < length (slot_at page n).refs → IsReference target
    → IsSaid (overwritten bytes (slot_start n + (16 + 8 * field)) (to_be_bytes w64 (reference_number target))) (with_slot page n (slot_with_ref field target))
reference_written bytes page n field target is view among used there fits =
    subst (λ p. n < length p.slots → (slot_at p n).in_use ≡ true → field < length (slot_at p n).refs → IsSaid (overwritten bytes (slot_start n + (16 + 8 * field)) (to_be_bytes w64 (reference_number target))) (with_slot p n (slot_with_ref field target))) view
    (λ among used there.
    let fewer = view_among bytes (page_said bytes) n refl among in
    let s = slot_at (page_said bytes) n in
    let whole = whole_said bytes n is fewer in
    let count = whole.slot.count in
    let low : field < OBJECT_FIELDS = omega (arith, count, there) in
    slot_written bytes (to_be_bytes w64 (reference_number target)) n (16 + 8 * field) (slot_with_ref field target s) is fewer (omega (arith, low)) (reference_whole s field target whole used fits) (reference_over s field target count low))
    among used there

pub view_whole : (bytes : List ℕ) (page : PageParts) (n : ℕ) → IsImage bytes → page_said bytes ≡ page → n < length page.slots → IsWholeSlot (slot_at page n)
view_whole bytes page n is view among = subst (λ p. IsWholeSlot (slot_at p n)) view (whole_said bytes n is (view_among bytes page n view among))

pub whole_written : (bytes : List ℕ) (page : PageParts) (n : ℕ) (changed : SlotParts) → IsImage bytes → page_said bytes ≡ page → n < length page.slots → IsWholeSlot changed
    → IsSaid (overwritten bytes (slot_start n) (slot_bytes changed)) (record { number = page.number; slots = slice_set page.slots n changed })
whole_written bytes page n changed is view among whole =
    subst (λ p. n < length p.slots → IsSaid (overwritten bytes (slot_start n) (slot_bytes changed)) (record { number = p.number; slots = slice_set p.slots n changed })) view
    (λ among.
    let fewer = view_among bytes (page_said bytes) n refl among in
    let long = length-slot_bytes changed whole.slot.count in
    let start : slot_start n + 0 ≡ slot_start n = omega arith in
    subst (λ (at : ℕ). IsSaid (overwritten bytes at (slot_bytes changed)) (record { number = (page_said bytes).number; slots = slice_set (page_said bytes).slots n changed })) start
    (slot_written bytes (slot_bytes changed) n 0 changed is fewer (omega (arith, long)) whole (whole_over (slot_at (page_said bytes) n) changed (whole_said bytes n is fewer) whole)))
    among

-- a piece overwritten behind another
pub over_twice : (bytes head tail : List ℕ) (at next : ℕ) → at + length head ≡ next → next + length tail ≤ length bytes → overwritten (overwritten bytes at head) next tail ≡ overwritten bytes at (head ++ tail)
over_twice bytes head tail at next is fits =
    let start : length (take at bytes) ≡ at = length-take-le at bytes (omega (arith, is, fits)) in
    let before : length (take at bytes ++ head) ≡ next = length-append (take at bytes) head ∙ (ap (λ (k : ℕ). k + length head) start ∙ is) in
    let rest : List ℕ = drop (at + length head) bytes in
    let whole : overwritten bytes at head ≡ (take at bytes ++ head) ++ rest = sym (append_assoc (take at bytes) head rest) in
    let end : next + length tail ≡ length (take at bytes ++ head) + length tail = ap (λ (k : ℕ). k + length tail) (sym before) in
    let last : at + length head + length tail ≡ at + length (head ++ tail) = (let both = length-append head tail in omega (arith, both)) in
    (λ i. (ap (take next) whole ∙ take_at (take at bytes ++ head) rest next before) i
    ++ (tail
    ++ ((λ j. drop (end j) (whole j)) ∙ (drop-append-add (take at bytes ++ head) rest (length tail) ∙ (drop-drop (length tail) (at + length head) bytes ∙ ap (λ (k : ℕ). drop k bytes) last))) i))
    ∙ (append_assoc (take at bytes) head (tail ++ drop (at + length (head ++ tail)) bytes)
    ∙ ap (λ l. take at bytes ++ l) (sym (append_assoc head tail (drop (at + length (head ++ tail)) bytes))))

-- where a new object goes
pub room_first : (bytes : List ℕ) (slot : ℕ) → slot < SLOTS_PER_PAGE → has_room (slot_of (slot_piece bytes slot)) ≡ true → ((s : ℕ) → s < slot → has_room (slot_of (slot_piece bytes s)) ≡ false) → IsFirstWithRoom (page_said bytes) slot
room_first bytes slot among room least = record {
  within = let count = said_count bytes in omega (arith, count, among);
  room = ap has_room (said_slot bytes slot among) ∙ room;
  least = λ s less. ap has_room (said_slot bytes s (omega (arith, less, among))) ∙ least s less;
}

pub room_none : (bytes : List ℕ) → ((s : ℕ) → s < SLOTS_PER_PAGE → has_room (slot_of (slot_piece bytes s)) ≡ false) → IsFull (page_said bytes)
room_none bytes none = λ s among. let fewer = view_among bytes (page_said bytes) s refl among in ap has_room (said_slot bytes s fewer) ∙ none s fewer

-- the slots in use
pub used_said : (bytes : List ℕ) (s : ℕ) → (nat_lt s SLOTS_PER_PAGE && (slot_of (slot_piece bytes s)).in_use) ≡ (slot_at (page_said bytes) s).in_use
used_said bytes s =
    elim (cases_lt s SLOTS_PER_PAGE) [
      | inl among ↦ ap (λ b. b && (slot_of (slot_piece bytes s)).in_use) (lt-ltb s SLOTS_PER_PAGE among) ∙ sym (ap (λ t. t.in_use) (said_slot bytes s among))
      | inr past ↦ ap (λ b. b && (slot_of (slot_piece bytes s)).in_use) (le-ltb s SLOTS_PER_PAGE past) ∙ sym (ap (λ t. t.in_use) (said_past bytes s past))
    ]

-- the generation that a piece stores, as contracts see it
pub view_generation : (bytes piece : List ℕ) (page : PageParts) (n generation : ℕ) → page_said bytes ≡ page → n < length page.slots → piece ≡ slot_piece bytes n → generation ≡ (slot_of piece).generation → generation ≡ (slot_at page n).generation
view_generation bytes piece page n generation view among is said = said ∙ ap (λ s. s.generation) (ap slot_of is ∙ view_slot bytes page n view (view_among bytes page n view among))

pub room_left : (page : PageParts) (n : ℕ) → has_room (slot_at page n) ≡ true → (slot_at page n).generation < LAST_GENERATION
room_left page n room = ltb-true (slot_at page n).generation LAST_GENERATION (and_parts (not (slot_at page n).in_use) (nat_lt (slot_at page n).generation LAST_GENERATION) room).1

-- a page after a slot was made bare
pub bare_written : (bytes out : List ℕ) (page : PageParts) (n generation : ℕ) (in_use : Bool) (changed : SlotParts) → IsImage bytes → page_said bytes ≡ page → n < length page.slots → IsWholeSlot changed
    → record { in_use = in_use; generation = generation; number = 0; refs = replicate OBJECT_FIELDS None } ≡ changed
    → out ≡ overwritten bytes (slot_start n) (slot_bytes (record { in_use = in_use; generation = generation; number = 0; refs = replicate OBJECT_FIELDS None }))
    → IsSaid out (record { number = page.number; slots = slice_set page.slots n changed })
bare_written bytes out page n generation in_use changed is view among whole bare written =
    subst (λ b. IsSaid b (record { number = page.number; slots = slice_set page.slots n changed })) (sym (written ∙ ap (λ s. overwritten bytes (slot_start n) (slot_bytes s)) bare)) (whole_written bytes page n changed is view among whole)

pub slot_freed_written : (bytes out : List ℕ) (page : PageParts) (n generation : ℕ) → IsImage bytes → page_said bytes ≡ page → n < length page.slots → generation ≡ (slot_at page n).generation
    → out ≡ overwritten bytes (slot_start n) (slot_bytes (record { in_use = false; generation = generation; number = 0; refs = replicate OBJECT_FIELDS None }))
    → IsSaid out (with_slot page n freed)
slot_freed_written bytes out page n generation is view among stored written =
    bare_written bytes out page n generation false (freed (slot_at page n)) is view among (freed_whole (slot_at page n) (view_whole bytes page n is view among)) (λ i. record { in_use = false; generation = stored i; number = 0; refs = replicate OBJECT_FIELDS None }) written

pub slot_taken_written : (bytes out : List ℕ) (page : PageParts) (n generation : ℕ) → IsImage bytes → page_said bytes ≡ page → n < length page.slots → (slot_at page n).generation < LAST_GENERATION → generation ≡ (slot_at page n).generation
    → out ≡ overwritten bytes (slot_start n) (slot_bytes (record { in_use = true; generation = generation + 1; number = 0; refs = replicate OBJECT_FIELDS None }))
    → IsSaid out (with_slot page n taken)
slot_taken_written bytes out page n generation is view among left stored written =
    bare_written bytes out page n (generation + 1) true (taken (slot_at page n)) is view among (taken_whole (slot_at page n) left) (λ i. record { in_use = true; generation = stored i + 1; number = 0; refs = replicate OBJECT_FIELDS None }) written

-- the byte of a state
pub state_is : (b : Bool) → bool_byte b ≡ state_byte b
state_is true = refl
state_is false = refl

-- ---- a reference by its number

-- the reference in a field is what stands at its offset, and is none or a name
pub reference_there : (bytes : List ℕ) (field : ℕ) → field < OBJECT_FIELDS
    → get_or (slot_of bytes).refs field None ≡ reference_of (number_in_bytes w64 bytes (16 + 8 * field))
reference_there bytes zero h = refl
reference_there bytes (suc zero) h = refl
reference_there bytes (suc (suc zero)) h = refl
reference_there bytes (suc (suc (suc zero))) h = refl
reference_there bytes (suc (suc (suc (suc field)))) h = absurd (omega (arith, h))

reference_at : (refs : List (Option NameParts)) (field : ℕ) → AllByRecursion IsReference refs → field < length refs → IsReference (get_or refs field None)
reference_at [] field all h = absurd (omega (arith, h))
reference_at (target ∷ refs) zero all h = all.0
reference_at (target ∷ refs) (suc field) all h = reference_at refs field all.1 (omega (arith, h))

pub reference_is : (bytes : List ℕ) (field : ℕ) → IsWholeSlot (slot_of bytes) → field < OBJECT_FIELDS → IsReference (reference_of (number_in_bytes w64 bytes (16 + 8 * field)))
reference_is bytes field whole h =
    let count = whole.slot.count in
    subst IsReference (reference_there bytes field h) (reference_at (slot_of bytes).refs field whole.slot.refs (omega (arith, count, h)))

-- a slot past the last has no reference
pub no_reference : (bytes : List ℕ) (slot field : ℕ) → SLOTS_PER_PAGE ≤ slot → field < OBJECT_FIELDS → get_or (slot_at (page_said bytes) slot).refs field None ≡ None
no_reference bytes slot field past h = ap (λ (s : SlotParts). get_or s.refs field None) (said_past bytes slot past) ∙ get_or-replicate OBJECT_FIELDS field None None h
