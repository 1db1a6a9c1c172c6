-- Pages and frames after some slots were freed.
use Rattle.std.proofs.Common.{◌≡◌, ℕ, ◌^◌, ◌<◌, ◌≤◌, ◌⊎◌, inl, inr, Bool, true, false, List, length, slice_index_or, slice_set, refl, sym, ◌∙◌, ap, subst, arith, if◌then◌else◌}
use Rattle.std.proofs.lemmas.Bool.{cases_lt}
use Rattle.std.proofs.lemmas.List.{ext_get_or, get_or_past, length-set}
use Rattle.std.proofs.lemmas.List.Elements.{All-set}
use Rattle.std.proofs.lemmas.List.FromFn.{get_or-map-range_with_len, length-map-range_with_len}
use Rattle.object_graph.specs.Slots.{has_slot}
use Rattle.object_graph.specs.SlotParts.{SlotParts}
use Rattle.page_image.specs.Slots.{fresh_slot, freed}
use Rattle.page_image.specs.Pages.{PageParts, slot_at, slot_freed}
use Rattle.page_buffer.specs.declared.frame.Frame.{Frame}
use Rattle.page_buffer.specs.Frames.{freed_page, freed_frame, IsFrame, AreFrames}

-- freeing an empty place leaves it empty
empty_freed : (b : Bool) → fresh_slot ≡ (if b then freed fresh_slot else fresh_slot)
empty_freed true = refl
empty_freed false = refl

-- each slot of the freed page
pub slot_at-freed_page : (slots : ℕ) (page : PageParts) (slot : ℕ) → slot_at (freed_page slots page) slot ≡ slot_freed slots slot (slot_at page slot)
slot_at-freed_page slots page slot = by (cases_lt slot (length page.slots))
  where
    change : ℕ → SlotParts
    change s = slot_freed slots s (slot_at page s)

    by : (slot < length page.slots) ⊎ (length page.slots ≤ slot) → slot_at (freed_page slots page) slot ≡ change slot
    by (inl among) = get_or-map-range_with_len change 0 (length page.slots) slot slot fresh_slot among (omega arith)
    by (inr past) =
        get_or_past (freed_page slots page).slots slot fresh_slot (let long = length-map-range_with_len change 0 (length page.slots) in omega (arith, past, long))
        ∙ (empty_freed (has_slot slots slot) ∙ sym (ap (λ (s : SlotParts). slot_freed slots slot s) (get_or_past page.slots slot fresh_slot past)))

-- a page whose slots are those of the freed page
pub is_freed_page : (slots : ℕ) (page new : PageParts) → new.number ≡ page.number → length new.slots ≡ length page.slots
    → ((slot : ℕ) → slot_at new slot ≡ slot_freed slots slot (slot_at page slot)) → new ≡ freed_page slots page
is_freed_page slots page new number count each = λ i. record { number = number i; slots = same i }
  where
    change : ℕ → SlotParts
    change s = slot_freed slots s (slot_at page s)

    same : new.slots ≡ (freed_page slots page).slots
    same = ext_get_or fresh_slot new.slots (freed_page slots page).slots (count ∙ sym (length-map-range_with_len change 0 (length page.slots)))
        (λ slot among. each slot ∙ sym (slot_at-freed_page slots page slot))

-- a slot that is in use after the freeing was so before, and stays so wherever it was in use
still : (b : Bool) (before current : SlotParts) → (before.in_use ≡ true → current.in_use ≡ true)
    → (if b then freed before else before).in_use ≡ true → (if b then freed current else current).in_use ≡ true
still true before current kept e = e
still false before current kept e = kept e

-- a frame stays one when slots are freed in both of its images
pub frame_freed : (slots : ℕ) (frame : Frame) → IsFrame frame → IsFrame (freed_frame slots frame)
frame_freed slots frame is = record {
  clean = λ e. ap (freed_page slots) (is.clean e);
  number = is.number;
  kept = λ slot e.
      ap (λ (s : SlotParts). s.in_use) (slot_at-freed_page slots frame.current slot)
      ∙ still (has_slot slots slot) (slot_at frame.before slot) (slot_at frame.current slot) (is.kept slot)
      (sym (ap (λ (s : SlotParts). s.in_use) (slot_at-freed_page slots frame.before slot)) ∙ e);
}

-- and so do all frames of a buffer
pub frames_freed : (slots page : ℕ) (frames : List Frame) (frame new default : Frame) → page < length frames
    → frame ≡ slice_index_or frames page default → new ≡ freed_frame slots frame → AreFrames frames → AreFrames (slice_set frames page new)
frames_freed slots page frames frame new default within at is are = record {
  few = subst (λ (n : ℕ). n < 2 ^ 32) (sym (length-set frames page new)) are.few;
  each = All-set IsFrame frames page new (subst IsFrame (sym is) (frame_freed slots frame (subst IsFrame (sym at) (are.each page default within)))) are.each;
}
