-- The image of a page, slot by slot.
use Rattle.std.proofs.Common.{◌≡◌, ◌≢◌, ℕ, ◌<◌, List, map, length, sym, ap, ◌∙◌, inl, inr, arith, get_or, set, get_or-set_same, get_or-set_other}
use Rattle.std.proofs.lemmas.Bool.{cases_eq}
use Rattle.std.proofs.lemmas.List.{same_lists, length-set}
use Rattle.object_graph.specs.NameParts.{NameParts}
use Rattle.object_graph.specs.SlotParts.{SlotParts}
use Rattle.object_graph.specs.ObjectParts.{ObjectParts}
use Rattle.object_graph.specs.Slots.{below}
use Rattle.store_model.specs.Images.{shown_slot, shown_of}
use Rattle.store_model.proofs.Flats.{length-map_below, get-map_below}

-- one place changes
set-over : {A : Type 0} (f g : ℕ → A) (n k : ℕ) (x : A) → k < n → g k ≡ x → ((j : ℕ) → j < n → j ≢ k → g j ≡ f j)
    → set (map f (below n)) k x ≡ map g (below n)
set-over f g n k x h is others =
    same_lists (set (map f (below n)) k x) (map g (below n))
    (length-set (map f (below n)) k x ∙ (length-map_below f n ∙ sym (length-map_below g n)))
    (λ j d lt.
    let l1 = length-set (map f (below n)) k x in
    let l2 = length-map_below f n in
    let below_n : j < n = omega arith in
    let inside : k < length (map f (below n)) = omega arith in
    elim (cases_eq j k) [
      | inl e ↦ ap (λ i. get_or (set (map f (below n)) k x) i d) e ∙ (get_or-set_same (map f (below n)) k x d inside ∙ (sym is ∙ (ap g (sym e) ∙ sym (get-map_below g n j d below_n))))
      | inr ne ↦ get_or-set_other (map f (below n)) k j x d ne ∙ (get-map_below f n j d below_n ∙ (sym (others j below_n ne) ∙ sym (get-map_below g n j d below_n)))
    ])

-- ---- the image

pub length-shown : (slots fields : ℕ) (graph : List ObjectParts) (freed : List NameParts) (page : ℕ) → length (shown_of slots fields graph freed page) ≡ slots
unfolding shown_of
length-shown slots fields graph freed page = length-map_below (shown_slot fields graph freed page) slots

pub get-shown : (slots fields : ℕ) (graph : List ObjectParts) (freed : List NameParts) (page slot : ℕ) (d : SlotParts) → slot < slots
    → get_or (shown_of slots fields graph freed page) slot d ≡ shown_slot fields graph freed page slot
unfolding shown_of
get-shown slots fields graph freed page slot d lt = get-map_below (shown_slot fields graph freed page) slots slot d lt

-- an image that has these slots
pub shown_from : (slots fields : ℕ) (graph : List ObjectParts) (freed : List NameParts) (page : ℕ) (image : List SlotParts) → length image ≡ slots
    → ((slot : ℕ) (d : SlotParts) → slot < slots → get_or image slot d ≡ shown_slot fields graph freed page slot) → image ≡ shown_of slots fields graph freed page
shown_from slots fields graph freed page image count each =
    same_lists image (shown_of slots fields graph freed page) (count ∙ sym (length-shown slots fields graph freed page))
    (λ slot d lt. let low : slot < slots = omega arith in each slot d low ∙ sym (get-shown slots fields graph freed page slot d low))

-- two images with the same slots
pub same_shown : (slots fields : ℕ) (one two : List ObjectParts) (freed freed2 : List NameParts) (page : ℕ)
    → ((slot : ℕ) → slot < slots → shown_slot fields one freed page slot ≡ shown_slot fields two freed2 page slot) → shown_of slots fields one freed page ≡ shown_of slots fields two freed2 page
same_shown slots fields one two freed freed2 page each =
    shown_from slots fields two freed2 page (shown_of slots fields one freed page) (length-shown slots fields one freed page)
    (λ slot d lt. get-shown slots fields one freed page slot d lt ∙ each slot lt)

-- an image of which one slot differs
pub set-shown : (slots fields : ℕ) (old new : List ObjectParts) (freed : List NameParts) (page slot : ℕ) (x : SlotParts) → slot < slots
    → shown_slot fields new freed page slot ≡ x → ((j : ℕ) → j < slots → j ≢ slot → shown_slot fields new freed page j ≡ shown_slot fields old freed page j)
    → set (shown_of slots fields old freed page) slot x ≡ shown_of slots fields new freed page
unfolding shown_of
set-shown slots fields old new freed page slot x lt is others = set-over (shown_slot fields old freed page) (shown_slot fields new freed page) slots slot x lt is others
