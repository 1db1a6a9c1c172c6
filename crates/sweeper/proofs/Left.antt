-- The doomed slots of a page, slot by slot.
use Rattle.std.proofs.Common.{◌≡◌, ℕ, List, length, get_or, sym, ap, ◌∙◌, inl, inr}
use Rattle.std.proofs.lemmas.Bool.{cases_lt}
use Rattle.std.proofs.lemmas.List.{get_or_default, get_or_past}
use Rattle.object_graph.specs.SlotParts.{SlotParts}

-- what is in use, whatever stands past the end
pub in_use_either : (image : List SlotParts) (slot : ℕ) (a b : SlotParts) → a.in_use ≡ b.in_use → (get_or image slot a).in_use ≡ (get_or image slot b).in_use
in_use_either image slot a b e = elim (cases_lt slot (length image)) [
  | inl h ↦ ap (λ (s : SlotParts). s.in_use) (get_or_default image slot a b h)
  | inr h ↦ ap (λ (s : SlotParts). s.in_use) (get_or_past image slot a h) ∙ (e ∙ sym (ap (λ (s : SlotParts). s.in_use) (get_or_past image slot b h)))
]
