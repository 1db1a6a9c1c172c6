use Rattle.std.proofs.Common.{◌≡◌, ℕ, ◌<◌, true}
use Rattle.page_image.specs.Pages.{slot_at}
use Rattle.cut_builder.proofs.tests.young.is_young.Given as goal

abbrev pub invariant-slots : goal.invariant-slots
invariant-slots l = (slot : ℕ) → slot < l.slot → (slot_at l.page slot).in_use ≡ true → (slot_at l.page slot).generation ≡ 1
