use Rattle.std.proofs.Common.{ℕ, ◌==◌, ◌&&◌, Bool, sym, ap, ◌∙◌, arith}
use Rattle.object_graph.specs.SlotParts.{SlotParts}
use Rattle.page_image.specs.Fields.{slot_of}
use Rattle.page_image.proofs.Images.{said_slot, said_past}
use Rattle.page_image.proofs.page.holds_at.Goals as goal

abbrev holds : ℕ → SlotParts → Bool
holds of slot = slot.in_use && slot.generation == of

pub returns-then-at-slots : goal.returns-then-at-slots
returns-then-at-slots c = sym (ap (holds c.args.of) (said_past c.args.bytes.now c.args.at (omega (arith, c.slots.ensures, c.if-at-slots.true))))

pub returns-then-in_use : goal.returns-then-in_use
returns-then-in_use c =
    let here = ap slot_of c.piece-slot.ensures.piece ∙ sym (said_slot c.args.bytes.now c.args.at (omega (arith, c.slots.ensures, c.if-at-slots.false))) in
    let read = slot_of c.piece-slot.result.now in
    let used = sym c.in_use.ensures ∙ c.if-in_use.true in
    ap (λ n. n == c.args.of) c.generation.ensures ∙ (sym (ap (λ b. b && read.generation == c.args.of) used) ∙ ap (holds c.args.of) here)

pub returns-else-in_use : goal.returns-else-in_use
returns-else-in_use c =
    let here = ap slot_of c.piece-slot.ensures.piece ∙ sym (said_slot c.args.bytes.now c.args.at (omega (arith, c.slots.ensures, c.if-at-slots.false))) in
    let read = slot_of c.piece-slot.result.now in
    let unused = sym c.in_use.ensures ∙ c.if-in_use.false in
    c.if-in_use.false ∙ (sym (ap (λ b. b && read.generation == c.args.of) unused) ∙ ap (holds c.args.of) here)
