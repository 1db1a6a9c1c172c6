use Rattle.std.proofs.Common.{◌≡◌, ◌+◌, Some, None, suc, sym, ap, subst, arith, ◌∙◌}
use Rattle.std.specs.List.{flat_map}
use Rattle.object_graph.specs.Slots.{below}
use Rattle.object_graph.specs.declared.sizes.TheConstants.{SLOTS_PER_PAGE}
use Rattle.page_image.specs.Fields.{first_wrong, fields_of_slot, slot_fields, slot_start}
use Rattle.page_image.proofs.Tables.{one_more_right, one_wrong, wrong_among, slot_right-moved, slot_wrong-moved}
use Rattle.page_image.proofs.wrong.wrong_in_slots.Goals as goal

pub returns-in-Some : goal.returns-in-Some
returns-in-Some c =
    let bytes = c.args.bytes.now in
    let slot = c.loop-slot.slot in
    let wrong = sym (ap (λ piece. first_wrong (slot_fields piece)) (sym c.piece.ensures.piece) ∙ sym c.in-Some.ensures.first) in
    ap (λ n. Some (n + c.in-Some.at)) c.slot_start.ensures.start
    ∙ sym (wrong_among (fields_of_slot bytes) SLOTS_PER_PAGE (suc slot) (slot_start slot + c.in-Some.at) (omega (arith, c.loop-slot-test.true)) (one_wrong (fields_of_slot bytes) slot (slot_start slot + c.in-Some.at) c.loop-slot.invariant (slot_wrong-moved bytes slot c.in-Some.at (sym wrong))))

pub loop-slot-preserved : goal.loop-slot-preserved
loop-slot-preserved c =
    let bytes = c.args.bytes.now in
    let slot = c.loop-slot.slot in
    let right = ap (λ piece. first_wrong (slot_fields piece)) (sym c.piece.ensures.piece) ∙ sym c.in-None.ensures.first in
    let next : suc slot ≡ slot + 1 = omega arith in
    subst (λ n. first_wrong (flat_map (fields_of_slot bytes) (below n)) ≡ None) next (one_more_right (fields_of_slot bytes) slot c.loop-slot.invariant (slot_right-moved bytes slot right))

pub returns : goal.returns
returns c =
    let all : c.loop-slot.slot ≡ SLOTS_PER_PAGE = omega (arith, c.loop-slot-test.false, c.loop-slot.auto.slot-end) in
    sym (subst (λ n. first_wrong (flat_map (fields_of_slot c.args.bytes.now) (below n)) ≡ None) all c.loop-slot.invariant)
