use Rattle.std.proofs.Common.{◌≡◌, ◌&&◌, nat_lt, ap, ◌∙◌, arith}
use Rattle.object_graph.specs.declared.sizes.TheConstants.{SLOTS_PER_PAGE}
use Rattle.page_image.specs.Fields.{slot_of, slot_piece}
use Rattle.page_image.proofs.Images.{used_said}
use Rattle.page_image.proofs.page.used_among.Goals as goal

pub returns : goal.returns
returns c = λ s.
    let all : c.loop-slot.slot ≡ SLOTS_PER_PAGE = omega (arith, c.slots-slot-end.ensures, c.loop-slot-test.false, c.loop-slot.auto.slot-end) in
    c.loop-slot.invariant s ∙ (ap (λ n. nat_lt s n && (slot_of (slot_piece c.args.bytes.now s)).in_use) all ∙ used_said c.args.bytes.now s)
