use Rattle.std.proofs.Common.{sym, ap, subst, get_or, None, ◌∙◌, arith}
use Rattle.object_graph.specs.SlotParts.{SlotParts}
use Rattle.page_image.specs.Slots.{IsWholeSlot}
use Rattle.page_image.specs.Fields.{slot_of}
use Rattle.page_image.proofs.Images.{view_slot, whole_piece}
use Rattle.page_image.proofs.page.Page.reference.Goals as goal

pub reference_in-requires-clause-whole : goal.reference_in-requires-clause-whole
reference_in-requires-clause-whole c = subst IsWholeSlot (ap slot_of (sym c.piece.ensures.piece)) (whole_piece c.self.inside.bytes c.args.slot c.self.invariant (omega arith))

pub returns : goal.returns
returns c =
    let slot = ap slot_of c.piece.ensures.piece ∙ view_slot c.self.inside.bytes c.args.self.now c.args.slot c.self.view_is (omega arith) in
    c.reference_in.ensures ∙ ap (λ (s : SlotParts). get_or s.refs c.args.field None) slot
