use Rattle.std.proofs.Common.{sym, ◌∙◌}
use Rattle.std.specs.List.{flat_map}
use Rattle.object_graph.specs.Slots.{below}
use Rattle.object_graph.specs.declared.sizes.TheConstants.{SLOTS_PER_PAGE}
use Rattle.page_image.specs.Fields.{header_fields, fields_of_slot}
use Rattle.page_image.proofs.Tables.{first_wrong-before, first_wrong-after}
use Rattle.page_image.proofs.wrong.first_wrong_field.Goals as goal

pub returns-then-has_no_wrong_field : goal.returns-then-has_no_wrong_field
returns-then-has_no_wrong_field c = sym (c.has_no_wrong_field.ensures c.if-has_no_wrong_field.true)

pub returns-in-Some : goal.returns-in-Some
returns-in-Some c = let bytes = c.args.bytes.now in sym (first_wrong-before (header_fields bytes) (flat_map (fields_of_slot bytes) (below SLOTS_PER_PAGE)) c.in-Some.at (sym c.in-Some.ensures))

pub returns-in-None : goal.returns-in-None
returns-in-None c = let bytes = c.args.bytes.now in c.wrong_in_slots.ensures ∙ sym (first_wrong-after (header_fields bytes) (flat_map (fields_of_slot bytes) (below SLOTS_PER_PAGE)) (sym c.in-None.ensures))
