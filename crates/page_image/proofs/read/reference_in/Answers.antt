use Rattle.std.proofs.Common.{sym, subst, ap, ◌∙◌}
use Rattle.page_image.specs.Slots.{IsReference}
use Rattle.page_image.specs.Fields.{reference_of}
use Rattle.page_image.proofs.Images.{reference_there, reference_is}
use Rattle.page_image.proofs.read.reference_in.Goals as goal

pub reference_at-requires : goal.reference_at-requires
reference_at-requires c = subst (λ n. IsReference (reference_of n)) (sym c.u64_at.ensures) (reference_is c.args.slot.now c.args.field c.requires.whole c.requires.field)

pub returns : goal.returns
returns c = c.reference_at.ensures ∙ (ap reference_of c.u64_at.ensures ∙ sym (reference_there c.args.slot.now c.args.field c.requires.field))
