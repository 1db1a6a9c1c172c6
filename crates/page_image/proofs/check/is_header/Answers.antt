use Rattle.std.proofs.Common.{◌<◌, sym, subst, ◌∙◌}
use Rattle.object_graph.specs.declared.limits.TheConstants.{MOST_PAGES}
use Rattle.page_image.proofs.Checks.{header_is}
use Rattle.page_image.proofs.check.is_header.Goals as goal

pub returns : goal.returns
returns c = λ yes.
    header_is c.args.bytes.now (sym c.u32_at.ensures ∙ c.if-u32_at-ne1129334577.false)
    (subst (λ n. n < MOST_PAGES) c.u32_at-else-u32_at-ne1129334577.ensures c.if-u32_at-ge-MOST_PAGES.false)
    (sym c.from.ensures ∙ (c.if-from-fields.false ∙ c.fields.ensures))
    (sym c.from-else-from-fields.ensures ∙ (c.if-from-slots.false ∙ c.slots.ensures))
    (sym c.u16_at.ensures ∙ c.if-u16_at-ne0.false) (sym c.u32_at-else-u16_at-ne0.ensures ∙ c.if-u32_at-ne0.false) (c.are_zero.ensures yes)
