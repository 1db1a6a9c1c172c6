use Rattle.std.proofs.Common.{◌≡◌, ℕ, Some, Option, sym, ◌∙◌, ap, inr, subst}
use Rattle.object_graph.specs.NameParts.{NameParts}
use Rattle.store_model.specs.FromImages.{is_name_in_use}
use Rattle.image_model.specs.Opening.{page_slots}
use Rattle.recovery.specs.Marks.{IsLeastDangling}
use Rattle.recovery.proofs.Rooted.{none_dangle, first_dangles}
use Rattle.recovery.proofs.check.check_pages.Goals as goal

pub returns-in-Ok-None-clause-rooted : goal.returns-in-Ok-None-clause-rooted
returns-in-Ok-None-clause-rooted c =
    none_dangle (page_slots c.args.pages.now) (sym (c.is_in_use.ensures ∙ ap (λ (n : NameParts). is_name_in_use (page_slots c.args.pages.now) n) c.root.ensures) ∙ c.if-not-is_in_use.false)
    (subst (λ (o : Option ℕ). IsLeastDangling (page_slots c.args.pages.now) o) c.in-Ok-None.field-0-is c.in-Ok-None.ensures)

pub returns-in-Ok-Some-clause-damaged : goal.returns-in-Ok-Some-clause-damaged
returns-in-Ok-Some-clause-damaged c at e =
    let is : c.in-Ok-Some.at ≡ at = cc e in
    inr (record {
      root = sym (c.is_in_use.ensures ∙ ap (λ (n : NameParts). is_name_in_use (page_slots c.args.pages.now) n) c.root.ensures) ∙ c.if-not-is_in_use.false;
      first = first_dangles (page_slots c.args.pages.now) c.in-Ok-Some.field-0 at (c.in-Ok-Some.field-0-is ∙ ap (λ (n : ℕ). let o : Option ℕ = Some n in o) is) c.in-Ok-Some.ensures;
    })
