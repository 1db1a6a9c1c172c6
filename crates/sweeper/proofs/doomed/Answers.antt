use Rattle.std.proofs.Common.{◌≡◌, ◌&&◌, not, List, Some, refl, subst, ap, ◌∙◌}
use Rattle.object_graph.specs.SlotParts.{SlotParts}
use Rattle.object_graph.specs.Slots.{has_slot}
use Rattle.store_model.specs.Images.{no_slot}
use Rattle.page_image.specs.Slots.{fresh_slot}
use Rattle.cut_model.specs.CutPages.{settled_image}
use Rattle.cut_model.specs.Doomed.{is_doomed}
use Rattle.cut_builder.specs.CutParts.{ClosedParts, page_in_cut, cut_starts, marks_of, HasOneNameEach}
use Rattle.cut_model.proofs.Places.{doomed_names}
use Rattle.sweeper.proofs.Left.{in_use_either}
use Rattle.sweeper.proofs.doomed.Goals as goal

pub returns-clause-doomed : goal.returns-clause-doomed
returns-clause-doomed c image settled slot =
    let page = c.args.page in
    let found = c.settled-image.result.now.slots in
    let cut = c.cut-cut.ensures.cut in
    let born = c.born.ensures ∙ ap (λ (k : ClosedParts). (page_in_cut k.pages page).born) cut in
    let is : settled_image (page_in_cut c.args.marked.now.cut.pages page) ≡ Some found =
    subst (λ (k : ClosedParts). settled_image (page_in_cut k.pages page) ≡ Some found) cut c.settled-image.ensures.image in
    let same : found ≡ image = cc in
    let used = c.used.ensures slot ∙ in_use_either found slot fresh_slot no_slot refl in
    c.doomed_among.ensures slot
    ∙ ((λ i. used i && (not (has_slot (born i) slot) && not (has_slot (c.marks.ensures.marks i) slot)))
    ∙ ap (λ (f : List SlotParts). is_doomed f (page_in_cut c.args.marked.now.cut.pages page).born (marks_of c.args.marked.now.marks page) slot) same)

pub returns-clause-names : goal.returns-clause-names
returns-clause-names c =
    let m = c.args.marked.now in
    let page = c.args.page in
    let image = c.settled-image.result.now.slots in
    let cut = c.cut-cut.ensures.cut in
    let settled = subst (λ (k : ClosedParts). settled_image (page_in_cut k.pages page) ≡ Some image) cut c.settled-image.ensures.image in
    let names = subst (λ (k : ClosedParts). HasOneNameEach k.pages) cut c.is_closed.ensures.names in
    doomed_names (cut_starts m.cut) m.cut.pages (marks_of m.marks) page c.doomed_among.result image names.once c.requires settled c.marks.ensures.exact (returns-clause-doomed c image settled)
