use Rattle.std.proofs.Common.{sym, subst}
use Rattle.page_image.specs.Pages.{PageParts, IsPage, slot_at}
use Rattle.cut_builder.specs.CutParts.{page_in_cut, image_of}
use Rattle.mark_pool.specs.Walks.{AreMarked}
use Rattle.mark_pool.proofs.Edges.{targets_are_marked}
use Rattle.mark_pool.proofs.Images.{some_image}
use Rattle.mark_pool.proofs.scan.follow_image.Goals as goal

pub follow_all-requires-clause-marked : goal.follow_all-requires-clause-marked
follow_all-requires-clause-marked c =
    let cut = c.args.cut.now in
    let at = c.args.at.now in
    let there = some_image (image_of (page_in_cut cut.pages at.page) c.args.which) at.page c.in-Some.image.now c.in-Some.ensures in
    subst (λ (p : PageParts). AreMarked cut (slot_at p at.slot).refs) there.2
    (targets_are_marked cut at.page at.slot c.args.which there.0 c.requires.names c.requires.at.page_within there.1 (subst IsPage (sym there.2) c.is_page.ensures) c.requires.at.mark)
