use Rattle.std.proofs.Common.{◌≡◌, ◌≤◌, ◌++◌, ◌∷◌, [], length, sym, subst, ap, ◌∙◌, arith, List}
use Rattle.std.specs.Bool.{IsTrue}
use Rattle.object_graph.specs.declared.limits.TheConstants.{MOST_PAGES}
use Rattle.store_model.specs.FromImages.{has_root, IsWhole}
use Rattle.page_image.specs.Pages.{PageParts}
use Rattle.transactions.specs.Standing.{page_images, AreNumbered}
use Rattle.transactions.proofs.FreshPages.{fresh_pages, one_more, are_few, are_numbered, have_root, are_whole}
use Rattle.transactions.proofs.tests.player.fresh_pages.Goals as goal

pub loop-number-init : goal.loop-number-init
loop-number-init c = c.in_ok-pages.ensures.items

pub loop-number-preserved : goal.loop-number-preserved
loop-number-preserved c =
    c.in_ok-push.ensures.items
    ∙ (ap (λ (pages : List PageParts). pages ++ c.fresh_page.result ∷ []) c.loop-number.invariant
    ∙ (ap (λ (page : PageParts). fresh_pages c.loop-number.number ++ page ∷ []) c.fresh_page.ensures ∙ sym (one_more c.loop-number.number)))

pub returns-clause-few : goal.returns-clause-few
returns-clause-few c =
    let all : c.loop-number.number ≡ c.args.count = omega (arith, c.loop-number-test.false, c.loop-number.auto.number-end) in
    subst (λ (pages : List PageParts). length pages ≤ MOST_PAGES) (sym (c.loop-number.invariant ∙ ap fresh_pages all)) (are_few c.args.count c.requires.few)

pub returns-clause-numbered : goal.returns-clause-numbered
returns-clause-numbered c = subst AreNumbered (sym c.loop-number.invariant) (are_numbered c.loop-number.number)

pub returns-clause-root : goal.returns-clause-root
returns-clause-root c =
    let all : c.loop-number.number ≡ c.args.count = omega (arith, c.loop-number-test.false, c.loop-number.auto.number-end) in
    subst (λ (pages : List PageParts). IsTrue (has_root (page_images pages))) (sym (c.loop-number.invariant ∙ ap fresh_pages all)) (have_root c.args.count c.requires.some)

pub returns-clause-whole : goal.returns-clause-whole
returns-clause-whole c =
    let all : c.loop-number.number ≡ c.args.count = omega (arith, c.loop-number-test.false, c.loop-number.auto.number-end) in
    subst (λ (pages : List PageParts). IsWhole (page_images pages)) (sym (c.loop-number.invariant ∙ ap fresh_pages all)) (are_whole c.args.count c.requires.some)
