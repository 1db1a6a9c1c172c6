use Rattle.std.proofs.Common.{refl, sym, subst, ◌∙◌, arith, length}
use Rattle.cut_core.specs.Holding.{IsGivenUpTo}
use Rattle.cut_core.proofs.Giving.{written_length, all_given, within_cut, later_given, names_given, given_more}
use Rattle.cut_core.proofs.Staging.{next_page, none_of}
use Rattle.cut_core.proofs.copying.give_images.Goals as goal

pub frame-requires : goal.frame-requires
frame-requires g c =
    (next_page c.args.transactions.now (length c.args.transactions.now.frames) c.args.txn c.pages.at c.in-Some.page (c.requires.cut.0, c.requires.cut.1.ready) refl (sym c.written.ensures.page ∙ c.in-Some.is) c.written.ensures.ascending c.written.ensures.few).low

pub give_image-requires-clause-page : goal.give_image-requires-clause-page
give_image-requires-clause-page g c =
    within_cut c.args.transactions.now c.requires.cut.0 c.args.txn c.pages.at c.in-Some.page c.args.moment _ c.frame.result.now c.args.cut.now c.pages.cut c.requires.cut.1
    (sym c.written.ensures.page ∙ c.in-Some.is) c.frame.ensures.value (c.pages.invariant c.requires.cut.0 c.requires.cut.1 c.requires.cut.2)

pub give_image-requires-clause-later : goal.give_image-requires-clause-later
give_image-requires-clause-later g c =
    later_given c.args.transactions.now c.requires.cut.0 c.args.txn c.pages.at c.in-Some.page c.args.moment c.frame.result.now c.args.cut.now c.pages.cut c.requires.cut.1 c.requires.cut.2
    (sym c.written.ensures.page ∙ c.in-Some.is) c.written.ensures.ascending c.frame.ensures.value (c.pages.invariant c.requires.cut.0 c.requires.cut.1 c.requires.cut.2)

pub give_image-requires-clause-names : goal.give_image-requires-clause-names
give_image-requires-clause-names g c =
    names_given c.args.transactions.now c.requires.cut.0 c.args.txn c.pages.at c.in-Some.page c.args.moment _ c.frame.result.now c.args.cut.now c.pages.cut c.requires.cut.1
    (sym c.written.ensures.page ∙ c.in-Some.is) c.frame.ensures.value (c.pages.invariant c.requires.cut.0 c.requires.cut.1 c.requires.cut.2)

pub overflow_add-at : goal.overflow_add-at
overflow_add-at g c =
    let next = (next_page c.args.transactions.now (length c.args.transactions.now.frames) c.args.txn c.pages.at c.in-Some.page (c.requires.cut.0, c.requires.cut.1.ready) refl (sym c.written.ensures.page ∙ c.in-Some.is) c.written.ensures.ascending c.written.ensures.few) in
    omega (arith, next.few)

pub pages-smaller : goal.pages-smaller
pages-smaller g c =
    let next = (next_page c.args.transactions.now (length c.args.transactions.now.frames) c.args.txn c.pages.at c.in-Some.page (c.requires.cut.0, c.requires.cut.1.ready) refl (sym c.written.ensures.page ∙ c.in-Some.is) c.written.ensures.ascending c.written.ensures.few) in
    let long = written_length c.args.transactions.now c.args.txn in
    omega (arith, next.within, long)

pub pages-preserved : goal.pages-preserved
pages-preserved g c = λ w k m.
    given_more c.args.transactions.now w c.args.txn c.pages.at c.in-Some.page c.args.moment c.frame.result.now c.args.cut.now c.pages.cut c.give_image.new.cut k (sym c.written.ensures.page ∙ c.in-Some.is)
    c.written.ensures.ascending c.frame.ensures.value c.give_image.ensures (c.pages.invariant w k m)

pub returns : goal.returns
returns g c = λ w k m.
    subst (λ ps. IsGivenUpTo w c.args.txn c.args.moment ps c.args.cut.now c.pages.cut)
    (all_given c.args.transactions.now c.args.txn c.pages.at (sym c.written.ensures.page ∙ none_of c.written.result c.in_default.not-Some)) (c.pages.invariant w k m)
