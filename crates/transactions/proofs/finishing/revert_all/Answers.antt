use Rattle.std.proofs.Common.{ℕ, ◌++◌, ◌∷◌, [], take, get_or, subst, sym, refl, List, arith}
use Rattle.page_buffer.specs.Frames.{reverted}
use Rattle.page_buffer.specs.declared.frame.Frame.{Frame}
use Rattle.std.proofs.lemmas.List.{take_more}
use Rattle.transactions.proofs.PagesChanged.{AreChanged, changes_more, page_at}
use Rattle.transactions.proofs.finishing.revert_all.Goals as goal

pub revert-requires : goal.revert-requires
revert-requires c =
    let lt = c.requires (get_or c.args.pages.now c.loop-page.page-index 0) (page_at c.args.pages.now c.loop-page.page-index c.loop-page-test.true) in
    let n = c.loop-page.invariant.count in
    omega arith

pub loop-page-preserved : goal.loop-page-preserved
loop-page-preserved c =
    let lt = c.requires (get_or c.args.pages.now c.loop-page.page-index 0) (page_at c.args.pages.now c.loop-page.page-index c.loop-page-test.true) in
    subst (λ (ps : List ℕ). AreChanged reverted c.args.buffer.now c.revert.new.self ps) (sym (take_more c.args.pages.now c.loop-page.page-index 0 c.loop-page-test.true))
    (subst (λ (fs : List Frame). AreChanged reverted c.args.buffer.now fs (take c.loop-page.page-index c.args.pages.now ++ get_or c.args.pages.now c.loop-page.page-index 0 ∷ [])) (sym c.revert.ensures)
    (changes_more reverted c.args.buffer.now c.loop-page.buffer (take c.loop-page.page-index c.args.pages.now) (get_or c.args.pages.now c.loop-page.page-index 0) (λ frame. refl) lt c.loop-page.invariant))
