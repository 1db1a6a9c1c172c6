use Rattle.std.proofs.Common.{sym, ◌∙◌, arith}
use Rattle.recovery.proofs.ImagesAhead.{ahead_passed}
use Rattle.recovery.proofs.homes.take_image.Goals as goal

pub returns-then-number-page-clause-image : goal.returns-then-number-page-clause-image
returns-then-number-page-clause-image c =
    sym (ahead_passed c.args.images.now c.args.next.now c.args.page c.index-images-at.result (omega arith) c.index-images-at.is (λ same. c.if-number-page.true (c.number.ensures.value ∙ same)) c.requires).0

pub returns-then-number-page-clause-ahead : goal.returns-then-number-page-clause-ahead
returns-then-number-page-clause-ahead c =
    (ahead_passed c.args.images.now c.args.next.now c.args.page c.index-images-at.result (omega arith) c.index-images-at.is (λ same. c.if-number-page.true (c.number.ensures.value ∙ same)) c.requires).1
