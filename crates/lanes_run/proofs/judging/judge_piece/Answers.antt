use Rattle.std.proofs.Common.{◌<◌, length, subst, List, ℕ, arith}
use Rattle.lanes_run.specs.Judging.{FrontCounted}
use Rattle.lanes_run.proofs.Counted.{front_too_long}
use Rattle.lanes_run.proofs.judging.judge_piece.Goals as goal

pub returns-then-left-gt-LINE_LIMIT-clause-judged : goal.returns-then-left-gt-LINE_LIMIT-clause-judged
returns-then-left-gt-LINE_LIMIT-clause-judged c =
    let judged = c.in-Ok.ensures in
    let long : 200 < length judged.0 = omega (arith, judged.3, c.if-left-gt-LINE_LIMIT.true) in
    front_too_long c.args.pages c.args.unread.now.ahead.items judged.0 c.args.before c.in-Ok.now
    (subst (λ (bytes : List ℕ). FrontCounted c.args.pages bytes c.args.before c.in-Ok.now judged.0) c.deref.ensures.value judged.1) judged.2 long
