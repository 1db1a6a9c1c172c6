use Rattle.std.proofs.Common.{◌<◌, length, rules}
use Rattle.store_run.proofs.WholeLines.{unended_line}
use Rattle.lanes_run.proofs.Counted.{last_judged}
use Rattle.lanes_run.proofs.judging.judge_last.Goals as goal

pub returns : goal.returns
returns c =
    let some : 0 < length c.args.line.now = search rules in
    last_judged c.args.pages c.args.line.now c.args.before c.judge_line.result (unended_line c.args.line.now some c.requires.unended) c.judge_line.ensures
