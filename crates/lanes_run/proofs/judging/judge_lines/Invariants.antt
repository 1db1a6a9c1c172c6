use Rattle.std.proofs.Common.{◌≤◌, ◌+◌, ◌*◌, length}
use Rattle.lanes_run.specs.Judging.{FrontCounted}
use Rattle.lanes_run.proofs.judging.judge_lines.Given as goal

abbrev pub invariant-lines : goal.invariant-lines
invariant-lines l = record {
  counted : FrontCounted l.fn.pages l.fn.bytes l.fn.before l.tally l.rest;
  fits : l.tally.lines + length l.rest ≤ l.fn.before.lines + length l.fn.bytes;
  bound : l.tally.entries ≤ l.tally.lines * 8589934594;
}

abbrev pub decreases-lines : goal.decreases-lines
decreases-lines l = length l.rest
