use Rattle.std.proofs.Common.{sym, arith}
use Rattle.script_lang.proofs.Digits.{part_empty, part_ends, part_goes_on, zero_alone, no_zero}
use Rattle.script_lang.proofs.words.zero_before.Goals as goal

pub returns-in-empty-clause-number : goal.returns-in-empty-clause-number
returns-in-empty-clause-number c = rw (part_empty c.args.end c.args.rest.now c.in-empty.len_below) (sym zero_alone)

pub returns-in-len1-up-clause-number : goal.returns-in-len1-up-clause-number
returns-in-len1-up-clause-number c = rw (part_ends c.args.end c.args.rest.now (omega arith) c.if-byte-end.true) (sym zero_alone)

pub returns-in_default-clause-number : goal.returns-in_default-clause-number
returns-in_default-clause-number c = rw (part_goes_on c.args.end c.args.rest.now (omega arith) c.if-byte-end.false) (sym (no_zero _ _))
