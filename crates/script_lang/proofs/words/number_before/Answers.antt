use Rattle.std.proofs.Common.{ap, sym, ◌∙◌, ◌+◌, arith}
use Rattle.std.specs.Option.{option_map}
use Rattle.script_lang.proofs.Digits.{empty_part, none_part, first_part, zero_part, more_part, at_most}
use Rattle.script_lang.proofs.words.number_before.Goals as goal

pub returns-in_default-clause-number : goal.returns-in_default-clause-number
returns-in_default-clause-number c = sym (empty_part c.args.end (c.args.most + 1) c.args.bytes.now c.in_default.len_below)

pub returns-in_err-number-clause-number : goal.returns-in_err-number-clause-number
returns-in_err-number-clause-number c =
    ap (option_map (λ p. p.0)) c.from_residual.ensures ∙ sym (none_part c.args.end (c.args.most + 1) c.args.bytes.now (omega arith) (omega arith) c.in_err-number.ensures)

pub returns-then-number-eq0-clause-number : goal.returns-then-number-eq0-clause-number
returns-then-number-eq0-clause-number c =
    c.zero_before.ensures.number
    ∙ zero_part c.args.end (c.args.most + 1) c.in_ok-number.number c.args.bytes.now c.requires (omega arith) c.in_ok-number.ensures c.if-number-eq0.true

pub returns-then-number-eq0-clause-rest : goal.returns-then-number-eq0-clause-rest
returns-then-number-eq0-clause-rest c =
    rw (first_part c.args.end (c.args.most + 1) c.in_ok-number.number c.args.bytes.now c.requires (omega arith) c.in_ok-number.ensures) c.zero_before.ensures.rest

pub returns-then-number-eq0-clause-most : goal.returns-then-number-eq0-clause-most
returns-then-number-eq0-clause-most c = at_most c.zero_before.result c.args.most _ (returns-then-number-eq0-clause-number c)

pub returns-clause-number : goal.returns-clause-number
returns-clause-number c =
    c.more_before.ensures.number
    ∙ more_part c.args.end (c.args.most + 1) c.in_ok-number.number c.args.bytes.now c.requires (omega arith) (omega arith) c.in_ok-number.ensures c.if-number-eq0.false

pub returns-clause-rest : goal.returns-clause-rest
returns-clause-rest c =
    rw (first_part c.args.end (c.args.most + 1) c.in_ok-number.number c.args.bytes.now c.requires (omega arith) c.in_ok-number.ensures) c.more_before.ensures.rest

pub returns-clause-most : goal.returns-clause-most
returns-clause-most c = at_most c.more_before.result c.args.most _ (returns-clause-number c)
