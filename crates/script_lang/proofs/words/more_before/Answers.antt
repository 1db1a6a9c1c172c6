use Rattle.std.proofs.Common.{sym, ap, ◌∙◌, ◌+◌, arith}
use Rattle.std.specs.Option.{option_map}
use Rattle.script_lang.proofs.Digits.{no_more}
use Rattle.script_lang.proofs.words.more_before.Goals as goal

pub returns-in_err-number-clause-number : goal.returns-in_err-number-clause-number
returns-in_err-number-clause-number c =
    ap (option_map (λ p. p.0)) c.from_residual.ensures
    ∙ sym (no_more c.args.end (c.args.most + 1) c.digits.number c.digits.rest.now (omega arith) c.if-byte-end.false c.in_err-number.ensures) ∙ c.digits.invariant.1
