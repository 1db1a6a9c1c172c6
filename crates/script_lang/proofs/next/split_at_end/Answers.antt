use Rattle.std.proofs.Common.{◌≡◌, ◌∙◌, sym, ap, subst, ℕ, suc, ◌+◌, List, take, drop, length-drop, Some, arith, eq-eqb}
use Rattle.std.proofs.lemmas.Bool.{eqb-true}
use Rattle.std.proofs.lemmas.List.{take_all}
use Rattle.std.proofs.lemmas.Grind.{get_or_default_zero}
use Rattle.script_lang.specs.Reading.{split_at}
use Rattle.script_lang.proofs.Splits.{split_where, split_nowhere}
use Rattle.script_lang.proofs.next.split_at_end.Goals as goal

pub returns-in-Some-clause-exact : goal.returns-in-Some-clause-exact
returns-in-Some-clause-exact c =
    let bytes : List ℕ = c.args.bytes.now in let at = c.in-Some.at in
    let place = c.in-Some.ensures.0 in
    let behind : suc at ≡ at + 1 = omega arith in
    let rest_long = length-drop (at + 1) bytes in
    let split = split_where 10 bytes at place.high (λ k low is. place.before k (omega arith) low (eq-eqb _ 10 is)) (eqb-true _ 10 c.in-Some.ensures.1) in
    subst (λ (n : ℕ). split_at 10 bytes ≡ Some (take at bytes, drop n bytes)) behind split
    ∙ ap (λ (rest : List ℕ). Some (take at bytes, rest)) (sym (take_all _ (drop (at + 1) bytes) (omega (arith, rest_long))))

pub returns-in-None-clause-parts : goal.returns-in-None-clause-parts
returns-in-None-clause-parts c =
    λ k d low is. c.in-None.ensures k (omega arith) low (eq-eqb _ 10 (sym (get_or_default_zero c.args.bytes.now k d low) ∙ is))

pub returns-in-None-clause-exact : goal.returns-in-None-clause-exact
returns-in-None-clause-exact c = split_nowhere 10 c.args.bytes.now (λ k low is. c.in-None.ensures k (omega arith) low (eq-eqb _ 10 is))
