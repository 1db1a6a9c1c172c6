use Rattle.script_lang.specs.Reading.{number_at}
use Rattle.script_lang.proofs.Fronts.{numbers, whole_none, whole_spaced, whole_some}
use Rattle.script_lang.proofs.Spellings.{number_sound}
use Rattle.script_lang.proofs.words.number_of.Goals as goal

pub returns-in_err-number-clause-exact : goal.returns-in_err-number-clause-exact
returns-in_err-number-clause-exact c = rw c.from_residual.ensures (whole_none number_at numbers c.args.word.now c.in_err-number.ensures.number)

pub returns-in-None-clause-found : goal.returns-in-None-clause-found
returns-in-None-clause-found c =
    number_sound c.args.word.now c.in_ok-number.number
    (whole_some number_at c.args.word.now c.in_ok-number.number c.in_ok-number.ensures.number (rw c.in-None.is at c.in_ok-number.ensures.rest))

pub returns-in-None-clause-exact : goal.returns-in-None-clause-exact
returns-in-None-clause-exact c =
    whole_some number_at c.args.word.now c.in_ok-number.number c.in_ok-number.ensures.number (rw c.in-None.is at c.in_ok-number.ensures.rest)

pub returns-in-Some-clause-exact : goal.returns-in-Some-clause-exact
returns-in-Some-clause-exact c = whole_spaced number_at numbers c.args.word.now c.in-Some.field-0.now (rw c.in-Some.is at c.in_ok-number.ensures.rest)
