use Rattle.std.proofs.Common.{◌∙◌}
use Rattle.script_lang.specs.Reading.{word_at}
use Rattle.script_lang.proofs.Fronts.{all_below}
use Rattle.script_lang.proofs.words.number_in.Goals as goal

pub returns-clause-number : goal.returns-clause-number
returns-clause-number c = c.number_before.ensures.number ∙ all_below (word_at c.args.bytes.now).0
