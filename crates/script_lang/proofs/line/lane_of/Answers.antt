use Rattle.std.proofs.Common.{◌∙◌}
use Rattle.script_lang.proofs.Scripts.{says_first}
use Rattle.script_lang.proofs.line.lane_of.Goals as goal

pub returns-in-Some : goal.returns-in-Some
returns-in-Some c lane line some says = c.in-Some.ensures.number ∙ says_first c.args.bytes.now lane line some says

pub returns-in-None : goal.returns-in-None
returns-in-None c lane line some says = c.in-None.ensures.number ∙ says_first c.args.bytes.now lane line some says
