use Rattle.std.proofs.Common.{sym, ◌∙◌}
use Rattle.script_lang.proofs.Fronts.{name_whole, gives_name, spells_name}
use Rattle.script_lang.proofs.words.name_of.Goals as goal

pub returns-clause-found : goal.returns-clause-found
returns-clause-found c =
    spells_name c.args.word.now c.alone.result (name_whole c.name_in-read.result (λ r. r.now) c.args.word.now c.name_in-read.ensures.name c.name_in-read.ensures.rest ∙ sym c.alone.ensures)

pub returns-clause-exact : goal.returns-clause-exact
returns-clause-exact c =
    gives_name c.args.word.now c.alone.result (name_whole c.name_in-read.result (λ r. r.now) c.args.word.now c.name_in-read.ensures.name c.name_in-read.ensures.rest ∙ sym c.alone.ensures)
