use Rattle.generator.proofs.Replying.{told}
use Rattle.generator.proofs.asking.tell.Goals as goal

pub returns : goal.returns
returns g c = told g.D.Disk c.args.machine.now c.answer.new.self c.args.call c.answer.result c.requires.going c.requires.never c.answer.ensures
