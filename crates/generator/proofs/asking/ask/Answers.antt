use Rattle.generator.proofs.Replying.{asked, stopped, stops}
use Rattle.generator.proofs.asking.ask.Goals as goal

pub ending-requires : goal.ending-requires
ending-requires g c = stops g.D.Disk c.args.machine.now c.answer.new.self c.args.call c.in-Refused.why c.requires.going c.requires.only c.in-Refused.ensures

pub returns-in-Refused : goal.returns-in-Refused
returns-in-Refused g c = stopped g.D.Disk c.args.machine.now c.answer.new.self c.args.call c.in-Refused.why c.ending.result c.requires.going c.in-Refused.ensures c.ending.ensures

pub returns-in_default : goal.returns-in_default
returns-in_default g c = asked g.D.Disk c.args.machine.now c.answer.new.self c.args.call c.answer.result c.requires.going c.in_default.not-Refused c.answer.ensures
