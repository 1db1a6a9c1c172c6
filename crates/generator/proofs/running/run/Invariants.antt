use Rattle.generator.proofs.Generating.{Running}
use Rattle.generator.proofs.running.run.Given as goal

abbrev pub invariant-rounds : goal.invariant-rounds
invariant-rounds g l = Running g.D.Disk l.fn.machine l.machine l.from l.round l.draws.last l.tally
