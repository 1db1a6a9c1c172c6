use Rattle.generator.proofs.Transactions.{begin_only, look_never, has_begun}
use Rattle.generator.proofs.transacting.begin.Goals as goal

pub ask-requires-clause-only : goal.ask-requires-clause-only
ask-requires-clause-only g c κs within = begin_only c.args.machine.now.world c.requires.resting

pub tell-requires-clause-never : goal.tell-requires-clause-never
tell-requires-clause-never g c κs within =
    look_never g.D.Disk c.args.machine.now c.ask.new.machine c.args.field c.in_default.field-0 c.requires.resting c.requires.field c.in_default.ensures

pub returns : goal.returns
returns g c =
    has_begun g.D.Disk c.args.machine.now c.ask.new.machine c.tell.new.machine c.args.field c.in_default.field-0 c.in-Ref.target
    c.requires.resting c.in_default.ensures c.in-Ref.ensures
