use Rattle.std.proofs.Common.{[], ℕ, subst, sym}
use Rattle.generator.specs.Making.{HasTransacted}
use Rattle.generator.proofs.Transactions.{commit_only, has_transacted, stopped_begin, stopped_commit}
use Rattle.generator.proofs.transacting.transact.Goals as goal

pub ask-requires-clause-only : goal.ask-requires-clause-only
ask-requires-clause-only g c κs within = commit_only [] 10 c.fill-full.new.machine.world c.fill-full.ensures.goes.alone

pub returns-in-Err : goal.returns-in-Err
returns-in-Err g c = stopped_begin g.D.Disk c.args.machine.now c.begin.new.machine c.args.drawn c.args.round c.in-Err.stop c.in-Err.ensures

pub returns-in-Ok-ask : goal.returns-in-Ok-ask
returns-in-Ok-ask g c =
    subst (λ (n : ℕ). HasTransacted g.D.Disk c.args.machine.now c.ask.new.machine c.args.drawn c.args.round c.fill-full.result n) (sym c.number_committed.ensures)
    (has_transacted g.D.Disk c.args.machine.now c.begin.new.machine c.fill-full.new.machine c.ask.new.machine c.args.drawn c.args.round c.field_of.result c.in-Ok.old
    c.fill-full.result c.in-Ok-ask.reply c.field_of.ensures.drawn c.requires.number c.requires.few c.in-Ok.ensures c.fill-full.ensures c.in-Ok-ask.ensures)

pub returns-in-Err-ask : goal.returns-in-Err-ask
returns-in-Err-ask g c =
    stopped_commit g.D.Disk c.args.machine.now c.begin.new.machine c.fill-full.new.machine c.ask.new.machine c.args.drawn c.args.round c.field_of.result c.in-Ok.old
    c.fill-full.result c.in-Err-ask.stop c.field_of.ensures.drawn c.in-Ok.ensures c.fill-full.ensures c.in-Err-ask.ensures
