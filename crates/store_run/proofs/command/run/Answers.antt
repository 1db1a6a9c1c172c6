use Rattle.store_run.proofs.Opened.{opened_run, opened_keeps}
use Rattle.store_run.proofs.command.run.Goals as goal

pub returns-in-Ok-start-clause-ran : goal.returns-in-Ok-start-clause-ran
returns-in-Ok-start-clause-ran g c =
    opened_run g.D.Disk c.run_store.result.0 c.args.disk c.run_store.result.1 c.in-Ok-start.core
    (g.S.Source.left c.args.source.now) (g.S.Source.left c.run_store.new.source) (g.K.Sink.held c.args.sink.now) (g.K.Sink.held c.run_store.new.sink) _
    (record {
      world = c.in-Ok-start.ensures.world;
      store = c.in-Ok-start.ensures.store;
      just_opened = c.in-Ok-start.ensures.just_opened;
      content_kept = c.in-Ok-start.ensures.content;
      any_moment = c.in-Ok-start.ensures.any_moment;
      keeps = c.in-Ok-start.ensures.keeps;
      calm = c.in-Ok-start.ensures.calm;
    }) (rw c.of.ensures at c.run_store.ensures.ran)

pub returns-in-Ok-start-clause-keeps : goal.returns-in-Ok-start-clause-keeps
returns-in-Ok-start-clause-keeps g c =
    opened_keeps g.D.Disk c.run_store.result.0 c.args.disk c.run_store.result.1 c.in-Ok-start.core
    (g.S.Source.left c.args.source.now) (g.S.Source.left c.run_store.new.source) (g.K.Sink.held c.args.sink.now) (g.K.Sink.held c.run_store.new.sink)
    (record {
      world = c.in-Ok-start.ensures.world;
      store = c.in-Ok-start.ensures.store;
      just_opened = c.in-Ok-start.ensures.just_opened;
      content_kept = c.in-Ok-start.ensures.content;
      any_moment = c.in-Ok-start.ensures.any_moment;
      keeps = c.in-Ok-start.ensures.keeps;
      calm = c.in-Ok-start.ensures.calm;
    }) (rw c.of.ensures at c.run_store.ensures.ran)
