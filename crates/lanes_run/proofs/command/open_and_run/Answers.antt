use Rattle.lanes_run.proofs.Opened.{opened_lanes}
use Rattle.lanes_run.proofs.command.open_and_run.Goals as goal

pub returns-in-Ok-start-clause-ran : goal.returns-in-Ok-start-clause-ran
returns-in-Ok-start-clause-ran g c =
    opened_lanes g.D.Disk c.read_and_run-status.result.0 c.args.disk c.into_disk.result c.in-Ok-start.core c.read_and_run-status.result.1
    (g.S.Source.left c.args.source.now) (g.S.Source.left c.read_and_run-status.new.source) (g.K.Sink.held c.args.sink.now) (g.K.Sink.held c.read_and_run-status.new.sink) _ _
    (record {
      world = c.in-Ok-start.ensures.world;
      store = c.in-Ok-start.ensures.store;
      just_opened = c.in-Ok-start.ensures.just_opened;
      content_kept = c.in-Ok-start.ensures.content;
      any_moment = c.in-Ok-start.ensures.any_moment;
      keeps = c.in-Ok-start.ensures.keeps;
      calm = c.in-Ok-start.ensures.calm;
    }) c.into_disk.ensures c.read_and_run-status.ensures.ran
