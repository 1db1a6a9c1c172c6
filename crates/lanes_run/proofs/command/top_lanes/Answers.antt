use Rattle.cut_core.proofs.StoreFaults.{store_has_none}
use Rattle.lanes_run.proofs.Completes.{completes}
use Rattle.lanes_run.proofs.command.top_lanes.Goals as goal

pub returns-then-is_lanes-clause-complete : goal.returns-then-is_lanes-clause-complete
returns-then-is_lanes-clause-complete g c script file store lanes told kept is_store is_script nr nw nf =
    completes g.D.Disk c.open_and_run.result.0 c.args.disk c.open_and_run.result.1
    (g.S.Source.left c.args.source.now) (g.S.Source.left c.open_and_run.new.source) (g.K.Sink.held c.args.sink.now) (g.K.Sink.held c.open_and_run.new.sink) _ _ script file
    (g.S.Source.faults c.args.source.now) (g.S.Source.faults c.open_and_run.new.source) (g.K.Sink.faults c.args.sink.now) (g.K.Sink.faults c.open_and_run.new.sink)
    c.open_and_run.ensures.ran c.open_and_run.ensures.read_fault c.open_and_run.ensures.write_fault c.open_and_run.ensures.disk_fault c.open_and_run.ensures.no_store c.open_and_run.ensures.damage
    told kept (λ fault has. store_has_none file store fault is_store has) is_script nr nw nf
