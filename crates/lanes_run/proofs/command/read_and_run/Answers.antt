use Rattle.lanes_run.proofs.Ends.{script_refused}
use Rattle.lanes_run.proofs.command.read_and_run.Goals as goal

pub returns-in-Err-clause-ran : goal.returns-in-Err-clause-ran
returns-in-Err-clause-ran g c =
    script_refused g.D.Disk c.in-Err.status c.args.core (g.S.Source.left c.args.source.now) (g.S.Source.left c.read_script.new.source) (g.K.Sink.held c.args.sink.now) c.nothing_done.ensures.lawful
    c.nothing_done.ensures.kept (rw c.pages.ensures at c.in-Err.ensures.read)
