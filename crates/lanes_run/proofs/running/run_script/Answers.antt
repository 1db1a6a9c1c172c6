use Rattle.std.proofs.Common.{sym, subst}
use Rattle.cut_core.specs.Seen.{Seen}
use Rattle.script_lang.specs.Script.{lines_of}
use Rattle.store_run.specs.declared.status.Status.TheVariants.{Memory}
use Rattle.lanes_run.specs.Ended.{LanesEnded}
use Rattle.lanes_run.proofs.Ends.{end_none}
use Rattle.lanes_run.proofs.running.run_script.Goals as goal

pub returns-in-Err-clause-ended : goal.returns-in-Err-clause-ended
returns-in-Err-clause-ended g c =
    subst (λ (s : Seen g.row.D.Denot). LanesEnded g.D.Disk Memory c.args.core s (lines_of c.args.script.now.bytes.items) (g.K.Sink.held c.args.sink.now) (g.K.Sink.held c.args.sink.now)) (sym c.in-Err.ensures.err)
    (end_none g.D.Disk c.args.core (lines_of c.args.script.now.bytes.items) (g.K.Sink.held c.args.sink.now) c.nothing_done.ensures.kept)
