use Rattle.store_machine.proofs.Acting.{acts_nothing}
use Rattle.store_run.proofs.Doing.{note_done, call_done, one_ran, collection_ran}
use Rattle.store_run.proofs.running.run_line.Goals as goal

pub returns-in-Ok-Note-clause-ran : goal.returns-in-Ok-Note-clause-ran
returns-in-Ok-Note-clause-ran g c =
    note_done g.D.Disk c.args.core.now c.args.line.now (g.K.Sink.held c.args.sink.now)
    (rw c.in-Ok-Note.field-0-is at c.in-Ok-Note.ensures.found)
    (acts_nothing g.D.Disk c.args.core.now g.met.D.Disk.only_now c.stands.ensures.now)

pub returns-in-Ok-clause-ran : goal.returns-in-Ok-clause-ran
returns-in-Ok-clause-ran g c =
    call_done g.D.Disk c.args.core.now c.run_call.new.core c.args.line.now c.in-Ok-One.call c.in-Ok.field-0
    (g.K.Sink.held c.args.sink.now) (g.K.Sink.held c.run_call.new.sink)
    (rw c.in-Ok-One.field-0-is at c.in-Ok-One.ensures.found) c.in-Ok.ensures.ran

pub returns-in-Err-run_call-clause-ran : goal.returns-in-Err-run_call-clause-ran
returns-in-Err-run_call-clause-ran g c =
    one_ran g.D.Disk c.args.core.now c.run_call.new.core c.args.line.now c.in-Ok-One.call
    (g.K.Sink.held c.args.sink.now) (g.K.Sink.held c.run_call.new.sink) c.args.number c.in-Err-run_call.status
    (rw c.in-Ok-One.field-0-is at c.in-Ok-One.ensures.found) c.in-Err-run_call.ensures.ran

pub returns-in-Ok-Collect-clause-ran : goal.returns-in-Ok-Collect-clause-ran
returns-in-Ok-Collect-clause-ran g c =
    collection_ran g.D.Disk c.args.core.now c.run_collection.new.core c.args.line.now c.in-Ok-Collect.workers
    (g.K.Sink.held c.args.sink.now) (g.K.Sink.held c.run_collection.new.sink) c.args.number c.run_collection.result
    (rw c.in-Ok-Collect.field-0-is at c.in-Ok-Collect.ensures.found) c.run_collection.ensures.ran
