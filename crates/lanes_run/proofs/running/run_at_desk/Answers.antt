use Rattle.std.proofs.Common.{◌≡◌, refl, sym, ◌∙◌, subst, Bool, List}
use Rattle.std.specs.Io.KnownBytes.{Appends}
use Rattle.script_lang.specs.Script.{lines_of}
use Rattle.store_model.specs.Texts.{chronicle_text}
use Rattle.store_desk.specs.Events.{history}
use Rattle.store_desk.specs.Seats.{AtDesk}
use Rattle.store_desk.specs.declared.event.Event.{Event}
use Rattle.store_run.specs.Writing.{AppendsFront}
use Rattle.store_run.specs.declared.status.Status.{Status}
use Rattle.lanes_run.specs.Ended.{LanesEnded}
use Rattle.lanes_run.proofs.Ends.{desk_followed, end_written, end_begun}
use Rattle.lanes_run.proofs.running.run_at_desk.Goals as goal

pub returns-in-Ok-clause-ended : goal.returns-in-Ok-clause-ended
returns-in-Ok-clause-ended g c =
    let first = c.args.desk.value.start in let lines = lines_of c.args.script.now.bytes.items in
    let seat : AtDesk g.row.D.Denot = c.start_lanes-seat.result.0 in let whole : Bool = c.start_lanes-seat.result.1 in
    let written : c.deref.result.now ≡ seat.seen = c.deref.ensures.value ∙ c.close-core.ensures.chronicle in
    subst (λ (s : Status). LanesEnded g.D.Disk s first c.close-core.result.0 lines (g.K.Sink.held c.args.sink.now) (g.K.Sink.held c.write_chronicle.new.sink)) (sym c.ended.ensures)
    (end_written g.D.Disk first c.close-core.result.0 lines whole c.close-core.result.0.world.broken seat.seen (g.K.Sink.held c.args.sink.now) (g.K.Sink.held c.write_chronicle.new.sink)
    c.close-core.ensures.kept (desk_followed g.D.Disk first c.args.desk.value.chronicle lines whole seat c.requires.nothing_yet c.start_lanes-seat.ensures.ran c.close-core.ensures.places) refl
    (subst (λ (l : List Event). Appends (g.K.Sink.held c.args.sink.now) (g.K.Sink.held c.write_chronicle.new.sink) (chronicle_text (history l))) written c.in-Ok.ensures.written))

pub returns-clause-ended : goal.returns-clause-ended
returns-clause-ended g c =
    let first = c.args.desk.value.start in let lines = lines_of c.args.script.now.bytes.items in
    let seat : AtDesk g.row.D.Denot = c.start_lanes-seat.result.0 in let whole : Bool = c.start_lanes-seat.result.1 in
    let written : c.deref.result.now ≡ seat.seen = c.deref.ensures.value ∙ c.close-core.ensures.chronicle in
    end_begun g.D.Disk first c.close-core.result.0 lines whole seat.seen (g.K.Sink.held c.args.sink.now) (g.K.Sink.held c.write_chronicle.new.sink)
    c.close-core.ensures.kept (desk_followed g.D.Disk first c.args.desk.value.chronicle lines whole seat c.requires.nothing_yet c.start_lanes-seat.ensures.ran c.close-core.ensures.places)
    (subst (λ (l : List Event). AppendsFront (g.K.Sink.held c.args.sink.now) (g.K.Sink.held c.write_chronicle.new.sink) (chronicle_text (history l))) written c.in-Err.ensures.written)
