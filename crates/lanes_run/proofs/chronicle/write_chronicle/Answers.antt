use Rattle.std.proofs.Common.{ℕ, ◌≤◌, ◌∙◌, ◌++◌, refl, sym, ap, subst, arith, rules}
use Rattle.store_model.specs.Texts.{entry_text}
use Rattle.lanes_run.specs.declared.chronicle.TheConstants.{LINES_ROOM}
use Rattle.lanes_run.proofs.Chronicles.{writing_start, writing_more, writing_begun, writing_ended, tail_of, none_left}
use Rattle.lanes_run.proofs.chronicle.write_chronicle.Goals as goal

pub entries-init : goal.entries-init
entries-init g c = record { writing = writing_start c.args.chronicle.now (g.K.Sink.held c.args.sink.now) c.clear.new.self.items c.clear.ensures.items; calm = refl; left = omega arith; room = subst (λ (n : ℕ). LINES_ROOM ≤ n) (sym c.clear.ensures.capacity) c.requires }

pub entries-preserved : goal.entries-preserved
entries-preserved g c = record {
  writing = writing_more c.args.chronicle.now c.entries.rest.now _ c.event-item.result (g.K.Sink.held c.args.sink.now) (g.K.Sink.held c.entries.sink) (g.K.Sink.held c.write_full.new.sink) c.entries.buffer.items c.print_entry.new.out.items c.write_full.new.buffer.items
      c.entries.invariant.writing (tail_of c.entries.rest.now c.event-item.result c.in-len1-up.len_at_least c.event-item.is)
      (c.print_entry.ensures.text ∙ ap (λ e. c.entries.buffer.items ++ entry_text e) c.entry.ensures) c.in-Ok.ensures.written;
  calm = c.in-Ok.ensures.calm ∙ c.entries.invariant.calm;
  left = c.in-Ok.ensures.left;
  room = c.write_full.ensures.room;
}

pub returns-in-Err-clause-written : goal.returns-in-Err-clause-written
returns-in-Err-clause-written g c =
    writing_begun c.args.chronicle.now c.entries.rest.now _ c.event-item.result (g.K.Sink.held c.args.sink.now) (g.K.Sink.held c.entries.sink) (g.K.Sink.held c.write_full.new.sink) c.entries.buffer.items c.print_entry.new.out.items
    c.entries.invariant.writing (tail_of c.entries.rest.now c.event-item.result c.in-len1-up.len_at_least c.event-item.is)
    (c.print_entry.ensures.text ∙ ap (λ e. c.entries.buffer.items ++ entry_text e) c.entry.ensures) c.in-Err.ensures.written

pub returns-clause-written : goal.returns-clause-written
returns-clause-written g c =
    writing_ended c.args.chronicle.now c.entries.rest.now (g.K.Sink.held c.args.sink.now) (g.K.Sink.held c.entries.sink) (g.K.Sink.held c.write_all.new.sink) c.entries.buffer.items c.deref.result.now c.write_all.result
    c.entries.invariant.writing (none_left c.entries.rest.now (search rules)) c.deref.ensures.value c.write_all.ensures.written
