use Rattle.std.proofs.Common.{◌∙◌, refl, sym, subst, List, ℕ}
use Rattle.std.specs.Io.KnownBytes.{Appends}
use Rattle.store_machine.specs.Acts.{event_with}
use Rattle.store_run.specs.Writing.{AppendsFront}
use Rattle.store_run.proofs.calls.run_call.Goals as goal

pub returns-in-Ok-clause-ran : goal.returns-in-Ok-clause-ran
returns-in-Ok-clause-ran g c = record {
  event = event_with c.args.call c.answer-reply.result c.answer-reply.ensures.note;
  call_is = refl;
  refused_is = sym c.is_refused-refused.ensures;
  acts = c.answer-reply.ensures.acts;
  written = subst (λ (t : List ℕ). Appends (g.K.Sink.held c.args.sink.now) (g.K.Sink.held c.write_all.new.sink) t) (c.deref.ensures.value ∙ c.print_line.ensures.text) c.in-Ok.ensures.written;
}

pub returns-in-Err-clause-ran : goal.returns-in-Err-clause-ran
returns-in-Err-clause-ran g c = record {
  event = event_with c.args.call c.answer-reply.result c.answer-reply.ensures.note;
  call_is = refl;
  acts = c.answer-reply.ensures.acts;
  written = subst (λ (t : List ℕ). AppendsFront (g.K.Sink.held c.args.sink.now) (g.K.Sink.held c.write_all.new.sink) t) (c.deref.ensures.value ∙ c.print_line.ensures.text) c.in-Err.ensures.written;
}
