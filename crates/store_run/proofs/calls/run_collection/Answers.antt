use Rattle.std.proofs.Common.{◌≡◌, ◌∙◌, refl, sym, subst, ℕ, Bool, Some, None, arith}
use Rattle.std.specs.Prelude.{slice_get}
use Rattle.std.proofs.lemmas.Option.{slice_get_within}
use Rattle.store_model.specs.Histories.{collection}
use Rattle.cut_core.proofs.Staging.{none_of}
use Rattle.store_machine.proofs.Acting.{acts_nothing}
use Rattle.store_machine.proofs.Places.{collection_long}
use Rattle.store_run.specs.Lines.{CallDone}
use Rattle.store_run.proofs.Doing.{calls_start, calls_more, calls_refused, calls_stop, calls_all}
use Rattle.store_run.proofs.calls.run_collection.Goals as goal

pub calls-init : goal.calls-init
calls-init g c = record {
  pages_are = c.pages-pages.ensures;
  done = calls_start g.D.Disk c.args.core.now (collection c.args.core.now.world.pages c.args.workers) (g.K.Sink.held c.args.sink.now)
      (acts_nothing g.D.Disk c.args.core.now g.met.D.Disk.only_now c.stands.ensures.now);
  calm = refl;
  room = c.requires.room;
}

pub returns-in-Ok-true-clause-ran : goal.returns-in-Ok-true-clause-ran
returns-in-Ok-true-clause-ran g c =
    calls_refused g.D.Disk c.args.core.now c.calls.core c.run_call.new.core c.args.workers c.calls.place c.in-Some.call
    (g.K.Sink.held c.args.sink.now) (g.K.Sink.held c.calls.sink) (g.K.Sink.held c.run_call.new.sink) c.calls.invariant.done
    (subst (λ (n : ℕ). slice_get (collection n c.args.workers) c.calls.place ≡ Some c.in-Some.call) c.pages-pages.ensures (sym c.collection_call.ensures.call ∙ c.in-Some.is))
    (subst (λ (refused : Bool). CallDone g.D.Disk c.calls.core c.in-Some.call refused c.run_call.new.core (g.K.Sink.held c.calls.sink) (g.K.Sink.held c.run_call.new.sink)) c.in-Ok-true.field-0-test c.in-Ok-true.ensures.ran)

pub overflow_add-place : goal.overflow_add-place
overflow_add-place g c =
    omega (
      arith,
      slice_get_within (collection c.pages-pages.result c.args.workers) c.calls.place c.in-Some.call (sym c.collection_call.ensures.call ∙ c.in-Some.is),
      collection_long c.pages-pages.result c.args.workers,
      c.pages-pages.type_inv,
    )

pub calls-smaller : goal.calls-smaller
calls-smaller g c =
    omega (
      arith,
      slice_get_within (collection c.args.core.now.world.pages c.args.workers) c.calls.place c.in-Some.call
          (subst (λ (n : ℕ). slice_get (collection n c.args.workers) c.calls.place ≡ Some c.in-Some.call) c.pages-pages.ensures (sym c.collection_call.ensures.call ∙ c.in-Some.is)),
    )

pub calls-preserved : goal.calls-preserved
calls-preserved g c = record {
  pages_are = c.pages-pages.ensures;
  done = calls_more g.D.Disk c.args.core.now c.calls.core c.run_call.new.core (collection c.args.core.now.world.pages c.args.workers) c.calls.place c.in-Some.call
      (g.K.Sink.held c.args.sink.now) (g.K.Sink.held c.calls.sink) (g.K.Sink.held c.run_call.new.sink) c.calls.invariant.done
      (subst (λ (n : ℕ). slice_get (collection n c.args.workers) c.calls.place ≡ Some c.in-Some.call) c.pages-pages.ensures (sym c.collection_call.ensures.call ∙ c.in-Some.is))
      (subst (λ (refused : Bool). CallDone g.D.Disk c.calls.core c.in-Some.call refused c.run_call.new.core (g.K.Sink.held c.calls.sink) (g.K.Sink.held c.run_call.new.sink)) c.in-Ok-false.field-0-test c.in-Ok-false.ensures.ran);
  calm = c.in-Ok-false.ensures.calm (λ e. cc) ∙ c.calls.invariant.calm;
  room = c.in-Ok-false.ensures.room;
}

pub returns-in-Err-clause-ran : goal.returns-in-Err-clause-ran
returns-in-Err-clause-ran g c =
    calls_stop g.D.Disk c.args.core.now c.calls.core c.run_call.new.core c.args.workers c.calls.place c.in-Some.call
    (g.K.Sink.held c.args.sink.now) (g.K.Sink.held c.calls.sink) (g.K.Sink.held c.run_call.new.sink) c.in-Err.status c.calls.invariant.done
    (subst (λ (n : ℕ). slice_get (collection n c.args.workers) c.calls.place ≡ Some c.in-Some.call) c.pages-pages.ensures (sym c.collection_call.ensures.call ∙ c.in-Some.is))
    c.in-Err.ensures.ran

pub returns-clause-ran : goal.returns-clause-ran
returns-clause-ran g c =
    calls_all g.D.Disk c.args.core.now c.calls.core c.args.workers c.calls.place (g.K.Sink.held c.args.sink.now) (g.K.Sink.held c.calls.sink) c.calls.invariant.done
    (subst (λ (n : ℕ). slice_get (collection n c.args.workers) c.calls.place ≡ None) c.pages-pages.ensures (sym c.collection_call.ensures.call ∙ none_of c.collection_call.result c.in_default.not-Some))
