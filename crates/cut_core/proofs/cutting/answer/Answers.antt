use Rattle.std.proofs.Common.{sym, refl, ◌∙◌}
use Rattle.store_model.specs.Steps.{next}
use Rattle.cut_core.specs.Calls.{event_of}
use Rattle.cut_core.proofs.Holding.{of_cut, of_store}
use Rattle.cut_core.proofs.Standing.{no_device_call}
use Rattle.cut_core.proofs.Touching.{cut_frames}
use Rattle.cut_core.proofs.cutting.answer.Goals as goal

pub call_cut-requires-clause-of : goal.call_cut-requires-clause-of
call_cut-requires-clause-of g c = of_cut c.args.call.now (sym c.is_on_cut.ensures ∙ c.if-is_on_cut.true)

pub call-requires-clause-built : goal.call-requires-clause-built
call-requires-clause-built g c = of_store c.args.call.now c.requires.built (sym c.is_on_cut.ensures ∙ c.if-is_on_cut.false)

pub returns-then-is_on_cut-clause-any_moment : goal.returns-then-is_on_cut-clause-any_moment
returns-then-is_on_cut-clause-any_moment g c = λ w h holds.
    no_device_call g.D.Disk g.met.D.Disk.only_now c.args.store.now c.args.store.now.disk w
    (next w (event_of c.args.call.now c.call_cut.result (g.D.Disk.fault_count c.args.store.now.disk))) refl h

pub returns-then-is_on_cut-clause-frames : goal.returns-then-is_on_cut-clause-frames
returns-then-is_on_cut-clause-frames g c = cut_frames c.args.store.now.transactions c.args.call.now c.call_cut.result (sym c.is_on_cut.ensures ∙ c.if-is_on_cut.true)
