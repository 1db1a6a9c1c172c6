use Rattle.std.proofs.Common.{sym, subst, ◌∙◌}
use Rattle.cut_core.specs.Holding.{CutSteps}
use Rattle.cut_core.proofs.Holding.{cut_steps, cut_holds}
use Rattle.cut_core.proofs.Standing.{is_ready}
use Rattle.cut_core.proofs.cutting.call_cut.Goals as goal

pub returns-in-OpenCut-clause-steps : goal.returns-in-OpenCut-clause-steps
returns-in-OpenCut-clause-steps g c = λ w h holds.
    cut_steps g.D.Disk c.args.store.now c.open.new.self c.args.call.now c.open.result (g.D.Disk.fault_count c.args.store.now.disk) w c.requires.of c.in_default.is h c.open.ensures.other
    (subst (λ k. CutSteps c.open.new.self w k c.open.result) (sym c.in-OpenCut.is) (c.open.ensures.well w holds (sym h.broken ∙ c.in_default.is) (sym h.transactions.frames.count ∙ sym c.pages.ensures) (sym h.commits)))

pub returns-in-OpenCut-clause-held : goal.returns-in-OpenCut-clause-held
returns-in-OpenCut-clause-held g c = λ w h holds.
    cut_holds g.D.Disk c.args.store.now c.open.new.self c.args.call.now c.open.result (g.D.Disk.fault_count c.args.store.now.disk) w c.requires.of c.in_default.is h c.open.ensures.other
    (subst (λ k. CutSteps c.open.new.self w k c.open.result) (sym c.in-OpenCut.is) (c.open.ensures.well w holds (sym h.broken ∙ c.in_default.is) (sym h.transactions.frames.count ∙ sym c.pages.ensures) (sym h.commits)))

pub returns-in-Copy-clause-steps : goal.returns-in-Copy-clause-steps
returns-in-Copy-clause-steps g c = λ w h holds.
    cut_steps g.D.Disk c.args.store.now c.copy.new.self c.args.call.now c.copy.result (g.D.Disk.fault_count c.args.store.now.disk) w c.requires.of c.in_default.is h c.copy.ensures.other
    (subst (λ k. CutSteps c.copy.new.self w k c.copy.result) (sym c.in-Copy.is) (c.copy.ensures.well w holds (is_ready g.D.Disk c.args.store.now w c.in_default.is h) (sym h.commits)))

pub returns-in-Copy-clause-held : goal.returns-in-Copy-clause-held
returns-in-Copy-clause-held g c = λ w h holds.
    cut_holds g.D.Disk c.args.store.now c.copy.new.self c.args.call.now c.copy.result (g.D.Disk.fault_count c.args.store.now.disk) w c.requires.of c.in_default.is h c.copy.ensures.other
    (subst (λ k. CutSteps c.copy.new.self w k c.copy.result) (sym c.in-Copy.is) (c.copy.ensures.well w holds (is_ready g.D.Disk c.args.store.now w c.in_default.is h) (sym h.commits)))

pub returns-in-EndCut-clause-steps : goal.returns-in-EndCut-clause-steps
returns-in-EndCut-clause-steps g c = λ w h holds.
    cut_steps g.D.Disk c.args.store.now c.end.new.self c.args.call.now c.end.result (g.D.Disk.fault_count c.args.store.now.disk) w c.requires.of c.in_default.is h c.end.ensures.other
    (subst (λ k. CutSteps c.end.new.self w k c.end.result) (sym c.in-EndCut.is) (c.end.ensures.well w holds (sym h.broken ∙ c.in_default.is)))

pub returns-in-EndCut-clause-held : goal.returns-in-EndCut-clause-held
returns-in-EndCut-clause-held g c = λ w h holds.
    cut_holds g.D.Disk c.args.store.now c.end.new.self c.args.call.now c.end.result (g.D.Disk.fault_count c.args.store.now.disk) w c.requires.of c.in_default.is h c.end.ensures.other
    (subst (λ k. CutSteps c.end.new.self w k c.end.result) (sym c.in-EndCut.is) (c.end.ensures.well w holds (sym h.broken ∙ c.in_default.is)))

pub returns-in-DropCut-clause-steps : goal.returns-in-DropCut-clause-steps
returns-in-DropCut-clause-steps g c = λ w h holds.
    cut_steps g.D.Disk c.args.store.now c.drop_cut.new.self c.args.call.now c.drop_cut.result (g.D.Disk.fault_count c.args.store.now.disk) w c.requires.of c.in_default.is h c.drop_cut.ensures.other
    (subst (λ k. CutSteps c.drop_cut.new.self w k c.drop_cut.result) (sym c.in-DropCut.is) (c.drop_cut.ensures.well w holds (sym h.broken ∙ c.in_default.is)))

pub returns-in-DropCut-clause-held : goal.returns-in-DropCut-clause-held
returns-in-DropCut-clause-held g c = λ w h holds.
    cut_holds g.D.Disk c.args.store.now c.drop_cut.new.self c.args.call.now c.drop_cut.result (g.D.Disk.fault_count c.args.store.now.disk) w c.requires.of c.in_default.is h c.drop_cut.ensures.other
    (subst (λ k. CutSteps c.drop_cut.new.self w k c.drop_cut.result) (sym c.in-DropCut.is) (c.drop_cut.ensures.well w holds (sym h.broken ∙ c.in_default.is)))
