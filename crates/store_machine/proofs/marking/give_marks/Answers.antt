use Rattle.std.proofs.Common.{refl, sym, subst, Some}
use Rattle.object_graph.specs.declared.calls.Call.TheVariants.{Mark}
use Rattle.object_graph.specs.declared.calls.Reply.TheVariants.{Done}
use Rattle.std.specs.Prelude.{Result}
use Rattle.object_graph.specs.declared.calls.Refusal.{Refusal}
use Rattle.store_model.specs.Worlds.{World, marks}
use Rattle.store_model.specs.Replies.{Allows}
use Rattle.cut_builder.specs.CutParts.{MarkedParts}
use Rattle.cut_core.specs.Given.{mark_event, marked_reply}
use Rattle.store_machine.specs.Kept.{IsUnclosed}
use Rattle.store_machine.proofs.Acting.{acts_still}
use Rattle.store_machine.proofs.Marked.{never_refused, present, sweeping_now}
use Rattle.store_machine.proofs.marking.give_marks.Goals as goal

pub unreachable-requires : goal.unreachable-requires
unreachable-requires g c =
    never_refused c.args.core.now.world c.args.core.now.beside c.args.marked.cut c.in_default.field-0 c.requires.kept c.requires.may
    (λ workers. subst (λ (r : Result (Unit {0}) (MarkedParts × Refusal)). Allows c.args.core.now.world (mark_event workers (Some c.args.marked.cut.number) (marked_reply r)))
    c.in_default.is (c.give_marks.ensures.allowed workers))

pub returns-clause-answered : goal.returns-clause-answered
returns-clause-answered g c = λ workers. record {
  note = marks (Some c.args.marked.cut.number);
  acts = acts_still g.D.Disk c.args.core.now c.give_marks.new.self (Mark workers) Done (marks (Some c.args.marked.cut.number)) g.met.D.Disk.only_now
      (c.in-Ok.ensures.allowed workers) (c.in-Ok.ensures.world workers) c.in-Ok.ensures.disk c.stands.ensures.now
      (present c.args.core.now.world.cut c.args.marked.cut.number c.requires.kept.closed) refl (λ e. cc);
}

pub returns-clause-unclosed : goal.returns-clause-unclosed
returns-clause-unclosed g c = subst (λ (w : World). IsUnclosed w) (sym (c.in-Ok.ensures.world 1)) (sweeping_now c.args.core.now.world.cut)
