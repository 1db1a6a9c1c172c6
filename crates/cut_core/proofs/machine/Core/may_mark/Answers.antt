use Rattle.std.proofs.Common.{sym, subst, ◌∙◌}
use Rattle.object_graph.specs.declared.calls.Call.TheVariants.{Mark}
use Rattle.object_graph.specs.declared.calls.Reply.TheVariants.{Refused}
use Rattle.store_model.specs.Replies.{Allows}
use Rattle.store_model.specs.Worlds.{marks}
use Rattle.cut_core.specs.Given.{mark_event}
use Rattle.cut_core.specs.Seen.{Seen}
use Rattle.cut_core.proofs.Closings.{refuses_with, mark_noted}
use Rattle.cut_core.proofs.machine.Core.may_mark.Goals as goal

pub returns-clause-refused : goal.returns-clause-refused
returns-clause-refused g c = λ why is workers number.
    subst (λ (s : Seen g.row.D.Denot). Allows s.world (mark_event workers number (Refused why))) c.self.view_is (
      mark_noted workers number why (c.number_to_mark.ensures.other why is),
      refuses_with c.self.inside.told.value (Mark workers) (marks number) why
          (c.number_to_mark.ensures.refused why is c.self.inside.told.value c.self.invariant.holds (sym c.self.invariant.stands.broken ∙ c.in_default.is) workers number),
    )
