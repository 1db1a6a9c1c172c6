use Rattle.std.proofs.Common.{refl, None}
use Rattle.object_graph.specs.declared.calls.Call.TheVariants.{Mark}
use Rattle.object_graph.specs.declared.calls.Reply.TheVariants.{Refused}
use Rattle.object_graph.specs.declared.calls.Refusal.TheVariants.{Memory}
use Rattle.store_model.specs.Worlds.{marks}
use Rattle.store_machine.proofs.Acting.{acts_still}
use Rattle.store_machine.proofs.marking.mark_closed.Goals as goal

pub returns-in-Err-clause-answered : goal.returns-in-Err-clause-answered
returns-in-Err-clause-answered g c = record {
  note = marks None;
  acts = acts_still g.D.Disk c.args.core.now c.args.core.now (Mark c.args.workers) (Refused Memory) (marks None) g.met.D.Disk.only_now
      (c.requires.may c.args.workers) refl refl c.stands.ensures.now tt refl (λ e. cc);
}
