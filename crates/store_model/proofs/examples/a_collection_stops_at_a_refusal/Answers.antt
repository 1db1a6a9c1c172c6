use Rattle.std.proofs.Common.{refl, [], ◌∷◌}
use Rattle.std.specs.Fmt.{digits}
use Rattle.object_graph.specs.declared.calls.Call.TheVariants.{OpenCut, DropCut}
use Rattle.object_graph.specs.declared.calls.Reply.TheVariants.{Done}
use Rattle.object_graph.specs.declared.calls.Refusal.TheVariants.{CutThere}
use Rattle.store_model.specs.Examples.{said, refused}
use Rattle.store_model.proofs.Scripts.{a_collection_stops_at_a_refusal_legal}
use Rattle.store_model.proofs.examples.a_collection_stops_at_a_refusal.Goals as goal

pub returns-clause-legal : goal.returns-clause-legal
returns-clause-legal c = a_collection_stops_at_a_refusal_legal

pub returns-clause-follows : goal.returns-clause-follows
returns-clause-follows c = (
  refused OpenCut (CutThere 1) ∷ said DropCut Done ∷ [],
  (refl, refl),
  (said DropCut Done ∷ [], (refl, refl), ([], (refl, refl), refl)),
)

pub returns-clause-text : goal.returns-clause-text
unfolding digits
returns-clause-text c = refl
