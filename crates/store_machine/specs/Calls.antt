-- The calls of a run.
use Rattle.std.specs.Prelude.{Bool, false, not}
use Rattle.object_graph.specs.declared.calls.Call.{Call}
use Rattle.object_graph.specs.declared.calls.Call.TheVariants.{HandIn, Mark, EndCut, DropCut, Reopen}
use Rattle.object_graph.specs.declared.calls.Reply.{Reply}
use Rattle.store_model.specs.Histories.{is_refused}
use Rattle.mark_pool.specs.Jobs.{AreWorkers}

-- the calls of a script: no copy is handed in, and there are as many workers as may mark
abbrev pub IsOfScript : Call → Type 0
IsOfScript (HandIn page cut seen) = ⊥
IsOfScript (Mark workers) = AreWorkers workers
IsOfScript call = Unit {0}

-- the reply takes the cut away: it ends, it is dropped, or the store is opened again
abbrev pub takes_cut : Call → Reply → Bool
takes_cut EndCut reply = not (is_refused reply)
takes_cut DropCut reply = not (is_refused reply)
takes_cut Reopen reply = not (is_refused reply)
takes_cut call reply = false
