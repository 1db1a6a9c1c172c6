use Rattle.std.proofs.Common.{◌≡◌, ◌≤◌, ◌-◌, length}
use Rattle.std.specs.Prelude.{vec_capacity}
use Rattle.store_model.specs.Histories.{collection}
use Rattle.store_run.specs.declared.calls.TheConstants.{REPLY_ROOM}
use Rattle.store_run.specs.Lines.{CallsDone}
use Rattle.store_run.proofs.calls.run_collection.Given as goal

abbrev pub invariant-calls : goal.invariant-calls
invariant-calls g l = record {
  pages_are : l.pages ≡ l.fn.core.world.pages;
  done : CallsDone g.D.Disk l.fn.core (collection l.fn.core.world.pages l.workers) l.place l.core (g.K.Sink.held l.fn.sink) (g.K.Sink.held l.sink);
  calm : g.K.Sink.faults l.sink ≡ g.K.Sink.faults l.fn.sink;
  room : REPLY_ROOM ≤ vec_capacity l.buffer;
}

abbrev pub decreases-calls : goal.decreases-calls
decreases-calls g l = length (collection l.fn.core.world.pages l.workers) - l.place
