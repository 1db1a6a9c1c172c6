-- The closing of a cut.
use Rattle.std.proofs.Common.{◌≡◌}
use Rattle.object_graph.specs.declared.calls.Call.TheVariants.{Close}
use Rattle.object_graph.specs.declared.calls.Reply.TheVariants.{Refused}
use Rattle.object_graph.specs.declared.calls.Refusal.{Refusal}
use Rattle.object_graph.specs.declared.calls.Refusal.TheVariants.{DiskFault}
use Rattle.store_model.specs.Worlds.{World, nothing}
use Rattle.store_model.specs.Replies.{Allows}
use Rattle.store_machine.specs.Acts.{event_with}

-- a closing is no call of the disk
pub close_never_fails : (w : World) (why : Refusal) → Allows w (event_with Close (Refused why) nothing) → Refused why ≡ Refused DiskFault → ⊥
close_never_fails w DiskFault allowed e = let t = allowed.0 in absurd cc
close_never_fails w _ allowed e = absurd cc
