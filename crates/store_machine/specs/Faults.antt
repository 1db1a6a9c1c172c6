-- Histories without a disk fault.
use Rattle.std.specs.Prelude.{◌≢◌, List}
use Rattle.std.specs.List.{AllByRecursion}
use Rattle.object_graph.specs.declared.calls.Reply.TheVariants.{Refused}
use Rattle.object_graph.specs.declared.calls.Refusal.TheVariants.{DiskFault}
use Rattle.store_model.specs.Worlds.{Event}

-- no reply is a disk fault
abbrev pub NoneFailed : List Event → Type 0
NoneFailed history = AllByRecursion (λ (e : Event). e.entry.reply ≢ Refused DiskFault) history
