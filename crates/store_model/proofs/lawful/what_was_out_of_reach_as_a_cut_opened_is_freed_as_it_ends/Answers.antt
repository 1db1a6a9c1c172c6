use Rattle.object_graph.specs.declared.calls.Call.TheVariants.{OpenCut}
use Rattle.object_graph.specs.declared.calls.Reply.TheVariants.{Cut}
use Rattle.std.proofs.Common.{◌+◌}
use Rattle.store_model.proofs.KeptOpenings.{freed_from_opening}
use Rattle.store_model.proofs.Lawfulness.{event_is_lawful}
use Rattle.store_model.proofs.lawful.what_was_out_of_reach_as_a_cut_opened_is_freed_as_it_ends.Goals as goal

pub returns : goal.returns
returns c = λ w note end_note events cut name lawful may legal is number ends there unfreed unreached.
    freed_from_opening w events cut end_note name (event_is_lawful w OpenCut note (Cut (w.last_cut + 1)) lawful may) legal is number ends.0 there unfreed unreached
