use Rattle.store_model.specs.Worlds.{IsOutOfReach}
use Rattle.object_graph.proofs.Members.{each_in}
use Rattle.object_graph.proofs.Paths.{has_name_in}
use Rattle.store_model.proofs.lawful.what_is_freed_is_out_of_reach.Goals as goal

pub returns : goal.returns
returns c = λ w name lawful h. each_in (IsOutOfReach w) w.freed name lawful.freed (has_name_in w.freed name h)
