use Rattle.cut_model.proofs.Places.{doomed_slots}
use Rattle.cut_model.proofs.collection.doomed_slots_are_those_of_doomed_names.Goals as goal

pub returns : goal.returns
returns c = doomed_slots
