use Rattle.store_model.specs.Steps.{next}
use Rattle.store_model.proofs.OutOfReach.{name_stays}
use Rattle.store_model.proofs.Keeps.{follows}
use Rattle.store_model.proofs.steps.committed_names_stay.Goals as goal

pub returns : goal.returns
returns c = λ w e name orderly may there. name_stays w (next w e) name (follows w e.entry.call e.note e.entry.reply orderly may.1) there
