use Rattle.store_model.proofs.Changes.{commits-after_reply}
use Rattle.store_model.proofs.steps.commits_do_not_fall.Goals as goal

pub returns : goal.returns
returns c = λ w e may. commits-after_reply w e.entry.call e.note e.entry.reply may.1
