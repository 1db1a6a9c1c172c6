use Rattle.store_model.specs.Steps.{next}
use Rattle.store_model.proofs.Keeps.{freed_grows, still_freed}
use Rattle.store_model.proofs.steps.freed_names_stay.Goals as goal

pub returns : goal.returns
returns c = λ w e name h. still_freed w.freed (next w e).freed name (freed_grows w e.entry.call e.note e.entry.reply) h
