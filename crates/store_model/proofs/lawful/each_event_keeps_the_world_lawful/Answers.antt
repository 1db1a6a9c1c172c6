use Rattle.store_model.proofs.Lawfulness.{event_is_lawful}
use Rattle.store_model.proofs.lawful.each_event_keeps_the_world_lawful.Goals as goal

pub returns : goal.returns
returns c = λ w e lawful may. event_is_lawful w e.entry.call e.note e.entry.reply lawful may.1
