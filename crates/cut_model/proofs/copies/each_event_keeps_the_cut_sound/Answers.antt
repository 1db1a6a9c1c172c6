use Rattle.cut_model.proofs.Events.{event_keeps_sound}
use Rattle.cut_model.proofs.copies.each_event_keeps_the_cut_sound.Goals as goal

pub returns : goal.returns
returns c = λ w opening e pages after orderly keeps allows stays changes sound.
    event_keeps_sound w opening e.entry.call e.note e.entry.reply pages after orderly keeps allows.1 stays changes sound
