use Rattle.cut_model.proofs.Events.{event_keeps_fit}
use Rattle.cut_model.proofs.copies.a_fit_copy_stays_fit.Goals as goal

pub returns : goal.returns
returns c = λ w opening e pages after page copy orderly within allows stays changes gives fit.
    event_keeps_fit w opening e.entry.call e.note e.entry.reply pages after page copy orderly within allows.1 stays changes gives fit
