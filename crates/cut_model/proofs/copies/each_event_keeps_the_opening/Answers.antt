use Rattle.cut_model.proofs.Openings.{event_keeps_opening}
use Rattle.store_model.proofs.Orderly.{event_is_orderly}
use Rattle.cut_model.proofs.copies.each_event_keeps_the_opening.Goals as goal

pub returns : goal.returns
returns c = λ w opening e orderly allows stays keeps.
    let call = e.entry.call in
    let reply = e.entry.reply in
    event_keeps_opening w opening call e.note reply orderly (event_is_orderly w call e.note reply orderly allows.1) allows.1 stays keeps
