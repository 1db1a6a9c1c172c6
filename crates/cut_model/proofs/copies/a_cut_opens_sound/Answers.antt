use Rattle.cut_model.proofs.Openings.{opening_is_kept, empty_cut_is_sound}
use Rattle.cut_model.proofs.copies.a_cut_opens_sound.Goals as goal

pub returns-clause-opening : goal.returns-clause-opening
returns-clause-opening c = opening_is_kept

pub returns-clause-sound : goal.returns-clause-sound
returns-clause-sound c = empty_cut_is_sound
