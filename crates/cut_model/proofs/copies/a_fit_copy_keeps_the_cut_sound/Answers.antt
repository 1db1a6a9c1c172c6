use Rattle.cut_model.proofs.Fits.{fit_copy_keeps_cut}
use Rattle.cut_model.proofs.copies.a_fit_copy_keeps_the_cut_sound.Goals as goal

pub returns : goal.returns
returns c = fit_copy_keeps_cut
