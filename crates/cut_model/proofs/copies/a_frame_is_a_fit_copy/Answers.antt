use Rattle.cut_model.proofs.Fits.{frame_is_fit}
use Rattle.cut_model.proofs.copies.a_frame_is_a_fit_copy.Goals as goal

pub returns : goal.returns
returns c = frame_is_fit
