use Rattle.cut_model.proofs.Scripts.{stale_is_unsound}
use Rattle.cut_model.proofs.examples.a_cut_without_an_after_image_is_unsound.Goals as goal

pub returns : goal.returns
returns c = stale_is_unsound
