use Rattle.cut_model.proofs.Scripts.{lossy_is_unsound}
use Rattle.cut_model.proofs.examples.a_copy_without_its_before_image_is_unsound.Goals as goal

pub returns : goal.returns
returns c = lossy_is_unsound
