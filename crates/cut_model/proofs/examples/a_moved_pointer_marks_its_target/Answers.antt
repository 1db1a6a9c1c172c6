use Rattle.cut_model.proofs.Scripts.{target_is_marked}
use Rattle.cut_model.proofs.examples.a_moved_pointer_marks_its_target.Goals as goal

pub returns : goal.returns
returns c = target_is_marked
