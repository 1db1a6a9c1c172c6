use Rattle.cut_model.proofs.Scripts.{linked_is_marked}
use Rattle.cut_model.proofs.examples.a_dirty_copy_marks_what_was_committed.Goals as goal

pub returns : goal.returns
returns c = linked_is_marked
