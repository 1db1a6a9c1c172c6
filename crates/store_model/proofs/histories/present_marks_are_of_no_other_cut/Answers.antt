use Rattle.store_model.proofs.Parts.{present_marks}
use Rattle.store_model.proofs.histories.present_marks_are_of_no_other_cut.Goals as goal

pub returns : goal.returns
returns c = present_marks
