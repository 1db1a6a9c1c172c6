use Rattle.cut_model.proofs.Commits.{shown_stays}
use Rattle.cut_model.proofs.frames.a_commit_leaves_other_pages.Goals as goal

pub returns : goal.returns
returns c = shown_stays
