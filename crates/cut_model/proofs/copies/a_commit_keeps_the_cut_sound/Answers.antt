use Rattle.cut_model.proofs.Commits.{commit_keeps_cut}
use Rattle.cut_model.proofs.copies.a_commit_keeps_the_cut_sound.Goals as goal

pub returns : goal.returns
returns c = commit_keeps_cut
