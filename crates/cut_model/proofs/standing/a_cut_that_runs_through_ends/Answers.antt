use Rattle.cut_model.proofs.Courses.{cut_may_end, cut_ends}
use Rattle.cut_model.proofs.standing.a_cut_that_runs_through_ends.Goals as goal

pub returns-clause-may : goal.returns-clause-may
returns-clause-may c = cut_may_end

pub returns-clause-only : goal.returns-clause-only
returns-clause-only c = cut_ends
