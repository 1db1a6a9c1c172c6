use Rattle.std.proofs.Common.{refl}
use Rattle.std.specs.Fmt.{digits}
use Rattle.store_model.proofs.Scripts.{what_is_born_in_a_cut_outlives_it_legal}
use Rattle.store_model.proofs.examples.what_is_born_in_a_cut_outlives_it.Goals as goal

pub returns-clause-legal : goal.returns-clause-legal
returns-clause-legal c = what_is_born_in_a_cut_outlives_it_legal

pub returns-clause-text : goal.returns-clause-text
unfolding digits
returns-clause-text c = refl
