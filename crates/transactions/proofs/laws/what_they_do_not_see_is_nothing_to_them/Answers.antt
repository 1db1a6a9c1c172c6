use Rattle.transactions.proofs.Unseen.{stands_same, stands_idle}
use Rattle.transactions.proofs.laws.what_they_do_not_see_is_nothing_to_them.Goals as goal

pub returns-clause-same : goal.returns-clause-same
returns-clause-same c = λ s w v. stands_same s w v

pub returns-clause-idle : goal.returns-clause-idle
returns-clause-idle c = λ s w v. stands_idle s w v
