use Rattle.transactions.proofs.Ready.{ready_after, ready_for_some, ready_finished}
use Rattle.transactions.proofs.laws.each_call_leaves_them_ready.Goals as goal

pub returns-clause-answered : goal.returns-clause-answered
returns-clause-answered c = λ old new w call reply. ready_after old new w call reply

pub returns-clause-stepped : goal.returns-clause-stepped
returns-clause-stepped c = λ old new call reply. ready_for_some old new call reply

pub returns-clause-finished : goal.returns-clause-finished
returns-clause-finished c = λ old new txn. ready_finished old new txn
