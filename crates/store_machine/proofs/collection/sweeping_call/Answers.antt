use Rattle.std.proofs.Common.{sym, arith}
use Rattle.store_machine.proofs.Places.{sweep_place, end_place, past_place}
use Rattle.store_machine.proofs.collection.sweeping_call.Goals as goal

pub returns-then-place-from-clause-call : goal.returns-then-place-from-clause-call
returns-then-place-from-clause-call c = sym (sweep_place c.args.pages c.args.place (omega arith))

pub returns-then-place-from-2-clause-call : goal.returns-then-place-from-2-clause-call
returns-then-place-from-2-clause-call c = sym (end_place c.args.pages c.args.place (omega arith))

pub returns-else-place-from-2-clause-call : goal.returns-else-place-from-2-clause-call
returns-else-place-from-2-clause-call c = sym (past_place c.args.pages c.args.place (omega arith))
