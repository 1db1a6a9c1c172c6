use Rattle.std.proofs.Common.{◌-◌, arith}
use Rattle.store_machine.proofs.Places.{copy_place}
use Rattle.store_machine.proofs.collection.copying_call.Goals as goal

pub returns-else-place-eq0-clause-call : goal.returns-else-place-eq0-clause-call
returns-else-place-eq0-clause-call c = copy_place c.args.pages c.args.place (c.args.place - 1) (omega arith) (omega arith)
