use Rattle.store_machine.proofs.Calling.{of_core}
use Rattle.store_machine.proofs.machine.Machine.answer.Goals as goal

pub call-requires : goal.call-requires
call-requires g c = of_core c.args.call c.requires c.in_default.not-Close c.in_default.not-Mark c.in_default.not-Reopen
