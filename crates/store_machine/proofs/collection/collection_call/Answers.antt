use Rattle.std.proofs.Common.{◌-◌, ◌∙◌, sym, arith}
use Rattle.store_machine.proofs.Places.{later_place, after_two}
use Rattle.store_machine.proofs.collection.collection_call.Goals as goal

pub returns-in-0-clause-call : goal.returns-in-0-clause-call
returns-in-0-clause-call c = sym (later_place c.args.pages c.args.workers c.args.place 0 (omega arith))

pub returns-in-1-clause-call : goal.returns-in-1-clause-call
returns-in-1-clause-call c = sym (later_place c.args.pages c.args.workers c.args.place 1 (omega arith))

pub returns-in_default-clause-call : goal.returns-in_default-clause-call
returns-in_default-clause-call c =
    c.sweeping_call.ensures.call
    ∙ sym (later_place c.args.pages c.args.workers c.args.place (c.args.place - c.from-copied.result - 1) (omega arith) ∙ after_two c.args.pages c.args.workers (c.args.place - c.from-copied.result - 1) (omega arith))
