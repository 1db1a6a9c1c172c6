use Rattle.std.proofs.Common.{rules}
use Rattle.turn_lock.proofs.Holding.{found_in_turn}
use Rattle.store_desk.specs.Appended.{Did}
use Rattle.store_desk.proofs.Turns.{called_from}
use Rattle.store_desk.proofs.desk.call_in_turn.Goals as goal

pub returns : goal.returns
returns g c = let h = c.with_beside.ensures.called in
    let did : Did g.D.Disk h.0 h.1 c.args.lane c.args.call c.with_beside.result = search rules in
    called_from g.D.Disk c.args.guard.now c.with_beside.new.self h.0 h.1 (found_in_turn h.0.chronicle h.0.start c.args.guard.now h.2) h.4 c.args.lane c.args.call c.with_beside.result did
