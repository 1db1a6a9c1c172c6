use Rattle.std.proofs.Common.{rules}
use Rattle.store_desk.specs.Appended.{Did}
use Rattle.store_desk.proofs.Turns.{called_from}
use Rattle.store_desk.proofs.desk.Desk.call.Goals as goal

pub returns : goal.returns
returns g c = let h = c.with_beside.ensures.called in
    let did : Did g.D.Disk h.0 h.1 c.args.lane c.args.call c.with_beside.result.0 = search rules in
    called_from g.D.Disk c.args.seat.now c.with_beside.new.seat h.0 h.1 h.2 h.5 c.args.lane c.args.call c.with_beside.result.0 did
