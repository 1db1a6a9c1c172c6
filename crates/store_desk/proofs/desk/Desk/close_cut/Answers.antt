use Rattle.std.proofs.Common.{rules}
use Rattle.store_desk.specs.Appended.{DidClose}
use Rattle.store_desk.proofs.Turns.{closed_from}
use Rattle.store_desk.proofs.desk.Desk.close_cut.Goals as goal

pub returns : goal.returns
returns g c = let h = c.with.ensures.called in
    let did : DidClose g.D.Disk h.0 h.1 c.args.lane c.with.result.0 = search rules in
    closed_from g.D.Disk c.args.seat.now c.with.new.seat h.0 h.1 h.2 h.5 c.args.lane c.with.result.0 did
