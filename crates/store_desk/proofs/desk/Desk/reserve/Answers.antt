use Rattle.std.proofs.Common.{rules, ◌≡◌}
use Rattle.store_desk.specs.States.{IsKeptIn}
use Rattle.store_desk.proofs.Turns.{looked_from}
use Rattle.store_desk.proofs.desk.Desk.reserve.Goals as goal

pub returns : goal.returns
returns g c = let h = c.with.ensures.called in
    let chronicle : h.1.chronicle ≡ h.0.chronicle = search rules in
    let start : h.1.start ≡ h.0.start = search rules in
    let kept : IsKeptIn g.D.Disk h.1 = search rules in
    looked_from g.D.Disk c.args.seat.now c.with.new.seat h.0 h.1 h.2 h.5 chronicle start kept
