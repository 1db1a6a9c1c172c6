use Rattle.std.proofs.Common.{true, refl}
use Rattle.std.specs.Vec.{with_item}
use Rattle.cut_core.proofs.Sweeping.{swept_holds}
use Rattle.cut_core.proofs.held.Held.note_swept.Goals as goal

pub returns-in-Some-clause-well : goal.returns-in-Some-clause-well
returns-in-Some-clause-well c = λ w slots h may.
    swept_holds c.args.self.now c.in-Some.held (record { number = c.in-Some.held.number; stage = c.in-Some.held.stage; swept = with_item c.in-Some.held.swept c.args.page true }) w c.args.page slots
    c.in-Some.is refl refl refl h may
