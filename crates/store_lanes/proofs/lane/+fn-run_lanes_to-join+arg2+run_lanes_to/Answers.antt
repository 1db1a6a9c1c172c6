use Rattle.std.proofs.Common.{◌≡◌, ◌+◌, ◌-◌, ◌&&◌, Bool, ℕ, subst, sym, arith}
use denote.Exit.{no}
use denote.Param.{param}
use denote.Param.Send.{param_send, arg_send, sendable}
use Rattle.script_lang.specs.Script.{lines_of}
use Rattle.turn_lock.specs.Seats.{joined_seats}
use Rattle.store_desk.specs.Seats.{AtDesk}
use Rattle.store_desk.proofs.Crossing.{seat_send}
use Rattle.store_lanes.specs.Lanes.{LanesRan}
use Rattle.store_lanes.proofs.Crossing.{lanes_send}
use Rattle.store_lanes.proofs.Going.{lanes_joined}
use Rattle.store_lanes.proofs.lane.+fn-run_lanes_to-join+arg2+run_lanes_to.Goals as goal

pub join-seat-requires-send-F : goal.join-seat-requires-send-F
join-seat-requires-send-F g t c κs within =
    param_send 1 _ (arg_send _ no _ (lanes_send (param 0 g.row.R) (param 1 g.row.D) (param 2 g.row.G) g.D.Disk (search sendable) (search sendable) (search sendable) _ _ _ _ _ _ _ _ _))

pub join-seat-requires-send-A : goal.join-seat-requires-send-A
join-seat-requires-send-A g t c κs within = search (sendable, seat_send) depth 14

pub returns-clause-ran : goal.returns-clause-ran
returns-clause-ran g t c =
    let first = c.args.desk.now.value.start in let all = lines_of c.args.script.now in
    let r1 = c.join-seat.ensures.first in let r2 = c.join-seat.ensures.second in
    let one : AtDesk g.row.D.Denot = c.join-seat.result.0.0 in let other : AtDesk g.row.D.Denot = c.join-seat.result.1.0 in
    let a : Bool = c.join-seat.result.0.1 in let b : Bool = c.join-seat.result.1.1 in
    let e : (c.args.last - 1) + 1 ≡ c.args.last = omega arith in
    let r : LanesRan g.D.Disk first all 1 ((c.args.last - 1) + 1) (a && b) (joined_seats one other) =
    lanes_joined g.D.Disk first all (c.args.last - 1) a b one other r1.0 (subst (λ (m : ℕ). LanesRan g.D.Disk first all m m b other) (sym e) r2.0) c.join.ensures.agree in
    subst (λ (s : AtDesk g.row.D.Denot). LanesRan g.D.Disk first all 1 c.args.last c.both.result s) (sym c.join.ensures.joined)
    (subst (λ (d : Bool). LanesRan g.D.Disk first all 1 c.args.last d (joined_seats one other)) (sym c.both.ensures)
    (subst (λ (m : ℕ). LanesRan g.D.Disk first all 1 m (a && b) (joined_seats one other)) e r))
