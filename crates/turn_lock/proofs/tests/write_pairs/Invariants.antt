use Rattle.std.proofs.Common.{◌≡◌}
use Rattle.turn_lock.proofs.tests.write_pairs.Given as goal

abbrev pub invariant-loop-pair : goal.invariant-loop-pair
invariant-loop-pair g l = (l.seat.turn ≡ l.fn.seat.turn) × (l.seat.parts ≡ l.fn.seat.parts)
