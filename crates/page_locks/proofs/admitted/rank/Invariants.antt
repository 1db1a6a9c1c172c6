use Rattle.std.proofs.Common.{◌≡◌, false, take}
use Rattle.page_locks.specs.Sets.{is_among}
use Rattle.page_locks.specs.Places.{numbers_in}
use Rattle.page_locks.proofs.admitted.rank.Given as goal

abbrev pub invariant-admitted : goal.invariant-admitted
invariant-admitted l = is_among (numbers_in (take l.at l.admitted)) l.txn ≡ false
