use Rattle.page_locks.specs.Places.{IsLeastMarked}
use Rattle.page_locks.proofs.seats.least_number.Given as goal

abbrev pub invariant-places : goal.invariant-places
invariant-places l = IsLeastMarked l.seats l.places l.place l.least
