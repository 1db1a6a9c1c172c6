use Rattle.std.proofs.Common.{◌≡◌, ◌≢◌, ℕ, Option, Some, None, is_some, List, IfSome, IfNone, ap, sym, subst, ◌∙◌}
use Rattle.page_locks.specs.Sets.{is_among}
use Rattle.page_locks.specs.Holding.{LockTable, is_admitted}
use Rattle.page_locks.specs.Places.{transaction_at, numbers_in, AreSeated}
use Rattle.page_locks.specs.declared.admitted.Admitted.{Admitted}
use Rattle.page_locks.specs.declared.seats.Seat.{Seat}
use Rattle.page_locks.proofs.Modes.{admitted-locks_of}
use Rattle.page_locks.proofs.Seated.{unseated}
use Rattle.page_locks.proofs.locks.Locks.admitted.Goals as goal

found : (held : List Admitted) (seats : List Seat) (txn : ℕ) (o : Option ℕ) → AreSeated held seats → IfSome o (λ q. transaction_at seats q ≡ Some txn) → IfNone o ((q : ℕ) → transaction_at seats q ≢ Some txn)
    → is_some o ≡ is_among (numbers_in held) txn
found held seats txn None s some none = sym (unseated held seats txn s none)
found held seats txn (Some q) s some none = sym (s.admitted q txn some)

pub returns : goal.returns
returns c =
    let items = c.self.inside.admitted.items in
    c.is_some.ensures
    ∙ (found items c.deref.result.now c.args.txn c.place_of.result (subst (AreSeated items) (sym c.deref.ensures.value) c.self.invariant.1.seated) c.place_of.ensures.some c.place_of.ensures.none
    ∙ (sym (admitted-locks_of c.self.inside.holders.items items c.args.txn) ∙ ap (λ (t : LockTable). is_admitted t.held c.args.txn) c.self.view_is))
