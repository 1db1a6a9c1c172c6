use Rattle.std.proofs.Common.{◌≡◌, ◌≢◌, ◌++◌, ◌∷◌, [], ℕ, ◌<◌, List, length, set, false, Some, None, ap, sym, subst, ◌∙◌, arith}
use Rattle.object_graph.specs.declared.limits.TheConstants.{MOST_OPEN}
use Rattle.page_locks.specs.Sets.{is_among}
use Rattle.page_locks.specs.Holding.{LockTable, HaveSameLocks, is_admitted}
use Rattle.page_locks.specs.Places.{transaction_at, seat_at, locks_of, numbers_in, IsLockTable}
use Rattle.page_locks.specs.declared.admitted.Admitted.{Admitted}
use Rattle.page_locks.specs.declared.seats.Seat.{Seat}
use Rattle.page_locks.proofs.Modes.{admitted-locks_of}
use Rattle.page_locks.proofs.Seated.{seat_is}
use Rattle.page_locks.proofs.Table.{length-locks_of}
use Rattle.page_locks.proofs.Comings.{full, table_admits, same_locks}
use Rattle.page_locks.proofs.locks.Locks.admit.Goals as goal

pub returns-in_default-clause-full : goal.returns-in_default-clause-full
returns-in_default-clause-full c =
    let held = c.self.inside.admitted.items in
    let taken = subst (λ (ss : List Seat). (q : ℕ) → q < MOST_OPEN → transaction_at ss q ≢ None) c.deref.ensures.value c.in_default.ensures.none in
    sym (ap (λ (t : LockTable). length t.held) c.self.view_is) ∙ (length-locks_of c.self.inside.holders.items held ∙ full held c.self.inside.seats.items c.self.invariant.1.seated taken)

new_one : (c : goal.After-push_reserved) → is_among (numbers_in c.self.inside.admitted.items) c.args.txn ≡ false
new_one c =
    sym (admitted-locks_of c.self.inside.holders.items c.self.inside.admitted.items c.args.txn) ∙ (ap (λ (t : LockTable). is_admitted t.held c.args.txn) c.self.view_is ∙ c.requires)

free : (c : goal.After-push_reserved) → transaction_at c.self.inside.seats.items c.in-Some.place ≡ None
free c = subst (λ (ss : List Seat). transaction_at ss c.in-Some.place ≡ None) c.deref.ensures.value c.in-Some.ensures.some

pub invariant_of-self : goal.invariant_of-self
invariant_of-self c =
    let held = c.self.inside.admitted.items in
    let seats = c.self.inside.seats.items in
    let holders = c.self.inside.holders.items in
    let q = c.in-Some.place in
    let low = c.in-Some.ensures.within in
    let table = c.self.invariant.1 in
    let n = table.seated.count in
    let seat : c.index_mut.result.now ≡ seat_at seats q = seat_is seats q c.index_mut.result.now (omega (arith, low, n)) c.index_mut.ensures.value in
    let cap = c.self.invariant.0 in
    let same = c.push_reserved.ensures.capacity in (
      omega (arith, cap, same),
      subst (λ (hs : List Admitted). IsLockTable c.self.inside.pages holders hs (set seats q record { txn = Some c.args.txn; pages = c.index_mut.result.now.pages })) (sym c.push_reserved.ensures.items)
          (subst (λ (s : Seat). IsLockTable c.self.inside.pages holders (held ++ record { txn = c.args.txn; place = q } ∷ []) (set seats q record { txn = Some c.args.txn; pages = s.pages })) (sym seat)
          (table_admits held seats c.args.txn q table.seated low (free c) (new_one c) c.self.inside.pages holders table.covered table.apart)),
    )

pub returns-clause-locks : goal.returns-clause-locks
returns-clause-locks c =
    let held = c.self.inside.admitted.items in
    let holders = c.self.inside.holders.items in
    let table = c.self.invariant.1 in
    subst (λ (hs : List Admitted). HaveSameLocks c.args.self.now.held (locks_of holders hs)) (sym c.push_reserved.ensures.items)
    (subst (λ (t : LockTable). HaveSameLocks t.held (locks_of holders (held ++ record { txn = c.args.txn; place = c.in-Some.place } ∷ []))) c.self.view_is
    (same_locks held c.self.inside.seats.items c.args.txn c.in-Some.place table.seated c.in-Some.ensures.within (free c) (new_one c) c.self.inside.pages holders table.covered))
