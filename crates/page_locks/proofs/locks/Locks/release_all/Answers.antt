use Rattle.std.proofs.Common.{◌≡◌, ◌&&◌, ◌==◌, ◌++◌, ℕ, ◌<◌, not, filter, List, length, take, drop, set, false, Some, ap, sym, subst, ◌∙◌, arith}
use Rattle.std.proofs.lemmas.Grind.{common_steps}
use Rattle.object_graph.specs.declared.limits.TheConstants.{MOST_OPEN}
use Rattle.page_locks.specs.Sets.{in_set, is_among}
use Rattle.page_locks.specs.Words.{is_held}
use Rattle.page_locks.specs.Holding.{LockTable, Releases}
use Rattle.page_locks.specs.Places.{transaction_at, seat_at, may_hold, locks_of, numbers_in, AreSeated, IsLockTable}
use Rattle.page_locks.specs.declared.admitted.Admitted.{Admitted}
use Rattle.page_locks.specs.declared.holders.Holders.{Holders}
use Rattle.page_locks.specs.declared.holders.Mode.{Mode}
use Rattle.page_locks.specs.declared.seats.Seat.{Seat}
use Rattle.page_locks.proofs.Seated.{unseated, seat_is}
use Rattle.page_locks.proofs.Comings.{nothing_released, released, table_releases}
use Rattle.page_locks.proofs.locks.Locks.release_all.Goals as goal

pub returns-in_default-clause-released : goal.returns-in_default-clause-released
returns-in_default-clause-released c =
    let held = c.self.inside.admitted.items in
    let none : is_among (numbers_in held) c.args.txn ≡ false =
    unseated held c.deref.result.now c.args.txn (subst (AreSeated held) (sym c.deref.ensures.value) c.self.invariant.1.seated) c.in_default.ensures.none in
    subst (λ (t : LockTable). Releases t.held t.held c.args.txn) c.self.view_is (nothing_released c.self.inside.holders.items held c.args.txn none)

own : (c : goal.After-drop_admitted) → transaction_at c.self.inside.seats.items c.in-Some.place ≡ Some c.args.txn
own c = subst (λ (ss : List Seat). transaction_at ss c.in-Some.place ≡ Some c.args.txn) c.deref.ensures.value c.in-Some.ensures.some

within : (c : goal.After-drop_admitted) → c.in-Some.place < length c.self.inside.seats.items
within c =
    let low = c.in-Some.ensures.within in
    let n = c.self.invariant.1.seated.count in omega (arith, low, n)

vacated : (c : goal.After-drop_admitted) (m : Mode) (page r : ℕ) → r < MOST_OPEN
    → is_held m c.vacate.new.holders page r ≡ (is_held m c.self.inside.holders.items page r && not ((r == c.in-Some.place) && may_hold c.self.inside.seats.items c.in-Some.place page))
vacated c m page r low =
    c.vacate.ensures.vacated m page r low
    ∙ (ap (λ (hs : List Holders). is_held m hs page r && not ((r == c.in-Some.place) && in_set c.index.result.now.pages page)) c.deref_mut.ensures.value
    ∙ ap (λ (s : Seat). is_held m c.self.inside.holders.items page r && not ((r == c.in-Some.place) && in_set s.pages page))
    (seat_is c.self.inside.seats.items c.in-Some.place c.index.result.now (within c) c.index.ensures))

as_wide : (c : goal.After-drop_admitted) → length c.leave.new.self.pages ≡ length (seat_at c.self.inside.seats.items c.in-Some.place).pages
as_wide c =
    c.leave.ensures.room
    ∙ ap (λ (s : Seat). length s.pages) (seat_is c.self.inside.seats.items c.in-Some.place c.index_mut.result.now (within c) c.index_mut.ensures.value)

as_long : (c : goal.After-drop_admitted) → length c.vacate.new.holders ≡ length c.self.inside.holders.items
as_long c = c.vacate.ensures.count ∙ ap length c.deref_mut.ensures.value

written : (c : goal.After-drop_admitted)
    → c.vacate.new.holders ≡ take c.self.inside.holders.len (c.vacate.new.holders ++ drop (length c.vacate.new.holders) c.self.inside.holders.items)
written c = let n = as_long c in grind (arith, common_steps, n)

pub invariant_of-self : goal.invariant_of-self
invariant_of-self c =
    let pages = c.self.inside.pages in
    let holders = c.self.inside.holders.items in
    let held = c.self.inside.admitted.items in
    let seats = c.self.inside.seats.items in
    let q = c.in-Some.place in
    let cap = c.self.invariant.0 in
    let same = c.drop_admitted.ensures.capacity in (
      omega (arith, cap, same),
      subst (λ (hs : List Holders). IsLockTable pages hs c.drop_admitted.new.admitted.items (set seats q c.leave.new.self)) (written c)
          (subst (λ (kept : List Admitted). IsLockTable pages c.vacate.new.holders kept (set seats q c.leave.new.self)) (sym c.drop_admitted.ensures.kept)
          (table_releases pages holders c.vacate.new.holders held seats c.args.txn q c.leave.new.self c.self.invariant.1 c.in-Some.ensures.within (own c)
          c.leave.ensures.free c.leave.ensures.none (as_wide c) (as_long c) (vacated c))),
    )

pub returns-clause-released : goal.returns-clause-released
returns-clause-released c =
    let holders = c.self.inside.holders.items in
    let held = c.self.inside.admitted.items in
    let seats = c.self.inside.seats.items in
    let q = c.in-Some.place in
    subst (λ (hs : List Holders). Releases c.args.self.now.held (locks_of hs c.drop_admitted.new.admitted.items) c.args.txn) (written c)
    (subst (λ (kept : List Admitted). Releases c.args.self.now.held (locks_of c.vacate.new.holders kept) c.args.txn) (sym c.drop_admitted.ensures.kept)
    (subst (λ (t : LockTable). Releases t.held (locks_of c.vacate.new.holders (filter (λ (a : Admitted). not (a.txn == c.args.txn)) held)) c.args.txn) c.self.view_is
    (released c.self.inside.pages holders c.vacate.new.holders held seats c.args.txn q c.leave.new.self c.self.invariant.1 c.in-Some.ensures.within (own c)
    c.leave.ensures.free c.leave.ensures.none (as_wide c) (as_long c) (vacated c))))
