use Rattle.std.proofs.Common.{◌≡◌, ℕ, ◌<◌, ◌&&◌, ◌||◌, ◌==◌, true, false, Option, Some, None, List, length, set, ap, sym, subst, ◌∙◌, arith}
use Rattle.page_locks.specs.Sets.{has_bit, in_set, is_among}
use Rattle.page_locks.specs.Words.{word_of, holders_at, to_write, is_mode}
use Rattle.page_locks.specs.Holding.{LockTable, is_admitted, is_in_way, IsNobody, IsLeast}
use Rattle.page_locks.specs.Places.{transaction_at, seat_at, locks_of, numbers_in, AddsLock, AreSeated, IsLeastInWay}
use Rattle.page_locks.specs.declared.holders.Holders.{Holders}
use Rattle.page_locks.specs.declared.seats.Seat.{Seat}
use Rattle.page_locks.specs.declared.holders.Mode.{Mode}
use Rattle.page_locks.proofs.Modes.{admitted-locks_of}
use Rattle.page_locks.proofs.Seated.{unseated, seat_is, holders_are}
use Rattle.page_locks.proofs.Way.{nobody_in_way, least_in_way}
use Rattle.page_locks.proofs.Table.{held_more, adds, table_adds}
use Rattle.page_locks.proofs.locks.Locks.take.Goals as goal

pub unreachable-requires : goal.unreachable-requires
unreachable-requires c =
    let held = c.self.inside.admitted.items in
    let none : is_among (numbers_in held) c.args.txn ≡ false =
    unseated held c.deref.result.now c.args.txn (subst (AreSeated held) (sym c.deref.ensures.value) c.self.invariant.1.seated) c.in_default.ensures.none in
    let there : is_among (numbers_in held) c.args.txn ≡ true =
    sym (admitted-locks_of c.self.inside.holders.items held c.args.txn) ∙ (ap (λ (t : LockTable). is_admitted t.held c.args.txn) c.self.view_is ∙ c.requires.admitted) in
    let clash : true ≡ false = sym there ∙ none in cc

pub returns-in-Some-in_way-clause-busy : goal.returns-in-Some-in_way-clause-busy
returns-in-Some-in_way-clause-busy c =
    let held = c.self.inside.admitted.items in
    let holders = c.self.inside.holders.items in
    let seats = c.self.inside.seats.items in
    let least = c.in-Some-in_way.holder in
    let own : transaction_at seats c.in-Some.place ≡ Some c.args.txn = subst (λ (ss : List Seat). transaction_at ss c.in-Some.place ≡ Some c.args.txn) c.deref.ensures.value c.in-Some.ensures.some in
    let way : IsLeastInWay holders seats c.in-Some.place c.args.page c.args.mode (Some least) =
    subst (λ (hs : List Holders). IsLeastInWay hs seats c.in-Some.place c.args.page c.args.mode (Some least)) c.deref-3.ensures.value
    (subst (λ (ss : List Seat). IsLeastInWay c.deref-3.result.now ss c.in-Some.place c.args.page c.args.mode (Some least)) c.deref-4.ensures.value c.in-Some-in_way.ensures) in
    subst (λ (t : LockTable). IsLeast (is_in_way (to_write c.args.mode) t.held c.args.txn c.args.page) least) c.self.view_is
    (least_in_way held seats holders c.args.mode c.args.txn c.args.page c.in-Some.place c.self.invariant.1.seated own least way)

own : (c : goal.After-self-2-1) → transaction_at c.self.inside.seats.items c.in-Some.place ≡ Some c.args.txn
own c = subst (λ (ss : List Seat). transaction_at ss c.in-Some.place ≡ Some c.args.txn) c.deref.ensures.value c.in-Some.ensures.some

free : (c : goal.After-self-2-1) → IsNobody (is_in_way (to_write c.args.mode) (locks_of c.self.inside.holders.items c.self.inside.admitted.items) c.args.txn c.args.page)
free c =
    let holders = c.self.inside.holders.items in
    let seats = c.self.inside.seats.items in
    let way : IsLeastInWay holders seats c.in-Some.place c.args.page c.args.mode None =
    subst (λ (hs : List Holders). IsLeastInWay hs seats c.in-Some.place c.args.page c.args.mode None) c.deref-3.ensures.value
    (subst (λ (ss : List Seat). IsLeastInWay c.deref-3.result.now ss c.in-Some.place c.args.page c.args.mode None) c.deref-4.ensures.value
    (subst (λ (o : Option ℕ). IsLeastInWay c.deref-3.result.now c.deref-4.result.now c.in-Some.place c.args.page c.args.mode o) c.in_default-in_way.is c.in_way.ensures)) in
    nobody_in_way c.self.inside.admitted.items seats holders c.args.mode c.args.txn c.args.page c.in-Some.place c.self.invariant.1.seated (own c) way

within : (c : goal.After-self-2-1) → c.args.page < length c.self.inside.holders.items
within c =
    let p = ap (λ (t : LockTable). t.pages) c.self.view_is in
    let n = c.self.invariant.1.covered.count in
    let l = c.requires.page in omega (arith, p, n, l)

added : (c : goal.After-self-2-1) (m : Mode) (r : ℕ) → has_bit (word_of m c.add.new.self) r
    ≡ (has_bit (word_of m (holders_at c.self.inside.holders.items c.args.page)) r || (is_mode m c.args.mode && (r == c.in-Some.place)))
added c m r =
    c.add.ensures m r
    ∙ ap (λ (h : Holders). has_bit (word_of m h) r || (is_mode m c.args.mode && (r == c.in-Some.place)))
    (holders_are c.self.inside.holders.items c.args.page c.index_mut.result.now (within c) c.index_mut.ensures.value)

pub invariant_of-self : goal.invariant_of-self
invariant_of-self c =
    let seats = c.self.inside.seats.items in
    let q = c.in-Some.place in
    let low = c.in-Some.ensures.within in
    let n = c.self.invariant.1.seated.count in
    let seat : c.index_mut-2.result.now ≡ seat_at seats q = seat_is seats q c.index_mut-2.result.now (omega (arith, low, n)) c.index_mut-2.ensures.value in
    let new : Seat = record { txn = c.index_mut-2.result.now.txn; pages = c.insert.new.self } in (
      c.self.invariant.0,
      table_adds c.self.inside.pages c.self.inside.holders.items c.self.inside.admitted.items seats c.args.page q c.args.txn c.args.mode c.add.new.self new
          (within c) low (own c) (ap (λ (s : Seat). s.txn) seat ∙ own c) (added c)
          (λ p. c.insert.ensures.added p ∙ ap (λ (s : Seat). in_set s.pages p || (p == c.args.page)) seat)
          (c.insert.ensures.room ∙ ap (λ (s : Seat). length s.pages) seat) (free c) c.self.invariant.1,
    )

pub returns-clause-free : goal.returns-clause-free
returns-clause-free c = subst (λ (t : LockTable). IsNobody (is_in_way (to_write c.args.mode) t.held c.args.txn c.args.page)) c.self.view_is (free c)

pub returns-clause-taken : goal.returns-clause-taken
returns-clause-taken c =
    let held = c.self.inside.admitted.items in
    let holders = c.self.inside.holders.items in
    let new = set holders c.args.page c.add.new.self in
    subst (λ (t : LockTable). AddsLock c.args.mode t.held (locks_of new held) c.args.txn c.args.page) c.self.view_is
    (adds c.args.mode held c.self.inside.seats.items holders new c.args.page c.in-Some.place c.args.txn c.self.invariant.1.seated (own c)
    (held_more holders c.args.page c.in-Some.place c.args.mode c.add.new.self (within c) (added c)))
