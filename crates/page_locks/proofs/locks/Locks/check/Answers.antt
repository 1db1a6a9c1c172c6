use Rattle.std.proofs.Common.{◌≡◌, true, false, Some, None, List, ap, sym, subst, ◌∙◌}
use Rattle.page_locks.specs.Sets.{is_among}
use Rattle.page_locks.specs.Words.{to_write}
use Rattle.page_locks.specs.Holding.{LockTable, is_admitted, is_in_way, IsNobody, IsLeast}
use Rattle.page_locks.specs.Places.{transaction_at, numbers_in, AreSeated, IsLeastInWay}
use Rattle.page_locks.specs.declared.holders.Holders.{Holders}
use Rattle.page_locks.specs.declared.seats.Seat.{Seat}
use Rattle.page_locks.proofs.Modes.{admitted-locks_of}
use Rattle.page_locks.proofs.Seated.{unseated}
use Rattle.page_locks.proofs.Way.{nobody_in_way, least_in_way}
use Rattle.page_locks.proofs.locks.Locks.check.Goals as goal

pub unreachable-requires : goal.unreachable-requires
unreachable-requires c =
    let held = c.self.inside.admitted.items in
    let none : is_among (numbers_in held) c.args.txn ≡ false =
    unseated held c.deref.result.now c.args.txn (subst (AreSeated held) (sym c.deref.ensures.value) c.self.invariant.1.seated) c.in_default.ensures.none in
    let there : is_among (numbers_in held) c.args.txn ≡ true =
    sym (admitted-locks_of c.self.inside.holders.items held c.args.txn) ∙ (ap (λ (t : LockTable). is_admitted t.held c.args.txn) c.self.view_is ∙ c.requires.admitted) in
    let clash : true ≡ false = sym there ∙ none in cc

pub returns-in-None-clause-free : goal.returns-in-None-clause-free
returns-in-None-clause-free c =
    let held = c.self.inside.admitted.items in
    let holders = c.self.inside.holders.items in
    let seats = c.self.inside.seats.items in
    let own : transaction_at seats c.in-Some.place ≡ Some c.args.txn = subst (λ (ss : List Seat). transaction_at ss c.in-Some.place ≡ Some c.args.txn) c.deref.ensures.value c.in-Some.ensures.some in
    let way : IsLeastInWay holders seats c.in-Some.place c.args.page c.args.mode None =
    subst (λ (hs : List Holders). IsLeastInWay hs seats c.in-Some.place c.args.page c.args.mode None) c.deref-3.ensures.value
    (subst (λ (ss : List Seat). IsLeastInWay c.deref-3.result.now ss c.in-Some.place c.args.page c.args.mode None) c.deref-4.ensures.value c.in-None.ensures) in
    subst (λ (t : LockTable). IsNobody (is_in_way (to_write c.args.mode) t.held c.args.txn c.args.page)) c.self.view_is
    (nobody_in_way held seats holders c.args.mode c.args.txn c.args.page c.in-Some.place c.self.invariant.1.seated own way)

pub returns-in-Some-in_way-clause-busy : goal.returns-in-Some-in_way-clause-busy
returns-in-Some-in_way-clause-busy c =
    let held = c.self.inside.admitted.items in
    let holders = c.self.inside.holders.items in
    let seats = c.self.inside.seats.items in
    let least = c.in-Some-in_way.holder in
    let own : transaction_at seats c.in-Some.place ≡ Some c.args.txn = subst (λ (ss : List Seat). transaction_at ss c.in-Some.place ≡ Some c.args.txn) c.deref.ensures.value c.in-Some.ensures.some in
    let way : IsLeastInWay holders seats c.in-Some.place c.args.page c.args.mode (Some least) =
    subst (λ (hs : List Holders). IsLeastInWay hs seats c.in-Some.place c.args.page c.args.mode (Some least)) c.deref-3.ensures.value
    (subst (λ (ss : List Seat). IsLeastInWay c.deref-3.result.now ss c.in-Some.place c.args.page c.args.mode (Some least)) c.deref-4.ensures.value c.in-Some-in_way.ensures) in
    subst (λ (t : LockTable). IsLeast (is_in_way (to_write c.args.mode) t.held c.args.txn c.args.page) least) c.self.view_is
    (least_in_way held seats holders c.args.mode c.args.txn c.args.page c.in-Some.place c.self.invariant.1.seated own least way)
