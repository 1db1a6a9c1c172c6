use Rattle.std.proofs.Common.{◌≡◌, ◌+◌, ◌/◌, ◌^◌, true, false, ◌%◌, arith, sym, subst, ◌∙◌}
use Rattle.std.proofs.lemmas.Bool.{eq-eqb, ne_eqb}
use Rattle.std.proofs.lemmas.Nat.{and_mask}
use Rattle.page_locks.specs.Sets.{has_bit}
use Rattle.page_locks.specs.Places.{IsLeastMarked}
use Rattle.page_locks.proofs.Marked.{not_marked, marked_by, seat_number}
use Rattle.page_locks.proofs.seats.least_number.Goals as goal
use Rattle.page_locks.proofs.seats.least_number.Goals.{then-places-place-eq1, else-places-place-eq1}

pub places-preserved : goal.places-preserved
places-preserved c = elim c.if-places-place-eq1.branch [
  | then-places-place-eq1 w ↦
      let on : has_bit c.args.places c.places.place ≡ true = eq-eqb (c.args.places / 2 ^ c.places.place % 2) 1 (sym (and_mask (c.args.places / 2 ^ c.places.place) 1) ∙ w.if-places-place-eq1.true) in
      subst (IsLeastMarked c.args.seats.now c.args.places (c.places.place + 1)) (sym (w.least-is ∙ w.smaller-least.ensures))
      (marked_by c.args.seats.now c.args.places c.places.place c.places.least c.index-seats-place.result.txn on
      (seat_number c.args.seats.now c.places.place c.index-seats-place.result c.places-test.true c.index-seats-place.is) c.places.invariant)
  | else-places-place-eq1 w ↦
      let off : has_bit c.args.places c.places.place ≡ false = ne_eqb (c.args.places / 2 ^ c.places.place % 2) 1 (λ e. w.if-places-place-eq1.false (and_mask (c.args.places / 2 ^ c.places.place) 1 ∙ e)) in
      subst (IsLeastMarked c.args.seats.now c.args.places (c.places.place + 1)) (sym w.least-is)
      (not_marked c.args.seats.now c.args.places c.places.place c.places.least off c.places.invariant)
]

pub returns : goal.returns
returns c =
    let n = c.requires in
    let e = c.places-test.false in
    let b = c.places.auto.place-end in
    let all : c.places.place ≡ 64 = omega (arith, n, e, b) in
    subst (λ k. IsLeastMarked c.args.seats.now c.args.places k c.places.least) all c.places.invariant
