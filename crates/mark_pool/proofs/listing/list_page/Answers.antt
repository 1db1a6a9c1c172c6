use Rattle.std.proofs.Common.{◌≡◌, ◌<◌, sym, ap, subst, arith}
use mathlib.Core.Logic.{dite}
use native.Mathlib.Decide.{ℕ_discrete}
use Rattle.std.specs.Int.{bit_at}
use Rattle.mark_pool.specs.Edges.{IsMarkAt, IsEdge}
use Rattle.mark_pool.specs.Marks.{times, all_parts}
use Rattle.mark_pool.specs.Seats.{Known}
use Rattle.mark_pool.proofs.Bits.{small}
use Rattle.mark_pool.proofs.listing.list_page.Goals as goal

pub returns-then-left-eq0-clause-closed : goal.returns-then-left-eq0-clause-closed
returns-then-left-eq0-clause-closed c _ slot to claimed edge =
    let marked = c.marks-marked.result in
    let scanned = c.scans-scanned.result in
    let whole = c.marks-marked.ensures.whole c.requires.parts slot in
    let a = small marked slot in
    let one : bit_at marked slot ≡ 1 = omega (arith, claimed, whole, a) in
    let done : bit_at scanned slot ≡ 1 = c.open_of-left.ensures.all c.if-left-eq0.true slot one in
    subst (λ (s : Known). s.parts ≡ all_parts → 0 < times to.page to.slot s.claims) c.marks-marked.ensures.seen
    (λ all. c.scans-scanned.ensures.targets all slot to done (subst (λ cut. IsEdge cut c.args.page slot to) (sym c.requires.cut) edge)) c.requires.parts

pub returns-clause-first : goal.returns-clause-first
returns-clause-first c =
    let slot = c.lowest-slot.result in
    let one = c.lowest-slot.ensures in
    let sound = c.marks-marked.ensures.sound slot (c.open_of-left.ensures.marked slot one) in
    let open_bit = c.open_of-left.ensures.unscanned slot one in
    let known = c.scans-scanned.ensures.known slot in
    let same = ap (λ (s : Known). times c.args.page slot s.scans) c.marks-marked.ensures.seen in
    record {
      listed = record { page_within = c.requires.page; slot_within = sound.1; mark = subst (λ k. IsMarkAt k c.args.page slot) c.requires.cut sound.0 };
      unscanned = dite (ℕ_discrete (times c.args.page slot c.args.seat.now.scans) 0) (λ z. z) (λ n. let set = known (omega (arith, n, same)) in absurd (omega (arith, set, open_bit)));
    }
