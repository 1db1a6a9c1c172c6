use Rattle.std.proofs.Common.{◌≡◌, ◌∙◌, refl, sym, ap, subst, arith, length, length-append}
use Rattle.std.specs.Int.{bit_at}
use Rattle.mark_pool.specs.Edges.{IsMarkAt}
use Rattle.mark_pool.specs.Marks.{times}
use Rattle.mark_pool.specs.Walks.{AreClaims, Looks}
use Rattle.mark_pool.proofs.Claims.{claims_more}
use Rattle.mark_pool.proofs.Seats.{looks_then}
use Rattle.mark_pool.proofs.listing.read_marks.Goals as goal

pub pages-preserved : goal.pages-preserved
pages-preserved c =
    let cut = c.args.cut.now in
    let claims = c.args.seat.now.claims in
    let before = c.pages.invariant in
    let marks = c.pages.marks.items in
    let page = c.pages.page in
    let word = c.marks-word.result in
    let items = c.in_ok-push.ensures.items in
    let read = c.marks-word.ensures in
    let look = subst (Looks c.pages.seat) (sym read.seen) (record { table = refl; cut = refl; claims = refl; takes = refl; scans = refl; parts = refl }) in
    let parts = before.looks.parts ∙ c.requires.parts in
    record {
      looks = looks_then c.args.seat.now c.pages.seat c.marks-word.new.self before.looks look;
      count = (let l = before.count in let e = ap length items in let n = length-append marks in omega (arith, l, e, n));
      claims = subst (AreClaims cut claims) (sym items)
          (claims_more cut claims marks c.of_bits.result word page before.claims before.count c.of_bits.ensures.slots
          (λ slot. subst (λ l. times page slot l ≡ bit_at word slot) before.looks.claims (read.whole parts slot))
          (λ slot one. subst (λ k. IsMarkAt k page slot) c.requires.cut (read.sound slot one).0));
    }
