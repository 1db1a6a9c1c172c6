use Rattle.std.proofs.Common.{◌≡◌, false, length, subst}
use Rattle.cut_model.specs.Doomed.{AreMarks}
use Rattle.cut_builder.specs.CutParts.{cut_starts, marks_of}
use Rattle.mark_pool.specs.Walks.{ClaimsRoot, AreClaims}
use Rattle.mark_pool.proofs.Answered.{ok_both}
use Rattle.mark_pool.proofs.Edges.{exact}
use Rattle.mark_pool.proofs.marking.mark_all.Goals as goal

pub returns-then-not-again-clause-exact : goal.returns-then-not-again-clause-exact
returns-then-not-again-clause-exact g c =
    let cut = c.args.cut.now in
    let seat = c.next_round.new.seat in
    let whole = c.in_ok-again.ensures.whole in
    let rooted = subst (λ k. ClaimsRoot k seat.claims) c.requires.cut whole.rooted in
    let ended : c.in_ok-again.again ≡ false = let was = c.if-not-again.true in cc in
    ok_both (λ marks. length marks.items ≡ length cut.pages) (λ marks. AreClaims cut seat.claims marks.items) (λ marks. AreMarks (cut_starts cut) cut.pages (marks_of marks.items))
    c.read_marks.result c.read_marks.ensures.count c.read_marks.ensures.claims
    (λ marks long are. exact cut seat.claims marks.items long rooted (c.in_ok-again.ensures.closed ended) are)
