use Rattle.std.proofs.Common.{◌≡◌, ◌<◌, Bool, true, false, if◌then◌else◌, List, ◌∷◌, refl, sym, subst, ap, ◌∙◌, arith}
use Rattle.mark_pool.specs.declared.place.Place.{Place}
use Rattle.mark_pool.specs.Edges.{place}
use Rattle.mark_pool.specs.Marks.{times}
use Rattle.mark_pool.specs.Seats.{Known, with_claim}
use Rattle.mark_pool.specs.Walks.{IsWholeSeat}
use Rattle.mark_pool.proofs.marking.claim_root.Goals as goal

claimed_root : (claims : List Place) (new : Bool) → (new ≡ false → 0 < times 0 0 claims) → 0 < times 0 0 (if new then place 0 0 ∷ claims else claims)
claimed_root claims true h = omega arith
claimed_root claims false h = h refl

pub returns-then-is_in_use : goal.returns-then-is_in_use
returns-then-is_in_use c =
    let first = c.requires.first in
    let is = c.claim.ensures.claimed ∙ ap (λ (s : Known). with_claim s 0 0 c.claim.result) first in
    let own = c.claim.ensures.own (ap (λ (s : Known). s.parts) first) in
    let root = claimed_root c.args.seat.now.claims c.claim.result own in
    subst (IsWholeSeat c.args.table.now) (sym is) (record {
      own = (refl, refl);
      parts = refl;
      tidy = λ page slot h. absurd (omega (arith, h));
      rooted = λ _. subst (λ (s : Known). 0 < times 0 0 (with_claim s 0 0 c.claim.result).claims) first root;
    })
