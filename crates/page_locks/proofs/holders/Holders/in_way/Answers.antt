use Rattle.std.proofs.Common.{◌≡◌, Bool, true, false, ◌&&◌, ◌==◌, not, ap, refl, ◌∙◌}
use Rattle.page_locks.specs.Sets.{has_bit}
use Rattle.page_locks.specs.Words.{conflicts}
use Rattle.page_locks.proofs.Bits.{has_clear, has_or}
use Rattle.page_locks.proofs.holders.Holders.in_way.Goals as goal
use Rattle.page_locks.proofs.holders.Holders.in_way.Goals.{in-Shared, in-Exclusive}

and_swap : (a b : Bool) → (a && b) ≡ (b && a)
and_swap true true = refl
and_swap true false = refl
and_swap false true = refl
and_swap false false = refl

pub returns : goal.returns
returns c = λ q low.
    has_clear c.match-mode.others c.args.place q c.requires low
    ∙ (and_swap (has_bit c.match-mode.others q) (not (q == c.args.place))
    ∙ ap (λ b. not (q == c.args.place) && b) (others q))
  where
    others : (q : _) → has_bit c.match-mode.others q ≡ conflicts c.args.mode c.args.self.now q
    others q = elim c.match-mode.branch [
      | in-Shared w ↦ rw (w.others-is, w.in-Shared.is) refl
      | in-Exclusive w ↦ rw (w.others-is, w.in-Exclusive.is) (has_or c.args.self.now.shared c.args.self.now.exclusive q)
    ]
