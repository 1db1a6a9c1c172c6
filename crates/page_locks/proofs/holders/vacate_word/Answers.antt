use Rattle.std.proofs.Common.{◌≡◌, ◌==◌, ℕ, ◌<◌, ◌+◌, ◌*◌, ◌-◌, ◌^◌, ◌%◌, true, bit_and, ap, sym, ◌∙◌, arith}
use Rattle.std.specs.Int.{w64, trailing_zeros}
use Rattle.std.proofs.lemmas.Nat.Bits.{bit_at-trailing_zeros}
use Rattle.std.proofs.lemmas.Bool.{and_parts}
use Rattle.page_locks.specs.Sets.{has_bit}
use Rattle.page_locks.specs.Words.{is_held}
use Rattle.page_locks.proofs.Bits.{has_clear}
use Rattle.page_locks.proofs.Vacating.{clear_less, bit_done, page_vacated, page_past}
use Rattle.page_locks.proofs.holders.vacate_word.Goals as goal
use Rattle.page_locks.proofs.holders.vacate_word.Goals.{then-page-holders, else-page-holders}

lowest : (n : ℕ) → 0 < n → n < 18446744073709551616 → (trailing_zeros w64 n < 64) × (has_bit n (trailing_zeros w64 n) ≡ true)
lowest n some fits = let l = bit_at-trailing_zeros w64 n some fits in (l.0, ap (λ b. b == 1) l.1)

pub bits-smaller : goal.bits-smaller
bits-smaller c =
    let n = c.bits-test.true in
    let low = lowest c.bits.left (omega (arith, n)) (omega arith) in
    clear_less c.bits.left (trailing_zeros w64 c.bits.left) low.0 low.1

pub bits-preserved : goal.bits-preserved
bits-preserved c =
    let n = c.bits-test.true in
    let k : ℕ = trailing_zeros w64 c.bits.left in
    let low = lowest c.bits.left (omega (arith, n)) (omega arith) in
    let rest = λ (i : ℕ) (lt : i < 64). has_clear c.bits.left k i low.0 lt in (
      λ m page q lt. bit_done c.args.holders.now c.bits.holders c.if-page-holders.holders c.args.at c.args.word c.bits.left
          (bit_and c.bits.left (18446744073709551615 - 1 * 2 ^ k % 18446744073709551616)) c.args.place k m page q lt low.0 low.1
          c.bits.invariant.1 rest (c.bits.invariant.0 m page q lt) (elim c.if-page-holders.branch [
            | then-page-holders w ↦ ap (λ hs. is_held m hs page q) w.holders-is
                ∙ page_vacated c.bits.holders (64 * c.args.at + k) c.args.place w.remove.new.self m page q w.if-page-holders.true (w.remove.ensures m q lt)
            | else-page-holders w ↦ ap (λ hs. is_held m hs page q) w.holders-is
                ∙ page_past c.bits.holders (64 * c.args.at + k) c.args.place m page q w.if-page-holders.false
          ]),
      λ i lt e. c.bits.invariant.1 i lt (and_parts (has_bit c.bits.left i) _ (sym (rest i lt) ∙ e)).0,
      c.if-page-holders.auto.holders ∙ c.bits.invariant.2,
    )
