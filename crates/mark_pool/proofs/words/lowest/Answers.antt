use Rattle.std.proofs.Common.{arith}
use Rattle.std.specs.Int.{w64}
use Rattle.std.proofs.lemmas.Nat.Bits.{bit_at-trailing_zeros}
use Rattle.mark_pool.proofs.words.lowest.Goals as goal

pub returns : goal.returns
returns c = let n = c.requires in (bit_at-trailing_zeros w64 c.args.word n (omega (arith, n))).1
