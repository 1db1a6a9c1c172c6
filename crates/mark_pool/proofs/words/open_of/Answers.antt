use Rattle.std.proofs.Common.{ap, arith}
use Rattle.std.specs.Int.{w64, bit_not, bit_at}
use Rattle.std.proofs.lemmas.Nat.Bits.{bit_at_and, bit_at_not, bit_at-zero}
use Rattle.mark_pool.proofs.Bits.{small}
use Rattle.mark_pool.proofs.words.open_of.Goals as goal

pub returns-clause-marked : goal.returns-clause-marked
returns-clause-marked c slot one =
    let both = bit_at_and c.args.marked (bit_not w64 c.args.scanned) slot in
    let a = small c.args.marked slot in
    let b = small (bit_not w64 c.args.scanned) slot in omega (arith, both, one, a, b)

pub returns-clause-unscanned : goal.returns-clause-unscanned
returns-clause-unscanned c slot one =
    let both = bit_at_and c.args.marked (bit_not w64 c.args.scanned) slot in
    let a = small c.args.marked slot in
    let b = small (bit_not w64 c.args.scanned) slot in
    let low = c.requires slot (omega (arith, both, one, a, b)) in
    let n = bit_at_not w64 c.args.scanned slot (omega arith) (omega (arith, low)) in
    let s = small c.args.scanned slot in omega (arith, both, one, a, b, n, s)

pub returns-clause-all : goal.returns-clause-all
returns-clause-all c none slot one =
    let both = bit_at_and c.args.marked (bit_not w64 c.args.scanned) slot in
    let z = ap (λ k. bit_at k slot) none in
    let y = bit_at-zero slot in
    let low = c.requires slot one in
    let n = bit_at_not w64 c.args.scanned slot (omega arith) (omega (arith, low)) in
    let s = small c.args.scanned slot in
    let b = small (bit_not w64 c.args.scanned) slot in omega (arith, both, z, y, one, n, s, b)
