use Rattle.std.proofs.Common.{◌-◌, arith}
use Rattle.std.proofs.lemmas.Nat.Bits.{bit_at_and}
use Rattle.mark_pool.proofs.Bits.{small}
use Rattle.mark_pool.proofs.words.without_lowest.Goals as goal

pub returns : goal.returns
returns c slot one =
    let both = bit_at_and c.args.word (c.args.word - 1) slot in
    let a = small c.args.word slot in
    let b = small (c.args.word - 1) slot in omega (arith, both, one, a, b)
