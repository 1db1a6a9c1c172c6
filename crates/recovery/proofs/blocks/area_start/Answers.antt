use Rattle.std.proofs.Common.{refl, arith}
use Rattle.recovery.proofs.Extending.{start_is}
use Rattle.recovery.proofs.blocks.area_start.Goals as goal

pub returns : goal.returns
returns c = start_is c.args.commits 65536 _ c.put.new.out c.to_be_bytes.result (omega arith) c.to_be_bytes.ensures refl c.put.ensures.front c.put.ensures.rest
