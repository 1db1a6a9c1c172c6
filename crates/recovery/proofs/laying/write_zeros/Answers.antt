use Rattle.std.proofs.Common.{◌+◌, ◌*◌, replicate, refl, ◌∙◌}
use Rattle.disk_trait.proofs.DiskSteps.{keeps_on}
use Rattle.recovery.proofs.Extending.{zeros_step}
use Rattle.recovery.proofs.laying.write_zeros.Goals as goal

pub pieces-preserved : goal.pieces-preserved
pieces-preserved g c = record {
  front = zeros_step c.args.at 65536 c.pieces.piece (c.args.at + 65536 * c.pieces.piece) (replicate 65536 0) (g.D.Disk.content c.args.disk.now) (g.D.Disk.content c.pieces.disk) (g.D.Disk.content c.put.new.disk) refl refl
      c.pieces.invariant.front c.in_ok-put.ensures.front;
  calm = c.in_ok-put.ensures.calm ∙ c.pieces.invariant.calm;
  keeps = keeps_on g.D.Disk c.args.disk.now c.pieces.disk c.put.new.disk c.pieces.invariant.keeps c.put.ensures.keeps;
}
