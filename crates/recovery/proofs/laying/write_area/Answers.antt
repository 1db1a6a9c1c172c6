use Rattle.std.proofs.Common.{◌+◌, refl, arith}
use Rattle.redo_journal.proofs.HomeMoments.{ok_more}
use Rattle.recovery.proofs.Extending.{area_step}
use Rattle.recovery.proofs.laying.write_area.Goals as goal

pub returns-clause-front : goal.returns-clause-front
returns-clause-front g c =
    ok_more c.write_zeros.result _ _ (λ zeros.
    area_step c.args.commits c.args.at 65536 196608 (c.args.at + 65536) c.area_start.result (g.D.Disk.content c.args.disk.now) (g.D.Disk.content c.put.new.disk) (g.D.Disk.content c.write_zeros.new.disk)
    (omega arith) refl c.area_start.ensures refl c.in_ok-put.ensures.front zeros) c.write_zeros.ensures.front
