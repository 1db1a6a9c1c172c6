use Rattle.redo_journal.proofs.HomeMoments.{ok_more}
use Rattle.image_model.specs.Files.{area_bytes}
use Rattle.recovery.proofs.Extending.{front_step}
use Rattle.recovery.proofs.laying.write_front.Goals as goal

pub returns-clause-front : goal.returns-clause-front
returns-clause-front g c =
    ok_more c.write_area-2.result _ _ (λ last.
    front_step c.args.pages c.super_block.result (area_bytes c.args.commits) (g.D.Disk.content c.args.disk.now) (g.D.Disk.content c.put.new.disk) (g.D.Disk.content c.write_area.new.disk) (g.D.Disk.content c.write_area-2.new.disk)
    c.super_block.ensures c.in_ok-put.ensures.front c.in_ok-write_area.ensures.front last) c.write_area-2.ensures.front
