use Rattle.redo_journal.proofs.HomeMoments.{ok_more}
use Rattle.recovery.proofs.Extending.{store_step}
use Rattle.recovery.proofs.laying.write_all.Goals as goal

pub returns-clause-laid : goal.returns-clause-laid
returns-clause-laid g c =
    ok_more c.write_homes.result _ _ (λ homes.
    store_step c.args.commits c.args.pages.now (g.D.Disk.content c.args.disk.now) (g.D.Disk.content c.write_front.new.disk) (g.D.Disk.content c.write_homes.new.disk) c.in_ok-write_front.ensures.front homes) c.write_homes.ensures.front
