use Rattle.std.proofs.Common.{arith}
use Rattle.generator.proofs.Collections.{copy_never, copied_none, copied_more}
use Rattle.store_machine.proofs.Acting.{acts_nothing}
use Rattle.generator.proofs.collection.copy_pages.Goals as goal

pub pages-init : goal.pages-init
pages-init g c = copied_none g.D.Disk c.args.machine.now (acts_nothing g.D.Disk c.args.machine.now g.met.D.Disk.only_now c.stands.ensures.now) c.requires

pub tell-requires-clause-never : goal.tell-requires-clause-never
tell-requires-clause-never g c κs within = copy_never c.pages.machine.world c.pages.page c.pages.invariant.collecting (omega arith)

pub pages-preserved : goal.pages-preserved
pages-preserved g c = copied_more g.D.Disk c.args.machine.now c.pages.machine c.tell.new.machine c.pages.page c.tell.result c.pages.invariant c.tell.ensures
