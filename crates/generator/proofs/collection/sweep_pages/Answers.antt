use Rattle.std.proofs.Common.{arith}
use Rattle.generator.proofs.Collections.{swept_none, swept_more, sweep_stops}
use Rattle.store_machine.proofs.Acting.{acts_nothing}
use Rattle.generator.proofs.collection.sweep_pages.Goals as goal

pub pages-init : goal.pages-init
pages-init g c = record {
  swept = swept_none g.D.Disk c.args.machine.now (acts_nothing g.D.Disk c.args.machine.now g.met.D.Disk.only_now c.stands.ensures.now) c.requires;
  few = omega arith;
}

pub returns-in-Err-clause-swept : goal.returns-in-Err-clause-swept
returns-in-Err-clause-swept g c =
    sweep_stops g.D.Disk c.args.machine.now c.pages.machine c.sweep_page.new.machine c.pages.page c.pages.freed c.in-Err.stop (omega arith) c.pages.invariant.swept c.in-Err.ensures.swept

pub pages-preserved : goal.pages-preserved
pages-preserved g c = record {
  swept = swept_more g.D.Disk c.args.machine.now c.pages.machine c.sweep_page.new.machine c.pages.page c.pages.freed c.in-Ok.slots c.pages.invariant.swept c.in-Ok.ensures.swept;
  few = omega (arith, c.pages.invariant.few, c.in-Ok.ensures.few);
}
