use Rattle.std.proofs.Common.{◌*◌, refl}
use Rattle.recovery.proofs.Extending.{spelled_step, back_step}
use Rattle.recovery.proofs.blocks.spell.Goals as goal

pub pages-preserved : goal.pages-preserved
pages-preserved c = record {
  bytes = spelled_step c.args.pages.now c.pages.at (1024 * c.pages.at) c.index-pages-at.result c.encode.new.out c.pages.out c.put.new.out c.pages-test.true c.index-pages-at.is c.encode.ensures.spelled c.encode.array_long refl
      c.pages.invariant.bytes c.put.ensures.front;
  back = back_step c.args.pages.now c.pages.at c.index-pages-at.result c.encode.new.out c.pages-test.true c.index-pages-at.is c.encode.ensures.spelled c.encode.array_long c.encode.ensures.again c.pages.invariant.back;
}
