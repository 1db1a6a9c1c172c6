use Rattle.std.proofs.Common.{take}
use Rattle.page_buffer.specs.Frames.{reverted}
use Rattle.transactions.proofs.PagesChanged.{AreChanged}
use Rattle.transactions.proofs.finishing.revert_all.Given as goal

abbrev pub invariant-loop-page : goal.invariant-loop-page
invariant-loop-page l = AreChanged reverted l.fn.buffer l.buffer (take l.page-index l.pages)
