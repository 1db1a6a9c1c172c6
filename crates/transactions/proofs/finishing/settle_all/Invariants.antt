use Rattle.std.proofs.Common.{take}
use Rattle.page_buffer.specs.Frames.{settled}
use Rattle.transactions.proofs.PagesChanged.{AreChanged}
use Rattle.transactions.proofs.finishing.settle_all.Given as goal

abbrev pub invariant-loop-page : goal.invariant-loop-page
invariant-loop-page l = AreChanged settled l.fn.buffer l.buffer (take l.page-index l.pages)
