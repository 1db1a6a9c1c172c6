use Rattle.std.proofs.Common.{◌≡◌}
use Rattle.transactions.proofs.FreshPages.{fresh_pages}
use Rattle.transactions.proofs.tests.player.fresh_pages.Given as goal

-- the pages so far
abbrev pub invariant-loop-number : goal.invariant-loop-number
invariant-loop-number l = l.pages.items ≡ fresh_pages l.number
