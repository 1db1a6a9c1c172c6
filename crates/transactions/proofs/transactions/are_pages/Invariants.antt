use Rattle.std.proofs.Common.{take}
use Rattle.std.specs.List.{AllByRecursion}
use Rattle.page_image.specs.Pages.{IsPage}
use Rattle.transactions.proofs.transactions.are_pages.Given as goal

abbrev pub invariant-loop-page : goal.invariant-loop-page
invariant-loop-page l = AllByRecursion IsPage (take l.page-index l.pages)
