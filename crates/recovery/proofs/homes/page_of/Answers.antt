use Rattle.std.proofs.Common.{sym, ◌∙◌}
use Rattle.recovery.proofs.ReadPages.{home_found, home_other, home_bad}
use Rattle.redo_journal.specs.Homes.{home_start}
use Rattle.recovery.proofs.homes.page_of.Goals as goal

pub returns-then-number-page-clause-read : goal.returns-then-number-page-clause-read
returns-then-number-page-clause-read c =
    home_found (home_start c.args.page) c.args.page c.args.bytes.now c.in-Ok.found c.in-Ok.ensures.ok (sym c.number.ensures.value ∙ c.if-number-page.true)

pub returns-else-number-page-clause-read : goal.returns-else-number-page-clause-read
returns-else-number-page-clause-read c =
    home_other c.home_of.result (home_start c.args.page) c.args.page c.args.bytes.now c.in-Ok.found c.in-Ok.ensures.ok (λ same. c.if-number-page.false (c.number.ensures.value ∙ same)) c.home_of.ensures

pub returns-in-Err-clause-read : goal.returns-in-Err-clause-read
returns-in-Err-clause-read c =
    home_bad c.home_of-in-Err.result (home_start c.args.page) c.args.page c.from.result c.in-Err.bad.at c.args.bytes.now c.in-Err.ensures.bad c.home_of-in-Err.ensures c.from.ensures
