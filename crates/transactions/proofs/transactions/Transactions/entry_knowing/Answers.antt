use Rattle.std.proofs.Common.{sym}
use Rattle.transactions.proofs.Opened.{known_to}
use Rattle.transactions.proofs.transactions.Transactions.entry_knowing.Goals as goal

pub returns-clause-found : goal.returns-clause-found
returns-clause-found c = known_to c.args.self.now c.requires.0 c.args.txn c.in_ok-entry.entry.now c.args.name c.requires.1 c.in_ok-entry.ensures.found (sym c.if-not-knows.ensures)
