use Rattle.std.proofs.Common.{◌≡◌, Some, sym, subst}
use Rattle.transactions.specs.Tables.{entry_of}
use Rattle.transactions.specs.Standing.{TransactionsParts}
use Rattle.transactions.proofs.Opened.{open_with}
use Rattle.transactions.proofs.transactions.Transactions.entry.Goals as goal

pub returns-in-Some-clause-found : goal.returns-in-Some-clause-found
returns-in-Some-clause-found c =
    open_with c.args.self.now c.requires.0 c.args.txn c.in-Some.entry.now c.requires.1
    (subst (λ (s : TransactionsParts). entry_of s.table c.args.txn ≡ Some c.in-Some.entry.now) c.self.view_is (sym c.in-Some.ensures))
