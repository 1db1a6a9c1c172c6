use Rattle.std.proofs.Common.{true, [], ◌∷◌, sym, subst}
use Rattle.store_model.specs.Causes.{too_wide}
use Rattle.page_locks.specs.Holding.{is_in_way, IsNobody, IsLeast}
use Rattle.transactions.specs.Standing.{TransactionsParts}
use Rattle.transactions.proofs.Refusals.{is_busy_to_write, is_wide_to_write}
use Rattle.transactions.proofs.transactions.Transactions.check_write.Goals as goal

pub returns-in-Err-clause-causes : goal.returns-in-Err-clause-causes
returns-in-Err-clause-causes c = λ w r.
    is_busy_to_write c.args.self.now w c.args.txn c.args.page c.in-Err.field-0.holder (too_wide w c.args.txn c.args.page ∷ []) r
    (subst (λ (s : TransactionsParts). IsLeast (is_in_way true s.locks.held c.args.txn c.args.page) c.in-Err.field-0.holder) c.self.view_is c.in-Err.ensures.busy)

pub returns-then-is_too_wide-clause-causes : goal.returns-then-is_too_wide-clause-causes
returns-then-is_too_wide-clause-causes c = λ w r.
    is_wide_to_write c.args.self.now w c.args.txn c.args.entry.now c.args.page _ r c.requires.found
    (subst (λ (s : TransactionsParts). IsNobody (is_in_way true s.locks.held c.args.txn c.args.page)) c.self.view_is c.in_default.ensures.free) (sym c.if-is_too_wide.ensures)

pub returns-clause-causes : goal.returns-clause-causes
returns-clause-causes c = λ w r.
    is_wide_to_write c.args.self.now w c.args.txn c.args.entry.now c.args.page _ r c.requires.found
    (subst (λ (s : TransactionsParts). IsNobody (is_in_way true s.locks.held c.args.txn c.args.page)) c.self.view_is c.in_default.ensures.free) (sym c.if-is_too_wide.ensures)
