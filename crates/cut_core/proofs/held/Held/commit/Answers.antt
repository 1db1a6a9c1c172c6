use Rattle.std.proofs.Common.{◌+◌, sym, ap}
use Rattle.cut_core.proofs.Holding.{same_cut, may_commit, commit_without, commit_closed, commit_copying}
use Rattle.store_model.specs.Steps.{committed}
use Rattle.cut_core.proofs.Staging.{none_of}
use Rattle.cut_core.proofs.held.Held.commit.Goals as goal

pub returns-in-Copying-clause-holds : goal.returns-in-Copying-clause-holds
returns-in-Copying-clause-holds g c = λ w h ready commits.
    commit_copying c.args.self.now c.in-Some.held c.in-Copying.cut c.give_images.new.cut w c.args.txn (c.args.commits + 1) c.args.commits c.args.transactions.now c.in-Some.is c.in-Copying.is h ready c.requires.is_open commits
    c.requires.few (ap (λ n. n + 1) (sym commits)) (λ k. c.give_images.ensures w k (ap (λ n. n + 1) commits))

pub returns-in_default-stage-clause-holds : goal.returns-in_default-stage-clause-holds
returns-in_default-stage-clause-holds g c = λ w h ready commits.
    same_cut c.args.self.now c.in-Some.held (committed w c.args.txn) c.in-Some.is
    (commit_closed c.args.self.now c.in-Some.held w c.args.txn c.in-Some.is c.in_default-stage.not-Copying h (may_commit c.args.transactions.now w c.args.txn c.args.commits ready c.requires.is_open commits c.requires.few))

pub returns-in_default-clause-holds : goal.returns-in_default-clause-holds
returns-in_default-clause-holds g c = λ w h ready commits.
    commit_without c.args.self.now w c.args.txn (none_of c.args.self.now.cut c.in_default.not-Some) h (may_commit c.args.transactions.now w c.args.txn c.args.commits ready c.requires.is_open commits c.requires.few)
