use Rattle.std.proofs.Common.{subst}
use Rattle.page_locks.specs.Holding.{LockTable, KeepsApart}
use Rattle.page_locks.proofs.Apart.{shared_is_given, exclusive_is_given}
use Rattle.page_locks.proofs.locks.Locks.keeps_apart.Goals as goal

pub returns-clause-apart : goal.returns-clause-apart
returns-clause-apart c = subst (λ (t : LockTable). KeepsApart t.held) c.self.view_is c.self.invariant.1.apart

pub returns-clause-shared : goal.returns-clause-shared
returns-clause-shared c =
    shared_is_given c.args.self.now.held (subst (λ (t : LockTable). KeepsApart t.held) c.self.view_is c.self.invariant.1.apart)

pub returns-clause-exclusive : goal.returns-clause-exclusive
returns-clause-exclusive c =
    exclusive_is_given c.args.self.now.held (subst (λ (t : LockTable). KeepsApart t.held) c.self.view_is c.self.invariant.1.apart)
