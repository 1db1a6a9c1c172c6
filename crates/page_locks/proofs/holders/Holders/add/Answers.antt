use Rattle.std.proofs.Common.{sym}
use Rattle.page_locks.specs.Sets.{has_bit}
use Rattle.page_locks.proofs.Bits.{or_false, has_set}
use Rattle.page_locks.proofs.Modes.{each_mode}
use Rattle.page_locks.proofs.holders.Holders.add.Goals as goal

pub returns-in-Shared : goal.returns-in-Shared
returns-in-Shared c = rw c.in-Shared.is (each_mode _
    (λ q. has_set c.args.self.now.shared c.args.place q c.requires)
    (λ q. sym (or_false (has_bit c.args.self.now.exclusive q))))

pub returns-in-Exclusive : goal.returns-in-Exclusive
returns-in-Exclusive c = rw c.in-Exclusive.is (each_mode _
    (λ q. sym (or_false (has_bit c.args.self.now.shared q)))
    (λ q. has_set c.args.self.now.exclusive c.args.place q c.requires))
