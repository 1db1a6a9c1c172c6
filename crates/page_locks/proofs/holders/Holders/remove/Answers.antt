use Rattle.page_locks.proofs.Bits.{has_clear}
use Rattle.page_locks.proofs.Modes.{each_mode}
use Rattle.page_locks.proofs.holders.Holders.remove.Goals as goal

pub returns : goal.returns
returns c = each_mode _
    (λ q low. has_clear c.args.self.now.shared c.args.place q c.requires low)
    (λ q low. has_clear c.args.self.now.exclusive c.args.place q c.requires low)
