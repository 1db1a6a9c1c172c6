use Rattle.std.proofs.Common.{◌∙◌, sym}
use Rattle.transactions.proofs.Ready.{ready_finished}
use Rattle.transactions.proofs.tests.player.Player.commit.Goals as goal

pub returns : goal.returns
returns c = ready_finished c.args.self.now.store c.finish.new.self c.args.txn (sym c.is_open.ensures ∙ c.if-not-is_open.false) c.requires c.finish.ensures.committed
