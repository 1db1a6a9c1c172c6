use Rattle.std.proofs.Common.{nat_eq, ap, ◌∙◌}
use Rattle.std.specs.Map.{remove_entry}
use Rattle.transactions.proofs.Entries.{one_taken_out}
use Rattle.transactions.proofs.table.Table.remove.Goals as goal

pub returns-in_default : goal.returns-in_default
returns-in_default c = c.shift_remove.ensures.entries ∙ (ap (remove_entry (nat_eq c.args.txn)) c.self.view_is ∙ one_taken_out c.args.txn c.args.self.now c.numbers_are_apart.ensures)

pub returns : goal.returns
returns c = ap (λ es. es) c.keep.ensures ∙ (c.shift_remove.ensures.entries ∙ (ap (remove_entry (nat_eq c.args.txn)) c.self.view_is ∙ one_taken_out c.args.txn c.args.self.now c.numbers_are_apart.ensures))
