use Rattle.std.proofs.Common.{◌≡◌, ◌++◌, ◌∷◌, [], None, nat_eq, ◌∙◌}
use Rattle.indexmap.proofs.CallerLemmas.{insert_entry-new}
use Rattle.transactions.specs.Tables.{entry_of}
use Rattle.transactions.proofs.table.Table.add.Goals as goal

pub returns-clause-added : goal.returns-clause-added
returns-clause-added c =
    let absent : entry_of c.self.inside.entries.entries c.args.txn ≡ None = (λ i. entry_of ((c.self.view_is ∙ c.room.ensures.same) i) c.args.txn) ∙ c.requires in
    c.in_ok-insert.ensures.entries
    ∙ insert_entry-new nat_eq c.self.inside.entries c.args.txn c.in_ok-entry.entry absent
    ∙ (λ i. (c.self.view_is ∙ c.room.ensures.same) i ++ (c.args.txn, c.in_ok-entry.ensures.fresh i) ∷ [])
