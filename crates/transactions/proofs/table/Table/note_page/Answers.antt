use Rattle.std.proofs.Common.{◌≡◌, Some, sym, ◌∙◌, subst, ap}
use Rattle.transactions.specs.Tables.{Entries, ChangesEntry, NotesPage}
use Rattle.indexmap.specs.Layout.{set_value_at}
use Rattle.transactions.proofs.Entries.{first_entry, oldest_there, oldest_found, oldest_changes}
use Rattle.transactions.proofs.table.Table.note_page.Goals.{in-Some, in_default}
use Rattle.transactions.proofs.table.Table.note_page.Goals as goal

pub note_page-requires : goal.note_page-requires
note_page-requires c =
    let oldest = c.is_oldest.ensures c.if-is_oldest.true in
    let first : Some c.in-Some.entry.now ≡ first_entry c.args.self.now = c.in-Some.ensures.value ∙ ap first_entry c.self.view_is in
    c.requires c.in-Some.entry.now (oldest_found c.args.txn c.args.self.now c.in-Some.entry.now oldest first)

pub returns-then-is_oldest : goal.returns-then-is_oldest
returns-then-is_oldest c =
    let oldest = c.is_oldest.ensures c.if-is_oldest.true in
    elim c.match-get_index_mut.branch [
      | in-Some w ↦
          let first : Some w.in-Some.entry.now ≡ first_entry c.args.self.now = w.in-Some.ensures.value ∙ ap first_entry c.self.view_is in
          let changed = oldest_changes (NotesPage c.args.page) c.args.txn c.args.self.now w.in-Some.entry.now w.note_page.new.self oldest first w.note_page.ensures in
          subst (λ (t : Entries). ChangesEntry (NotesPage c.args.page) c.args.txn c.args.self.now t) (sym (ap (λ x. x.entries.entries) w.self-inside-is ∙ ap (λ (t : Entries). set_value_at t 0 w.note_page.new.self) c.self.view_is)) changed
      | in_default w ↦ absurd (oldest_there c.args.txn c.args.self.now oldest (w.in_default.ensures.value ∙ ap first_entry c.self.view_is))
    ]
