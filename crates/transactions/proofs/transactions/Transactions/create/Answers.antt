use Rattle.std.proofs.Common.{◌<◌, List, Some, refl, sym, subst, ◌∙◌, ◌++◌, ◌∷◌}
use Rattle.object_graph.specs.declared.calls.Call.TheVariants.{New}
use Rattle.object_graph.specs.declared.calls.Refusal.TheVariants.{PageFull}
use Rattle.object_graph.specs.Replies.{made_reply}
use Rattle.page_buffer.specs.declared.frame.Frame.{Frame}
use Rattle.store_model.specs.Causes.{no_page}
use Rattle.transactions.specs.Checks.{open_causes, write_causes, TakesPage}
use Rattle.transactions.specs.Tables.{NotesPage, NotesTarget}
use Rattle.transactions.specs.Standing.{TransactionsParts, AreTransactionsOf}
use Rattle.transactions.proofs.Creates.{making_causes, new_causes, may_write_in, slot_causes, no_slot, creates, answers_made, stands_made}
use Rattle.transactions.proofs.Entries.{changes_twice}
use Rattle.transactions.proofs.Opened.{page_below}
use Rattle.transactions.proofs.Ready.{stands_refused, hands_on}
use Rattle.transactions.proofs.Refusals.{causes_before}
use Rattle.transactions.proofs.transactions.Transactions.create.Goals as goal

pub returns-in_err-entry-clause-steps : goal.returns-in_err-entry-clause-steps
returns-in_err-entry-clause-steps g c = λ w r.
    hands_on made_reply c.from_residual.result _ w (New c.args.txn c.args.page) _ refl c.from_residual.ensures.1 refl r.stands
    (causes_before (open_causes c.args.txn w) (no_page w c.args.page ∷ write_causes c.args.txn c.args.page w ++ making_causes c.args.txn c.args.page w) _ (c.in_err-entry.ensures.causes w r))

pub returns-in_err-check_write-clause-steps : goal.returns-in_err-check_write-clause-steps
returns-in_err-check_write-clause-steps g c = λ w r.
    let low = page_below c.args.self.now _ w c.args.page c.self.view_is r (subst (λ n. c.args.page < n) c.count.ensures.value c.if-page-count.false) in
    hands_on made_reply c.from_residual-in_err-check_write.result _ w (New c.args.txn c.args.page) _ refl c.from_residual-in_err-check_write.ensures.1 refl r.stands
    (new_causes w c.args.txn c.args.page (Some c.in_err-check_write.field-0.0) low (c.in_ok-entry.ensures.causes w r) (c.in_err-check_write.ensures.causes w r))

pub returns-in_default-clause-steps : goal.returns-in_default-clause-steps
returns-in_default-clause-steps g c = λ w r.
    let low = page_below c.args.self.now _ w c.args.page c.self.view_is r (subst (λ n. c.args.page < n) c.count.ensures.value c.if-page-count.false) in
    let m = may_write_in c.args.self.now _ w c.args.txn _ c.args.page c.self.view_is r c.in_ok-entry.ensures.found low c.in_ok-check_write.ensures.may in
    stands_refused _ w (New c.args.txn c.args.page) (PageFull c.args.page) refl
    (subst (λ (fs : List Frame). AreTransactionsOf (record { table = c.self.inside.table; locks = c.self.inside.locks; frames = fs }) w) (sym c.in_default.ensures.unchanged) m.ready.stands)
    (slot_causes _ w c.args.txn _ c.args.page _ m (c.in_ok-entry.ensures.causes w r) (c.in_ok-check_write.ensures.causes w r) (sym c.if-knows_most.ensures)
    (no_slot _ w c.args.txn _ c.args.page m c.in_default.ensures.full))

pub returns-clause-steps : goal.returns-clause-steps
returns-clause-steps g c = λ w r.
    let low = page_below c.args.self.now _ w c.args.page c.self.view_is r (subst (λ n. c.args.page < n) c.count.ensures.value c.if-page-count.false) in
    let m = may_write_in c.args.self.now _ w c.args.txn _ c.args.page c.self.view_is r c.in_ok-entry.ensures.found low c.in_ok-check_write.ensures.may in
    let takes = subst (λ (v : TransactionsParts). TakesPage c.args.txn c.args.page (record { table = c.self.inside.table; locks = c.self.inside.locks; frames = c.take_slot.new.self }) v) (sym c.self-2.view_is) c.take_page.ensures in
    let made = creates _ (record { table = c.note_target.new.self; locks = c.self-2.inside.locks; frames = c.self-2.inside.buffer }) w c.args.txn _ c.args.page c.in-Ok.name m
    (record {
      locked = takes.locked;
      pages = takes.pages;
      noted = changes_twice (NotesPage c.args.page) (NotesTarget (Some c.in-Ok.name)) c.args.txn c.self.inside.table c.self-2.inside.table c.note_target.new.self takes.noted c.note_target.ensures;
      next = c.in-Ok.ensures.next;
      frames = takes.frames ∙ c.in-Ok.ensures.taken;
    }) in
    record {
      allowed = (
        slot_causes _ w c.args.txn _ c.args.page (Some c.in-Ok.name.slot) m (c.in_ok-entry.ensures.causes w r) (c.in_ok-check_write.ensures.causes w r) (sym c.if-knows_most.ensures) made.free,
        answers_made w c.args.txn c.args.page c.in-Ok.name made.named,
      );
      stands = stands_made w _ c.args.txn c.args.page c.in-Ok.name made;
    }
