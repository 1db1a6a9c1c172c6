use Rattle.std.proofs.Common.{◌≡◌, ℕ, List, [], sym, subst, ap, ◌∙◌, refl}
use Rattle.store_model.specs.Causes.{has_page}
use Rattle.store_model.specs.Steps.{without}
use Rattle.page_buffer.specs.Frames.{reverted}
use Rattle.page_buffer.specs.declared.frame.Frame.{Frame}
use Rattle.transactions.specs.Tables.{entry_of, pages_in}
use Rattle.transactions.specs.Calls.{ChangesFramesOf}
use Rattle.transactions.specs.Standing.{TransactionsParts, AreFramesOf}
use Rattle.transactions.proofs.PagesChanged.{changes_of_these}
use Rattle.transactions.proofs.Opened.{opened, wrote_within}
use Rattle.transactions.proofs.Refusals.{is_open}
use Rattle.transactions.proofs.Ends.{table_without, locks_without, frames_abort}
use Rattle.transactions.proofs.transactions.Transactions.abort.Goals as goal

pub revert_all-requires : goal.revert_all-requires
revert_all-requires c = λ page h.
    wrote_within _ c.requires.0 c.args.txn c.in-Some.entry.now page
    (opened c.args.self.now _ c.requires.0 c.args.txn c.in-Some.entry.now (sym c.self.view_is) (sym c.in-Some.ensures) c.requires.1)
    (ap (λ ps. has_page ps page) (sym c.written.ensures.pages) ∙ h)

pub returns-clause-steps : goal.returns-clause-steps
returns-clause-steps c = λ w r.
    let o = opened c.args.self.now _ w c.args.txn c.in-Some.entry.now (sym c.self.view_is) (sym c.in-Some.ensures) r in
    record {
      allowed = (is_open _ w c.args.txn c.in-Some.entry.now [] o, refl);
      stands = record {
        fields = o.ready.stands.fields;
        table = table_without w _ c.self.inside.table c.close.new.self.table c.args.txn refl o.ready.stands.table c.close.ensures.table;
        locks = locks_without w _ c.self.inside.locks c.close.new.self.locks c.args.txn refl refl o.ready.stands.locks c.close.ensures.pages c.close.ensures.locks;
        frames = subst (λ (fs : List Frame). AreFramesOf (record w { transactions = without w c.args.txn }) fs) (sym c.close.ensures.frames) (frames_abort w _ c.self.inside.buffer c.revert_all.new.buffer c.args.txn o.of c.written.result.now r.lawful o.found refl refl refl refl
            (λ page. ap (λ ps. has_page ps page) c.written.ensures.pages ∙ o.entry.written.each page)
            o.ready.stands.frames (record { count = c.revert_all.ensures.count; frames = c.revert_all.ensures.frames }));
      };
    }

pub returns-clause-frames : goal.returns-clause-frames
returns-clause-frames c =
    let o = opened c.args.self.now _ c.requires.0 c.args.txn c.in-Some.entry.now (sym c.self.view_is) (sym c.in-Some.ensures) c.requires.1 in
    let is : pages_in (entry_of c.self.inside.table c.args.txn) ≡ c.in-Some.entry.now.written = ap pages_in o.is in
    subst (λ (s : TransactionsParts). ChangesFramesOf (pages_in (entry_of s.table c.args.txn)) s.frames c.close.new.self.frames) c.self.view_is
    (subst (λ (ps : List ℕ). ChangesFramesOf ps c.self.inside.buffer c.close.new.self.frames) (sym is)
    (subst (λ (fs : List Frame). ChangesFramesOf c.in-Some.entry.now.written c.self.inside.buffer fs) (sym c.close.ensures.frames)
    (subst (λ (ps : List ℕ). ChangesFramesOf ps c.self.inside.buffer c.revert_all.new.buffer) c.written.ensures.pages
    (changes_of_these reverted c.self.inside.buffer c.revert_all.new.buffer c.written.result.now
    (λ page h. wrote_within _ c.requires.0 c.args.txn c.in-Some.entry.now page o (ap (λ ps. has_page ps page) (sym c.written.ensures.pages) ∙ h))
    (record { count = c.revert_all.ensures.count; frames = c.revert_all.ensures.frames })))))
