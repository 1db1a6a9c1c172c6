use Rattle.std.proofs.Common.{[], ◌∷◌, Some, sym, subst, ap, refl, ◌∙◌}
use Rattle.object_graph.specs.ObjectParts.{ObjectParts}
use Rattle.object_graph.specs.declared.calls.Call.TheVariants.{Number}
use Rattle.object_graph.specs.declared.calls.Reply.TheVariants.{Num}
use Rattle.object_graph.specs.declared.calls.Refusal.TheVariants.{Busy}
use Rattle.object_graph.specs.Replies.{num_reply}
use Rattle.store_model.specs.Causes.{busy_to_read}
use Rattle.page_locks.specs.Holding.{LockTable}
use Rattle.transactions.specs.Checks.{name_causes}
use Rattle.transactions.specs.Standing.{AreTransactionsOf}
use Rattle.transactions.proofs.Ready.{stands_refused, hands_on}
use Rattle.transactions.proofs.Refusals.{causes_before, may_read, is_busy_to_read}
use Rattle.transactions.proofs.Readings.{knows_in, is_read, read_number, number_causes, number_stands}
use Rattle.transactions.proofs.transactions.Transactions.number.Goals as goal

pub returns-in_err-entry_knowing-clause-steps : goal.returns-in_err-entry_knowing-clause-steps
returns-in_err-entry_knowing-clause-steps g c = λ w r.
    hands_on num_reply c.from_residual.result _ w (Number c.args.txn c.args.name) _ refl c.from_residual.ensures.1 refl r.stands
    (causes_before (name_causes c.args.txn c.args.name w) (busy_to_read w c.args.txn c.args.name.page ∷ []) _ (c.in_err-entry_knowing.ensures.causes w r))

pub returns-in-Err-clause-steps : goal.returns-in-Err-clause-steps
returns-in-Err-clause-steps g c = λ w r.
    let k = knows_in c.args.self.now _ w c.args.txn c.args.name _ c.self.view_is r c.in_ok-entry_knowing.ensures.found in
    stands_refused _ w (Number c.args.txn c.args.name) (Busy c.in-Err.field-0.holder) refl
    (subst (λ (l : LockTable). AreTransactionsOf (record { table = c.self.inside.table; locks = l; frames = c.self.inside.buffer }) w) (sym c.in-Err.ensures.unchanged) k.ready.stands)
    (number_causes w c.args.txn c.args.name c.page-page.result _ c.page-page.ensures.value (c.in_ok-entry_knowing.ensures.causes w r)
    (is_busy_to_read _ w c.args.txn c.page-page.result c.in-Err.field-0.holder [] k.ready c.in-Err.ensures.busy))

pub unreachable-requires : goal.unreachable-requires
unreachable-requires g c =
    is_read _ c.requires.0 c.args.txn _ c.args.name c.page-page.result
    (knows_in c.args.self.now _ c.requires.0 c.args.txn c.args.name _ c.self.view_is c.requires.1 c.in_ok-entry_knowing.ensures.found)
    c.page-page.ensures.value c.in_default.ensures.free (sym c.in_default-object_seen.ensures.object)

pub returns-clause-steps : goal.returns-clause-steps
returns-clause-steps g c = λ w r.
    let k = knows_in c.args.self.now _ w c.args.txn c.args.name _ c.self.view_is r c.in_ok-entry_knowing.ensures.found in
    record {
      allowed = (
        number_causes w c.args.txn c.args.name c.page-page.result _ c.page-page.ensures.value (c.in_ok-entry_knowing.ensures.causes w r) (may_read _ w c.args.txn c.page-page.result [] k.ready c.in_default.ensures.free),
        ap (λ n. Num n) (read_number _ w c.args.txn _ c.args.name c.page-page.result (record { name = c.object.inside.name; number = c.object.inside.number; refs = c.object.inside.refs }) k c.page-page.ensures.value
            c.in_default.ensures.free (sym c.in-Some.ensures.object ∙ ap (λ (o : ObjectParts). Some o) (sym c.object.view_is))),
      );
      stands = number_stands _ _ w c.args.txn _ c.args.name c.page-page.result k c.page-page.ensures.value refl
          (record { locked = c.in_default.ensures.taken; pages = c.in_default.ensures.pages; frames = refl });
    }
