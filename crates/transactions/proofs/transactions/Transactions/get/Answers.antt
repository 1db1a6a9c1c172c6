use Rattle.std.proofs.Common.{◌∷◌, ◌++◌, Some, sym, ap, refl, ◌∙◌}
use Rattle.object_graph.specs.ObjectParts.{ObjectParts}
use Rattle.object_graph.specs.declared.calls.Call.TheVariants.{Get}
use Rattle.object_graph.specs.declared.calls.Reply.TheVariants.{Ref}
use Rattle.object_graph.specs.declared.calls.Refusal.TheVariants.{Busy, KnowsTooMany}
use Rattle.object_graph.specs.Replies.{ref_reply}
use Rattle.store_model.specs.Causes.{busy_to_read}
use Rattle.transactions.specs.Checks.{name_causes, field_causes}
use Rattle.transactions.proofs.Ready.{stands_refused, hands_on}
use Rattle.transactions.proofs.Refusals.{causes_before, is_busy_to_read}
use Rattle.transactions.proofs.Readings.{knows_in, is_read, read_field, seen_causes, get_causes, is_full_to_get, get_stands}
use Rattle.transactions.proofs.transactions.Transactions.get.Goals as goal

pub returns-in_err-entry-clause-steps : goal.returns-in_err-entry-clause-steps
returns-in_err-entry-clause-steps g c = λ w r.
    hands_on ref_reply c.from_residual.result _ w (Get c.args.txn c.args.name c.args.field) _ refl c.from_residual.ensures.1 refl r.stands
    (causes_before (name_causes c.args.txn c.args.name w) (field_causes c.args.name c.args.field w ++ busy_to_read w c.args.txn c.args.name.page ∷ seen_causes c.args.txn c.args.name c.args.field w) _
    (c.in_err-entry.ensures.causes w r))

pub returns-in-Err-clause-steps : goal.returns-in-Err-clause-steps
returns-in-Err-clause-steps g c = λ w r.
    let k = knows_in c.args.self.now _ w c.args.txn c.args.name _ c.self.view_is r c.in_ok-entry.ensures.found in
    stands_refused _ w (Get c.args.txn c.args.name c.args.field) (Busy c.in-Err.field-0.holder) refl r.stands
    (get_causes w c.args.txn c.args.name c.args.field c.page-page.result _ c.page-page.ensures.value (c.in_ok-entry.ensures.causes w r) (c.in_ok-check_field.ensures.causes w r)
    (is_busy_to_read _ w c.args.txn c.page-page.result c.in-Err.field-0.holder (seen_causes c.args.txn c.args.name c.args.field w) k.ready c.in-Err.ensures.busy))

pub unreachable-requires : goal.unreachable-requires
unreachable-requires g c =
    is_read _ c.requires.0 c.args.txn _ c.args.name c.page-page.result
    (knows_in c.args.self.now _ c.requires.0 c.args.txn c.args.name _ c.self.view_is c.requires.1 c.in_ok-entry.ensures.found)
    c.page-page.ensures.value c.in_default.ensures.free (sym c.in_default-object_seen.ensures.object)

pub returns-then-has_no_room_for-clause-steps : goal.returns-then-has_no_room_for-clause-steps
returns-then-has_no_room_for-clause-steps g c = λ w r.
    let k = knows_in c.args.self.now _ w c.args.txn c.args.name _ c.self.view_is r c.in_ok-entry.ensures.found in
    let seen = read_field _ w c.args.txn _ c.args.name c.page-page.result c.args.field (record { name = c.object.inside.name; number = c.object.inside.number; refs = c.object.inside.refs }) c.index-object-field.result k
    c.page-page.ensures.value c.in_default.ensures.free (sym c.in-Some.ensures.object ∙ ap (λ (o : ObjectParts). Some o) (sym c.object.view_is)) c.in_ok-check_field.ensures.within in
    stands_refused _ w (Get c.args.txn c.args.name c.args.field) KnowsTooMany refl r.stands
    (get_causes w c.args.txn c.args.name c.args.field c.page-page.result _ c.page-page.ensures.value (c.in_ok-entry.ensures.causes w r) (c.in_ok-check_field.ensures.causes w r)
    (is_full_to_get _ w c.args.txn _ c.args.name c.args.field c.page-page.result _ _ k c.in_default.ensures.free seen (sym c.if-has_no_room_for.ensures)))

pub returns-clause-steps : goal.returns-clause-steps
returns-clause-steps g c = λ w r.
    let k = knows_in c.args.self.now _ w c.args.txn c.args.name _ c.self.view_is r c.in_ok-entry.ensures.found in
    let seen = read_field _ w c.args.txn _ c.args.name c.page-page.result c.args.field (record { name = c.object.inside.name; number = c.object.inside.number; refs = c.object.inside.refs }) c.index-object-field.result k
    c.page-page.ensures.value c.in_default.ensures.free (sym c.in-Some.ensures.object ∙ ap (λ (o : ObjectParts). Some o) (sym c.object.view_is)) c.in_ok-check_field.ensures.within in
    record {
      allowed = (
        get_causes w c.args.txn c.args.name c.args.field c.page-page.result _ c.page-page.ensures.value (c.in_ok-entry.ensures.causes w r) (c.in_ok-check_field.ensures.causes w r)
            (is_full_to_get _ w c.args.txn _ c.args.name c.args.field c.page-page.result _ _ k c.in_default.ensures.free seen (sym c.if-has_no_room_for.ensures)),
        ap (λ x. Ref x) seen,
      );
      stands = get_stands _ _ w c.args.txn _ c.args.name c.args.field c.page-page.result _ k c.page-page.ensures.value seen c.note_target.ensures
          (record { locked = c.in-Ok.ensures.taken; pages = c.in-Ok.ensures.pages; frames = refl });
    }
