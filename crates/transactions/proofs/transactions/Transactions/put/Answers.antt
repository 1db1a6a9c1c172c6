use Rattle.std.proofs.Common.{refl}
use Rattle.object_graph.specs.declared.calls.Call.TheVariants.{Put}
use Rattle.object_graph.specs.Replies.{done_reply}
use Rattle.store_model.specs.Worlds.{assign}
use Rattle.transactions.specs.Checks.{name_causes, write_causes}
use Rattle.transactions.proofs.Ready.{hands_on}
use Rattle.transactions.proofs.Refusals.{causes_before}
use Rattle.transactions.proofs.Writes.{taken_slot, put_causes, write_stands}
use Rattle.transactions.proofs.transactions.Transactions.put.Goals as goal

pub returns-in_err-entry-clause-steps : goal.returns-in_err-entry-clause-steps
returns-in_err-entry-clause-steps g c = λ w r.
    hands_on done_reply c.from_residual.result _ w (Put c.args.txn c.args.name c.args.value) _ refl c.from_residual.ensures.1 refl r.stands
    (causes_before (name_causes c.args.txn c.args.name w) (write_causes c.args.txn c.args.name.page w) _ (c.in_err-entry.ensures.causes w r))

pub returns-in_err-check_write-clause-steps : goal.returns-in_err-check_write-clause-steps
returns-in_err-check_write-clause-steps g c = λ w r.
    hands_on done_reply c.from_residual-in_err-check_write.result _ w (Put c.args.txn c.args.name c.args.value) _ refl c.from_residual-in_err-check_write.ensures.1 refl r.stands
    (put_causes w c.args.txn c.args.name c.args.value c.page-page.result _ c.page-page.ensures.value (c.in_ok-entry.ensures.causes w r) (c.in_err-check_write.ensures.causes w r))

pub write_number-requires-clause-slot : goal.write_number-requires-clause-slot
write_number-requires-clause-slot g c =
    (taken_slot _ _ _ c.requires.0 c.args.txn _ c.args.name c.page-page.result c.slot.result c.requires.1
    c.in_ok-entry.ensures.found c.in_ok-check_write.ensures.may c.page-page.ensures.value c.slot.ensures.value c.self.view_is c.take_page.ensures).within

pub write_number-requires-clause-used : goal.write_number-requires-clause-used
write_number-requires-clause-used g c =
    (taken_slot _ _ _ c.requires.0 c.args.txn _ c.args.name c.page-page.result c.slot.result c.requires.1
    c.in_ok-entry.ensures.found c.in_ok-check_write.ensures.may c.page-page.ensures.value c.slot.ensures.value c.self.view_is c.take_page.ensures).used

pub returns-clause-steps : goal.returns-clause-steps
returns-clause-steps g c = λ w r. record {
  allowed = (put_causes w c.args.txn c.args.name c.args.value c.page-page.result _ c.page-page.ensures.value (c.in_ok-entry.ensures.causes w r) (c.in_ok-check_write.ensures.causes w r), refl);
  stands = write_stands _ _ _ _ w c.args.txn _ c.page-page.result c.slot.result (assign c.args.name c.args.value) r
      c.in_ok-entry.ensures.found c.in_ok-check_write.ensures.may c.page-page.ensures.value c.slot.ensures.value c.self.view_is c.take_page.ensures c.write_number.ensures.written;
}
