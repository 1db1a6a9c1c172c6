use Rattle.std.proofs.Common.{refl}
use Rattle.object_graph.specs.declared.calls.Call.TheVariants.{Begin, Get, Number, Set, Put, New, Abort}
use Rattle.object_graph.specs.Replies.{done_reply, ref_reply, num_reply, made_reply}
use Rattle.transactions.proofs.Ready.{ready_for_some}
use Rattle.transactions.proofs.tests.player.transact.Goals as goal

pub returns-in-Begin : goal.returns-in-Begin
returns-in-Begin g c = ready_for_some c.args.store.now c.begin.new.self (Begin c.in-Begin.txn) (done_reply c.begin.result) refl c.requires c.begin.ensures.steps

pub returns-in-Get : goal.returns-in-Get
returns-in-Get g c = ready_for_some c.args.store.now c.get.new.self (Get c.in-Get.txn c.in-Get.name c.in-Get.field) (ref_reply c.get.result) refl c.requires c.get.ensures.steps

pub returns-in-Number : goal.returns-in-Number
returns-in-Number g c = ready_for_some c.args.store.now c.number.new.self (Number c.in-Number.txn c.in-Number.name) (num_reply c.number.result) refl c.requires c.number.ensures.steps

pub returns-in-Set : goal.returns-in-Set
returns-in-Set g c =
    ready_for_some c.args.store.now c.set.new.self (Set c.in-Set.txn c.in-Set.name c.in-Set.field c.in-Set.target) (done_reply c.set.result) refl c.requires c.set.ensures.steps

pub returns-in-Put : goal.returns-in-Put
returns-in-Put g c = ready_for_some c.args.store.now c.put.new.self (Put c.in-Put.txn c.in-Put.name c.in-Put.value) (done_reply c.put.result) refl c.requires c.put.ensures.steps

pub returns-in-New : goal.returns-in-New
returns-in-New g c = ready_for_some c.args.store.now c.create.new.self (New c.in-New.txn c.in-New.page) (made_reply c.create.result) refl c.requires c.create.ensures.steps

pub returns-in-Abort : goal.returns-in-Abort
returns-in-Abort g c = ready_for_some c.args.store.now c.abort.new.self (Abort c.in-Abort.txn) (done_reply c.abort.result) refl c.requires c.abort.ensures.steps
