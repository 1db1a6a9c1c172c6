use Rattle.std.proofs.Common.{◌≡◌, None, false, nat_le, length, refl, sym, subst, ◌∙◌, arith}
use Rattle.std.proofs.lemmas.Bool.{lt-leb}
use Rattle.object_graph.specs.declared.limits.TheConstants.{MOST_OPEN}
use Rattle.transactions.specs.Tables.{Entries, entry_of}
use Rattle.transactions.specs.Standing.{IsReady, AreTransactionsOf}
use Rattle.transactions.proofs.Begins.{begun, stands_begun, not_admitted, none_met, no_entry}
use Rattle.transactions.proofs.Opened.{not_opened}
use Rattle.transactions.specs.contracts.transactions.Transactions.{the_view}
use Rattle.transactions.proofs.transactions.Transactions.begin.Goals as goal

pub admit-requires : goal.admit-requires
admit-requires c =
    let w = c.requires.0 in
    let ready = subst (λ v. IsReady v w) (sym c.self.view_is) c.requires.1 in
    not_admitted (the_view c.self.inside) w c.args.txn ready.stands (no_entry (entry_of c.self.inside.table c.args.txn) (sym c.has.ensures ∙ c.if-has.false))

pub returns-clause-steps : goal.returns-clause-steps
returns-clause-steps c w before =
    let ready = subst (λ v. IsReady v w) (sym c.self.view_is) before in
    let none : entry_of c.self.inside.table c.args.txn ≡ None = no_entry (entry_of c.self.inside.table c.args.txn) (sym c.has.ensures ∙ c.if-has.false) in
    let closed = not_opened (the_view c.self.inside) (the_view c.self.inside) w c.args.txn refl none ready in
    let few : nat_le MOST_OPEN (length c.self.inside.table) ≡ false = lt-leb MOST_OPEN (length c.self.inside.table) (omega (arith, c.count.ensures, c.if-count-ge-MOST_OPEN.false)) in
    let stands = stands_begun (the_view c.self.inside) w c.args.txn c.admit.new.self ready.stands none closed c.in-Ok.ensures.admitted c.in-Ok.ensures.locks c.in-Ok.ensures.pages in
    record {
      allowed = (none_met (the_view c.self.inside) w c.args.txn ready closed few, refl);
      stands = subst (λ (table : Entries). AreTransactionsOf (record { table = table; locks = c.admit.new.self; frames = c.self.inside.buffer }) (begun w c.args.txn)) (sym c.in_default.ensures.added) stands;
    }
