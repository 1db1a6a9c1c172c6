use Rattle.std.proofs.Common.{List, replicate, sym, subst}
use Rattle.page_locks.specs.Words.{nobody}
use Rattle.page_locks.specs.Places.{IsLockTable}
use Rattle.page_locks.specs.declared.admitted.Admitted.{Admitted}
use Rattle.page_locks.specs.declared.holders.Holders.{Holders}
use Rattle.page_locks.proofs.Comings.{table_starts}
use Rattle.page_locks.proofs.locks.Locks.new.Goals as goal

pub invariant_of-result : goal.invariant_of-result
invariant_of-result c = (
  c.in_ok-admitted.ensures.capacity,
  subst (λ (holders : List Holders). IsLockTable c.args.pages holders c.in_ok-admitted.admitted.items c.in_ok-seats.seats.items) (sym (c.in_ok-holders.ensures.items_if_clones_equal (λ y e. e)))
      (subst (λ (held : List Admitted). IsLockTable c.args.pages (replicate c.args.pages nobody) held c.in_ok-seats.seats.items) (sym c.in_ok-admitted.ensures.items)
      (table_starts c.args.pages c.in_ok-seats.seats.items c.in_ok-seats.ensures)),
)
