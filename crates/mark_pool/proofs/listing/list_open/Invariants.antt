use Rattle.std.proofs.Common.{◌≡◌, ℕ}
use Rattle.std.specs.Int.{bit_at}
use Rattle.std.specs.List.{All}
use Rattle.mark_pool.specs.Walks.{IsListed}
use Rattle.mark_pool.proofs.listing.list_open.Given as goal

abbrev pub invariant-slots : goal.invariant-slots
invariant-slots l = record {
  rest : (slot : ℕ) → bit_at l.rest slot ≡ 1 → bit_at l.left slot ≡ 1;
  listed : All (IsListed l.cut) l.list.items;
}
