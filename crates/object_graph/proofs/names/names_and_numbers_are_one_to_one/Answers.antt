use Rattle.std.proofs.Common.{◌/◌, ◌%◌, arith}
use Rattle.object_graph.proofs.names.names_and_numbers_are_one_to_one.Goals as goal

pub returns-clause-from : goal.returns-clause-from
returns-clause-from c = λ k is. (
  record { page = k / 4294967296; slot = (k / 65536) % 65536; generation = k % 65536 },
  record { page = is.page; slot = is.slot; first = is.first; last = omega arith },
  omega arith,
)
