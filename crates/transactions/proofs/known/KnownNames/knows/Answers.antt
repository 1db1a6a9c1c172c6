use Rattle.std.proofs.Common.{ℕ, ◌∙◌, nat_eq, ap}
use Rattle.std.specs.List.{list_any}
use Rattle.object_graph.specs.Graphs.{has_name}
use Rattle.transactions.proofs.KnownNumbers.{known_by_number}
use Rattle.transactions.proofs.known.KnownNames.knows.Goals as goal

pub returns : goal.returns
returns c =
    c.contains.ensures
    ∙ ap (λ (m : ℕ). list_any (nat_eq m) c.self.inside.numbers.keys) c.to_u64.ensures
    ∙ known_by_number c.self.inside.numbers.keys c.copy.result c.copy.ensures.bounds c.self.invariant.0
    ∙ (λ i. has_name (c.self.view_is i) (c.copy.ensures.same i))
