use Rattle.std.proofs.Common.{◌≡◌, ℕ, ◌+◌, ◌++◌, ◌∷◌, [], map, false, ◌∙◌, sym, nat_eq, ap, subst, arith, length, length-append}
use Rattle.std.specs.List.{AllByRecursion}
use Rattle.object_graph.specs.Names.{number_of}
use Rattle.object_graph.specs.Graphs.{has_name}
use Rattle.page_image.specs.Fields.{numbered_name}
use Rattle.indexmap.specs.IndexSet.{insert_key}
use Rattle.transactions.specs.KnownNumbers.{IsOfName}
use Rattle.transactions.proofs.KnownNumbers.{names_more, kept_more, inserted}
use Rattle.transactions.proofs.known.KnownNames.add.Goals as goal

keys_after : (c : goal.In-Ok) → c.insert.new.self.keys ≡ c.self.inside.numbers.keys ++ number_of c.copy.result ∷ []
keys_after c =
    let absent : has_name (map numbered_name c.self.inside.numbers.keys) c.copy.result ≡ false = (λ i. has_name (c.self.view_is i) (c.copy.ensures.same i)) ∙ c.requires.absent in
    c.in-Ok.ensures.keys
    ∙ ap (λ (m : ℕ). insert_key nat_eq c.self.inside.numbers.keys m) c.to_u64.ensures
    ∙ inserted c.self.inside.numbers.keys c.copy.result c.copy.ensures.bounds c.self.invariant.0 absent

pub invariant_of-self : goal.invariant_of-self
invariant_of-self c =
    let kept = subst (AllByRecursion IsOfName) (sym (keys_after c)) (kept_more c.self.inside.numbers.keys c.copy.result c.copy.ensures.bounds c.self.invariant.0) in
    let longer : length c.insert.new.self.keys ≡ length c.self.inside.numbers.keys + 1 = ap length (keys_after c) ∙ length-append c.self.inside.numbers.keys (number_of c.copy.result ∷ []) in
    let room = c.self.invariant.1 in
    let less = c.insert.ensures.spare in
    (kept, omega (arith, longer, room, less))

pub returns : goal.returns
returns c =
    ap (map numbered_name) (keys_after c)
    ∙ names_more c.self.inside.numbers.keys c.copy.result c.copy.ensures.bounds
    ∙ (λ i. c.self.view_is i ++ c.copy.ensures.same i ∷ [])
