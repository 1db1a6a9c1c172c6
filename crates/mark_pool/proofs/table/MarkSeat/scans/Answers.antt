use Rattle.std.proofs.Common.{◌≡◌, ℕ, ◌<◌, [], sym, ◌∙◌, subst, arith}
use Rattle.std.specs.Int.{bit_at}
use Rattle.mark_pool.specs.declared.place.Place.{Place}
use Rattle.mark_pool.specs.Edges.{IsEdge}
use Rattle.mark_pool.specs.Marks.{saw_scanned, times, all_parts}
use Rattle.mark_pool.specs.Seats.{Made, Known, known}
use Rattle.mark_pool.proofs.Keeps.{looks_scanned}
use Rattle.mark_pool.proofs.Seated.{at_table, may_load}
use Rattle.mark_pool.proofs.table.MarkSeat.scans.Goals as goal

pub load-requires : goal.load-requires
load-requires c =
    let words = c.table.inside.board.shared in
    let stand = c.self.inside.stand in
    let allowed = looks_scanned words.key.value words.table_id.slots stand.id c.args.page stand.me c.self.invariant.1 in
    may_load words.table_id words.key.value c.args.table.now stand.table_id stand.me c.args.self.now stand.id c.args.page c.word_of-word.result 2 saw_scanned
    c.table.view_is c.self.view_is c.requires.own c.requires.page c.word_of-word.ensures (omega arith) c.table.invariant.0 allowed

pub invariant_of-self : goal.invariant_of-self
invariant_of-self c =
    let same = (c.load.ensures.2 c.args.page c.word_of-word.ensures).0 in
    subst (λ me. (me.1 ≡ []) × (0 < me.0.parts)) (sym same) c.self.invariant

pub returns-clause-same : goal.returns-clause-same
returns-clause-same c =
    let same = (c.load.ensures.2 c.args.page c.word_of-word.ensures).0 in
    (λ i. known (c.load.ensures.0 i) (same i).0) ∙ c.self.view_is

pub returns-clause-targets : goal.returns-clause-targets
returns-clause-targets c =
    let words = c.table.inside.board.shared in
    let stand = c.self.inside.stand in
    let on = at_table words.table_id words.key.value c.args.table.now stand.table_id stand.me.0 c.args.self.now c.table.view_is c.self.view_is c.requires.own in
    subst (λ (p : Made × Known). p.1.parts ≡ all_parts → (slot : ℕ) (to : Place) → bit_at c.load.result slot ≡ 1 → IsEdge p.0.cut c.args.page slot to → 0 < times to.page to.slot p.1.claims)
    (λ i. (c.table.view_is i, c.self.view_is i))
    (λ all slot to one edge. (c.load.ensures.2 c.args.page c.word_of-word.ensures).1 words.key.value slot to on.1 all one edge)

pub returns-clause-known : goal.returns-clause-known
returns-clause-known c =
    subst (λ (s : Known). (slot : ℕ) → 0 < times c.args.page slot s.scans → bit_at c.load.result slot ≡ 1) c.self.view_is
    (c.load.ensures.2 c.args.page c.word_of-word.ensures).2
