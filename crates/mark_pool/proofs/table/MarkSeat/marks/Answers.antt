use Rattle.std.proofs.Common.{◌≡◌, ℕ, ◌<◌, sym, ap, ◌∙◌, subst, arith}
use Rattle.std.specs.Int.{bit_at}
use Rattle.object_graph.specs.declared.limits.TheConstants.{MOST_SLOTS}
use Rattle.mark_pool.specs.Edges.{IsMarkAt}
use Rattle.mark_pool.specs.Marks.{saw, times, all_parts}
use Rattle.mark_pool.specs.Seats.{Made, Known}
use Rattle.mark_pool.proofs.Keeps.{looks}
use Rattle.mark_pool.proofs.Seated.{at_table, may_load}
use Rattle.mark_pool.proofs.table.MarkSeat.marks.Goals as goal

pub load-requires : goal.load-requires
load-requires c =
    let words = c.table.inside.board.shared in
    let stand = c.self.inside.stand in
    let allowed = looks words.key.value words.table_id.slots stand.id c.args.page stand.me c.self.invariant.1 in
    may_load words.table_id words.key.value c.args.table.now stand.table_id stand.me c.args.self.now stand.id c.args.page c.word_of-word.result 0 saw
    c.table.view_is c.self.view_is c.requires.own c.requires.page c.word_of-word.ensures (omega arith) c.table.invariant.0 allowed

pub invariant_of-self : goal.invariant_of-self
invariant_of-self c =
    let did = c.load.ensures.2 c.args.page c.word_of-word.ensures in
    (did.1 ∙ c.self.invariant.0, subst (λ (k : ℕ). 0 < k) (sym (ap (λ v. v.parts) did.0)) c.self.invariant.1)

pub returns-clause-sound : goal.returns-clause-sound
returns-clause-sound c slot one =
    let words = c.table.inside.board.shared in
    let stand = c.self.inside.stand in
    let on = at_table words.table_id words.key.value c.args.table.now stand.table_id stand.me.0 c.args.self.now c.table.view_is c.self.view_is c.requires.own in
    subst (λ (t : Made). IsMarkAt t.cut c.args.page slot × (slot < MOST_SLOTS)) c.table.view_is
    ((c.load.ensures.2 c.args.page c.word_of-word.ensures).2 words.key.value slot on.1 one)

pub returns-clause-whole : goal.returns-clause-whole
returns-clause-whole c =
    subst (λ (s : Known). s.parts ≡ all_parts → (slot : ℕ) → times c.args.page slot s.claims ≡ bit_at c.load.result slot) c.self.view_is
    (c.load.ensures.2 c.args.page c.word_of-word.ensures).3
