use Rattle.std.proofs.Common.{ℕ, ◌<◌, sym, ap, ◌∙◌, subst, bit_or, arith}
use mathlib.Core.Option.{none}
use Rattle.atomic_table.specs.Table.{step, Allows}
use Rattle.mark_pool.specs.declared.place.Place.{Place}
use Rattle.mark_pool.specs.Edges.{IsEdge}
use Rattle.mark_pool.specs.Marks.{Ruled, scanned, times}
use Rattle.mark_pool.specs.Seats.{Made, Known, known, with_scan}
use Rattle.mark_pool.proofs.Keeps.{scans}
use Rattle.mark_pool.proofs.Seated.{at_table, in_cut}
use Rattle.mark_pool.proofs.table.MarkSeat.scanned.Goals as goal

pub fetch_or-requires : goal.fetch_or-requires
fetch_or-requires c =
    let words = c.table.inside.board.shared in
    let cut = words.key.value in
    let stand = c.self.inside.stand in
    let on = at_table words.table_id cut c.args.table.now stand.table_id stand.me.0 c.args.self.now c.table.view_is c.self.view_is c.requires.own in
    let page = in_cut words.table_id cut c.args.table.now c.args.page c.table.view_is c.requires.page in
    let took = subst (λ (s : Known). 0 < times c.args.page c.args.slot s.takes) (sym c.self.view_is) c.requires.took in
    let targets = subst (λ (p : Made × Known). (to : Place) → IsEdge p.0.cut c.args.page c.args.slot to → 0 < times to.page to.slot p.1.seen) (λ i. (sym c.table.view_is i, sym c.self.view_is i)) c.requires.targets in
    let is = c.word_of-done.ensures in
    let wide = c.table.invariant.0 in (
      on.0,
      omega (arith, is, wide, page),
      subst (λ (z : ℕ × ℕ). Allows (Ruled cut) words.table_id.slots stand.id stand.me z.0 (λ n. bit_or n z.1) (scanned (step words.table_id.slots z.0 z.1 0 none) stand.me)) (λ i. (sym is i, sym c.mask-one.ensures i))
          (scans cut words.table_id.slots stand.id c.args.page c.args.slot stand.me page took targets),
    )

pub invariant_of-self : goal.invariant_of-self
invariant_of-self c =
    let did = c.fetch_or.ensures.2 c.args.page c.args.slot (c.word_of-done.ensures, c.mask-one.ensures) in
    (did.1 ∙ c.self.invariant.0, subst (λ (k : ℕ). 0 < k) (sym (ap (λ v. v.parts) did.0)) c.self.invariant.1)

pub returns : goal.returns
returns c =
    let did = c.fetch_or.ensures.2 c.args.page c.args.slot (c.word_of-done.ensures, c.mask-one.ensures) in
    (λ i. known (c.fetch_or.ensures.0 i) (did.0 i)) ∙ ap (λ (s : Known). with_scan s c.args.page c.args.slot) c.self.view_is
