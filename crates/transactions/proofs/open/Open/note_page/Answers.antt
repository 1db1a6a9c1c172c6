use Rattle.std.proofs.Common.{◌≡◌, ℕ, Bool, List, ◌+◌, length, true, false, refl, ap, sym, subst, ◌∙◌, arith}
use Rattle.std.specs.Prelude.{not, ◌&&◌}
use Rattle.std.proofs.lemmas.Bool.{leb-false}
use Rattle.store_model.specs.Causes.{has_page}
use Rattle.transactions.specs.Tables.{IsAscending, IsPlaceFor, HaveSamePages}
use Rattle.std.specs.List.{insert}
use Rattle.store_model.specs.Steps.{with_page}
use Rattle.transactions.proofs.Written.{ascending_more, one_more}
use Rattle.transactions.proofs.open.Open.note_page.Goals as goal

wide_low : (a b : Bool) → (a && not b) ≡ false → b ≡ false → a ≡ false
wide_low true true h e = cc
wide_low true false h e = h
wide_low false b h e = refl

with_absent : (page : ℕ) (pages : List ℕ) → has_page pages page ≡ false → length (with_page page pages) ≡ length pages + 1
with_absent page pages e = rw e (omega arith)

pub invariant_of-self : goal.invariant_of-self
invariant_of-self c =
    let place : IsPlaceFor c.args.page c.place_for-at.result c.self.inside.written.items = subst (λ (ps : List ℕ). IsPlaceFor c.args.page c.place_for-at.result ps) (sym (λ i. (c.self.view_is i).written)) c.place_for-at.ensures in
    let up = subst IsAscending (sym c.in-Ok.ensures.items) (ascending_more c.self.inside.written.items c.args.page c.place_for-at.result c.self.invariant.0 place) in
    let room = c.self.invariant.1 in
    let more = c.insert.ensures.capacity in
    let absent : has_page c.args.self.now.written c.args.page ≡ false = sym c.has_written.ensures ∙ c.if-not-has_written.true in
    let same : HaveSamePages (insert c.args.self.now.written c.place_for-at.result c.args.page) (with_page c.args.page c.args.self.now.written) =
    one_more c.args.self.now.written c.args.page c.place_for-at.result absent c.place_for-at.ensures.within in
    let items : c.insert.new.self.items ≡ insert c.args.self.now.written c.place_for-at.result c.args.page =
    c.in-Ok.ensures.items ∙ ap (λ (ps : List ℕ). insert ps c.place_for-at.result c.args.page) (λ i. (c.self.view_is i).written) in
    let long : length c.insert.new.self.items ≡ length c.args.self.now.written + 1 = ap length items ∙ same.count ∙ with_absent c.args.page c.args.self.now.written absent in
    let low = leb-false _ _ (wide_low _ _ c.requires absent) in
    (up, omega (arith, room, more), omega (arith, long, low))

pub returns-in-Ok : goal.returns-in-Ok
returns-in-Ok c =
    let absent : has_page c.args.self.now.written c.args.page ≡ false = sym c.has_written.ensures ∙ c.if-not-has_written.true in
    let more : HaveSamePages (insert c.args.self.now.written c.place_for-at.result c.args.page) (with_page c.args.page c.args.self.now.written) =
    one_more c.args.self.now.written c.args.page c.place_for-at.result absent c.place_for-at.ensures.within in
    let items : c.insert.new.self.items ≡ insert c.args.self.now.written c.place_for-at.result c.args.page =
    c.in-Ok.ensures.items ∙ ap (λ (ps : List ℕ). insert ps c.place_for-at.result c.args.page) (λ i. (c.self.view_is i).written) in
    record {
      known = λ i. (c.self.view_is i).known;
      written = subst (λ (ps : List ℕ). HaveSamePages ps (with_page c.args.page c.args.self.now.written)) (sym items) more;
    }
