use Rattle.std.proofs.Common.{◌≡◌, ◌-◌, ℕ, List, [], ◌∷◌, ◌++◌, length, take, refl, sym, ◌∙◌, ap, subst, append-nil, inl}
use Rattle.std.proofs.lemmas.List.{length-map}
use Rattle.object_graph.specs.NameParts.{NameParts}
use Rattle.object_graph.proofs.Members.{In, append_right}
use Rattle.page_image.specs.Pages.{PageParts}
use Rattle.image_model.specs.Opening.{page_slots}
use Rattle.recovery.proofs.Marking.{begins, follows, walked}
use Rattle.recovery.proofs.reached.first_dangling.Goals as goal

pub walk-init : goal.walk-init
walk-init c =
    begins (page_slots c.args.pages.now) c.root.result c.new-todo.result.items c.in_ok-marks.marks.items c.deref_mut.result.now c.mark.new.marks c.in_ok-marks.marks.len c.empty.result (length c.args.pages.now)
    c.mark.new.todo.items (c.in_ok-marks.ensures.items_if_clones_equal (λ y e. e)) c.empty.ensures.value c.empty.ensures.none (length-map c.args.pages.now (λ (p : PageParts). p.slots)) c.deref_mut.ensures.value
    c.in_ok-marks.marks.ok.0 c.new-todo.ensures.items c.root.ensures c.requires c.in_ok-mark.ensures

pub follow_from-requires-clause-used : goal.follow_from-requires-clause-used
follow_from-requires-clause-used c =
    (c.walk.invariant.used c.in-Some.name (subst (λ (l : List NameParts). In c.in-Some.name l) (sym c.in-Some.ensures.items) (append_right c.pop.new.self.items (c.in-Some.name ∷ []) c.in-Some.name (inl refl)))).0

pub walk-preserved : goal.walk-preserved
walk-preserved c =
    follows (page_slots c.args.pages.now) c.walk.todo.items c.pop.new.self.items c.in-Some.name c.walk.marks.items c.deref_mut-in-Some.result.now c.follow_from.new.marks c.walk.marks.len c.follow_from.new.todo.items c.walk.least c.follow_from.new.least
    c.in-Some.ensures.items c.deref_mut-in-Some.ensures.value c.walk.marks.ok.0 c.walk.invariant c.in_ok-follow_from.ensures.marked c.in_ok-follow_from.ensures.noted

nothing_left : (n : ℕ) (whole rest : List NameParts) → whole ≡ rest ++ [] → n ≡ 0 → rest ≡ take (n - 1) whole → whole ≡ []
nothing_left n whole rest e zero is = e ∙ (append-nil rest ∙ (is ∙ ap (λ k. take (k - 1) whole) zero))

pub returns : goal.returns
returns c =
    walked (page_slots c.args.pages.now) c.walk.todo.items c.walk.marks.items c.walk.least
    (nothing_left _ c.walk.todo.items c.pop.new.self.items c.in_default.ensures.items c.in_default.ensures.cases.0 c.in_default.ensures.rest) c.walk.invariant
