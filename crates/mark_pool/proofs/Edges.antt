-- Marks along edges, and when the claims are exactly the marks.
use Rattle.std.proofs.Common.{◌≡◌, ℕ, ◌<◌, ◌≤◌, ◌==◌, Bool, true, false, ◌&&◌, Some, List, [], ◌∷◌, length, refl, sym, subst, ap, ◌∙◌, inl, inr, arith}
use Rattle.std.specs.List.{list_any}
use mathlib.Core.Logic.{dite}
use native.Mathlib.Decide.{ℕ_discrete}
use Rattle.std.proofs.lemmas.Bool.{and_parts, and_from, eqb-true, eq-eqb, cases_lt}
use Rattle.std.proofs.lemmas.List.{get_or_past}
use Rattle.std.proofs.lemmas.Nat.Bits.{bit_at-zero}
use Rattle.object_graph.specs.NameParts.{NameParts}
use Rattle.object_graph.specs.Names.{name_eq, root_name}
use Rattle.object_graph.specs.SlotParts.{SlotParts}
use Rattle.object_graph.specs.Slots.{has_slot}
use Rattle.object_graph.specs.ObjectParts.{ObjectParts}
use Rattle.object_graph.specs.Graphs.{is_to, has_object, refers, IsPath}
use Rattle.object_graph.proofs.Members.{In, any_in, in_any}
use Rattle.object_graph.proofs.Paths.{has_object_in, has_name_in, name_eq_same, name_eq_refl, path_first, reached_more}
use Rattle.store_model.specs.Images.{object_in}
use Rattle.store_model.proofs.Committed.{path_last}
use Rattle.page_image.specs.Pages.{IsPage, slot_at}
use Rattle.cut_model.specs.CutPages.{cut_graph}
use Rattle.cut_model.specs.Doomed.{AreMarks}
use Rattle.cut_builder.specs.CutParts.{ClosedParts, cut_starts, marks_of, page_in_cut, image_of, as_page, HasOneNameEach}
use Rattle.mark_pool.specs.declared.place.Place.{Place}
use Rattle.mark_pool.specs.Edges.{place, IsMarkAt, IsEdge}
use Rattle.mark_pool.specs.Marks.{times}
use Rattle.mark_pool.specs.Walks.{IsTarget, AreMarked, IsFollowed, AreClosedOn, ClaimsRoot, AreClaims}
use Rattle.mark_pool.proofs.Images.{IsAtPlace, at_place, in_graph, on_page, slot_is, free_refers_to_none}

-- the object from which an edge goes
record HasReference (cut : ClosedParts) (source target : NameParts) : Type 0 where
  object : ObjectParts
  among : In object (cut_graph cut.pages)
  named : object.name ≡ source
  refers_to : list_any (is_to target) object.refs ≡ true

reference : (cut : ClosedParts) (source target : NameParts) → refers (cut_graph cut.pages) source target ≡ true → HasReference cut source target
reference cut source target h =
    let a = any_in (λ o. name_eq o.name source && list_any (is_to target) o.refs) (cut_graph cut.pages) h in
    let o : ObjectParts = a.0 in
    let b = and_parts (name_eq o.name source) (list_any (is_to target) o.refs) a.2 in
    record { object = o; among = a.1; named = name_eq_same o.name source b.0; refers_to = b.1 }

-- the target of a mark is a mark
pub mark_along : (cut : ClosedParts) (page slot : ℕ) (to : Place) → HasOneNameEach cut.pages → IsMarkAt cut page slot → IsEdge cut page slot to → IsMarkAt cut to.page to.slot
mark_along cut page slot to names mark edge =
    let graph = cut_graph cut.pages in
    let name : NameParts = mark.0 in
    let there = has_object_in graph name (path_last graph mark.1.0 mark.1.2.0 name mark.1.2.1) in
    let from = reference cut edge.source edge.target edge.refers_to in
    let p : there.0.name.page ≡ from.object.name.page = ap (λ (n : NameParts). n.page) there.2 ∙ (mark.2 ∙ (sym edge.source_page ∙ sym (ap (λ (n : NameParts). n.page) from.named))) in
    let s : there.0.name.slot ≡ from.object.name.slot = ap (λ (n : NameParts). n.slot) there.2 ∙ (mark.3 ∙ (sym edge.source_slot ∙ sym (ap (λ (n : NameParts). n.slot) from.named))) in
    let same : edge.source ≡ name = sym from.named ∙ (sym (names.once there.0 from.object there.1 from.among p s) ∙ there.2) in
    let refers_to = subst (λ n. refers graph n edge.target ≡ true) same edge.refers_to in
    (edge.target, reached_more graph (cut_starts cut) name edge.target mark.1 refers_to edge.in_use, edge.target_page, edge.target_slot)

-- a reference in an image is an edge
edge_of : (cut : ClosedParts) (page slot which : ℕ) (slots : List SlotParts) (to : NameParts) → page < length cut.pages → image_of (page_in_cut cut.pages page) which ≡ Some slots
    → (slot_at (as_page page slots) slot).in_use ≡ true → IsTarget cut (slot_at (as_page page slots) slot).refs to → IsEdge cut page slot (place to.page to.slot)
edge_of cut page slot which slots to within image used target =
    let graph = cut_graph cut.pages in
    let s : SlotParts = slot_at (as_page page slots) slot in
    let o : ObjectParts = object_in page slot s in
    record {
      source = o.name;
      target = to;
      refers_to = in_any (λ x. name_eq x.name o.name && list_any (is_to to) x.refs) graph o (in_graph cut.pages page which slots slot within image used) (and_from (name_eq o.name o.name) (list_any (is_to to) o.refs) (name_eq_refl o.name) target.refers_to);
      in_use = target.in_use;
      source_page = refl;
      source_slot = refl;
      target_page = refl;
      target_slot = refl;
    }

-- the targets of a marked object are marks
-- the targets of what is in a slot at a mark are marks
pub targets_are_marked : (cut : ClosedParts) (page slot which : ℕ) (slots : List SlotParts) → HasOneNameEach cut.pages → page < length cut.pages
    → image_of (page_in_cut cut.pages page) which ≡ Some slots → IsPage (as_page page slots) → IsMarkAt cut page slot
    → AreMarked cut (slot_at (as_page page slots) slot).refs
targets_are_marked cut page slot which slots names within image is mark to target = by_use (slot_at (as_page page slots) slot).in_use refl
  where
    by_use : (used : Bool) → (slot_at (as_page page slots) slot).in_use ≡ used → IsMarkAt cut to.page to.slot
    by_use true used = mark_along cut page slot (place to.page to.slot) names mark (edge_of cut page slot which slots to within image used target)
    by_use false free = let none = free_refers_to_none (slot_at (as_page page slots) slot) to (slot_is (as_page page slots) slot is) free in let set = target.refers_to in cc

follow_which : (cut : ClosedParts) (page slot : ℕ) (seen : List Place) → IsFollowed cut page slot 0 seen → IsFollowed cut page slot 1 seen → IsFollowed cut page slot 2 seen
    → (which : ℕ) → which < 3 → IsFollowed cut page slot which seen
follow_which cut page slot seen current before after which low = dite (ℕ_discrete which 0)
    (λ e. subst (λ k. IsFollowed cut page slot k seen) (sym e) current)
    (λ n. dite (ℕ_discrete which 1)
    (λ e. subst (λ k. IsFollowed cut page slot k seen) (sym e) before)
    (λ m. let e : 2 ≡ which = omega (arith, low, n, m) in subst (λ k. IsFollowed cut page slot k seen) e after))

-- where the references in all images were followed, all targets were seen marked
pub all_followed : (cut : ClosedParts) (page slot : ℕ) (seen : List Place) → IsFollowed cut page slot 0 seen → IsFollowed cut page slot 1 seen → IsFollowed cut page slot 2 seen
    → (to : Place) → IsEdge cut page slot to → 0 < times to.page to.slot seen
all_followed cut page slot seen current before after to edge =
    let from = reference cut edge.source edge.target edge.refers_to in
    let p : from.object.name.page ≡ page = ap (λ (n : NameParts). n.page) from.named ∙ edge.source_page in
    let s : from.object.name.slot ≡ slot = ap (λ (n : NameParts). n.slot) from.named ∙ edge.source_slot in
    let there = subst (λ (z : ℕ × ℕ). IsAtPlace cut.pages z.0 z.1 from.object) (λ i. (p i, s i)) (at_place cut.pages from.object from.among) in
    let refs = subst (λ (o : ObjectParts). list_any (is_to edge.target) o.refs ≡ true) there.is from.refers_to in
    let h = follow_which cut page slot seen current before after there.which there.below_three there.slots there.image there.in_use edge.target (record { refers_to = refs; in_use = edge.in_use }) in
    subst (λ (z : ℕ × ℕ). 0 < times z.0 z.1 seen) (λ i. (edge.target_page i, edge.target_slot i)) h

-- ---- the claims are the marks

-- a path that starts in claims with all their targets ends in them
path_claimed : (cut : ClosedParts) (claims : List Place) (first : NameParts) (rest : List NameParts) (last : NameParts) → AreClosedOn cut claims (length cut.pages)
    → IsPath (cut_graph cut.pages) first rest last → 0 < times first.page first.slot claims → 0 < times last.page last.slot claims
path_claimed cut claims first [] last closed p h = subst (λ (n : NameParts). 0 < times n.page n.slot claims) p.0 h
path_claimed cut claims first (n ∷ ns) last closed p h =
    let graph = cut_graph cut.pages in
    let edge : IsEdge cut first.page first.slot (place n.page n.slot) = record {
      source = first;
      target = n;
      refers_to = p.0;
      in_use = path_first graph n ns last p.2;
      source_page = refl;
      source_slot = refl;
      target_page = refl;
      target_slot = refl;
    } in
    path_claimed cut claims n ns last closed p.2 (closed first.page (on_page cut.pages first p.1) first.slot (place n.page n.slot) h edge)

all_claimed : (cut : ClosedParts) (claims : List Place) (name : NameParts) → ClaimsRoot cut claims → AreClosedOn cut claims (length cut.pages)
    → (mark : IsMarkAt cut name.page name.slot) → 0 < times name.page name.slot claims
all_claimed cut claims name rooted closed mark =
    let graph = cut_graph cut.pages in
    let start : NameParts = mark.1.0 in
    let is_root : start ≡ root_name = elim (has_name_in (cut_starts cut) start mark.1.1) [ inl e ↦ e | inr z ↦ absurd z ] in
    let there : has_object graph start ≡ true = path_first graph start mark.1.2.0 mark.0 mark.1.2.1 in
    let root = rooted (subst (λ n. has_object graph n ≡ true) is_root there) in
    let h = path_claimed cut claims start mark.1.2.0 mark.0 closed mark.1.2.1 (subst (λ (n : NameParts). 0 < times n.page n.slot claims) (sym is_root) root) in
    subst (λ (z : ℕ × ℕ). 0 < times z.0 z.1 claims) (λ i. (mark.2 i, mark.3 i)) h

-- the root is a mark where it is in use
pub root_is_marked : (cut : ClosedParts) → has_object (cut_graph cut.pages) root_name ≡ true → IsMarkAt cut 0 0
root_is_marked cut h = (root_name, (root_name, refl, ([], (refl, h))), refl, refl)

no_mark_past : (marks : List ℕ) (page slot : ℕ) → length marks ≤ page → has_slot (marks_of marks page) slot ≡ false
no_mark_past marks page slot past =
    let z : marks_of marks page ≡ 0 = get_or_past marks page 0 past in
    ap (λ n. has_slot n slot) z ∙ ap (λ b. b == 1) (bit_at-zero slot)

-- so the sets are exactly the marks
pub exact : (cut : ClosedParts) (claims : List Place) (marks : List ℕ) → length marks ≡ length cut.pages → ClaimsRoot cut claims → AreClosedOn cut claims (length cut.pages)
    → AreClaims cut claims marks → AreMarks (cut_starts cut) cut.pages (marks_of marks)
exact cut claims marks long rooted closed are = λ page slot. (
  λ h. elim (cases_lt page (length marks)) [
    | inl low ↦
        let one = eqb-true (times page slot claims) 1 (sym (are.sets page slot low) ∙ h) in
        are.sound page slot low (omega (arith, one))
    | inr past ↦ let z = no_mark_past marks page slot past in cc
  ],
  λ mark.
      let graph = cut_graph cut.pages in
      let has = path_last graph mark.1.0 mark.1.2.0 mark.0 mark.1.2.1 in
      let low : page < length marks = (let q = subst (λ k. k < length cut.pages) mark.2 (on_page cut.pages mark.0 has) in omega (arith, q, long)) in
      let name : NameParts = record { page = page; slot = slot; generation = 0 } in
      let h = all_claimed cut claims name rooted closed mark in
      let few = are.once page slot low in
      are.sets page slot low ∙ eq-eqb (times page slot claims) 1 (omega (arith, h, few)),
)
