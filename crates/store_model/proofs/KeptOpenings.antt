-- A cut keeps its opening, and a later cut has a later number.
use Rattle.std.proofs.Common.{◌≡◌, ℕ, ◌+◌, ◌<◌, ◌≤◌, not, List, [], ◌∷◌, Option, Some, None, refl, sym, subst, ◌∙◌, ◌⊎◌, inl, inr, arith, IsTrue}
use Rattle.std.specs.Option.{option_map, MatchOption}
use Rattle.std.proofs.lemmas.Bool.{and_from}
use Rattle.object_graph.specs.NameParts.{NameParts}
use Rattle.object_graph.specs.Graphs.{has_object, has_name}
use Rattle.object_graph.specs.declared.calls.Call.{Call}
use Rattle.object_graph.specs.declared.calls.Call.TheVariants.{New, OpenCut, Copy, HandIn, Close, Mark, Sweep, EndCut, DropCut, Reopen}
use Rattle.object_graph.specs.declared.calls.Phase.TheVariants.{Closed, Sweeping}
use Rattle.object_graph.specs.declared.calls.Reply.{Reply}
use Rattle.object_graph.specs.declared.calls.Reply.TheVariants.{Refused}
use Rattle.object_graph.specs.declared.calls.Refusal.{Refusal}
use Rattle.object_graph.specs.declared.calls.Refusal.TheVariants.{DiskFault}
use Rattle.store_model.specs.Worlds.{World, OpenedCut, Opening, Note, Event, IsLost, IsReached, is_freed}
use Rattle.store_model.specs.Causes.{new_name, first_refusal}
use Rattle.store_model.specs.Steps.{opening_of, cut_opened, has_swept, with_page, with_new, after_refusal, after_answer, after_reply, next}
use Rattle.store_model.specs.Histories.{after, IsLegal}
use Rattle.store_model.specs.Lawful.{IsLawful}
use Rattle.store_model.proofs.Lawfulness.{ended_has_freed, history_is_lawful}

-- the cut that opened so, or a later one
abbrev pub IsSameOrLater : ℕ → Opening → OpenedCut → Type 0
IsSameOrLater number opening c = ((c.number ≡ number) × (c.opening ≡ opening)) ⊎ (number < c.number)

pub record KeepsCut (number : ℕ) (opening : Opening) (w : World) : Type 0 where
  pub last : number ≤ w.last_cut
  pub cut : MatchOption w.cut (Unit {0}) (IsSameOrLater number opening)

changed_keeps : (number : ℕ) (opening : Opening) (o : Option OpenedCut) (change : OpenedCut → OpenedCut) → ((c : OpenedCut) → ((change c).number ≡ c.number) × ((change c).opening ≡ c.opening))
    → MatchOption o (Unit {0}) (IsSameOrLater number opening) → MatchOption (option_map change o) (Unit {0}) (IsSameOrLater number opening)
changed_keeps number opening None change same h = tt
changed_keeps number opening (Some c) change same h = elim h [
  | inl a ↦ inl ((same c).0 ∙ a.0, (same c).1 ∙ a.1)
  | inr lt ↦ inr (let s = (same c).0 in omega (arith, lt, s))
]

new_keeps : (number : ℕ) (opening : Opening) (w : World) (t : ℕ) (name : Option NameParts) → KeepsCut number opening w → KeepsCut number opening (with_new w t name)
new_keeps number opening w t None k = k
new_keeps number opening w t (Some name) k = record { last = k.last; cut = k.cut }

answer_keeps : (number : ℕ) (opening : Opening) (w : World) (call : Call) (note : Note) (reply : Reply) → KeepsCut number opening w → KeepsCut number opening (after_answer w call note reply)
answer_keeps number opening w (New t page) note reply k = new_keeps number opening w t (new_name w t page) k
answer_keeps number opening w OpenCut note reply k = record { last = let l = k.last in omega (arith, l); cut = inr (let l = k.last in omega (arith, l)) }
answer_keeps number opening w (Copy page) note reply k =
    record { last = k.last; cut = changed_keeps number opening w.cut (λ cut. record cut { copied = with_page page cut.copied }) (λ c. (refl, refl)) k.cut }
answer_keeps number opening w (HandIn page n seen) note reply k =
    record { last = k.last; cut = changed_keeps number opening w.cut (λ cut. record cut { copied = with_page page cut.copied }) (λ c. (refl, refl)) k.cut }
answer_keeps number opening w Close note reply k = record { last = k.last; cut = changed_keeps number opening w.cut (λ cut. record cut { phase = Closed }) (λ c. (refl, refl)) k.cut }
answer_keeps number opening w (Mark workers) note reply k = record { last = k.last; cut = changed_keeps number opening w.cut (λ cut. record cut { phase = Sweeping }) (λ c. (refl, refl)) k.cut }
answer_keeps number opening w (Sweep page) note reply k = record { last = k.last; cut = changed_keeps number opening w.cut (has_swept page) (λ c. (refl, refl)) k.cut }
answer_keeps number opening w EndCut note reply k = record { last = k.last; cut = tt }
answer_keeps number opening w DropCut note reply k = record { last = k.last; cut = tt }
answer_keeps number opening w Reopen note reply k = record { last = k.last; cut = tt }
answer_keeps number opening w _ note reply k = record { last = k.last; cut = k.cut }

refusal_keeps : (number : ℕ) (opening : Opening) (w : World) (call : Call) (note : Note) (why : Refusal) → KeepsCut number opening w → KeepsCut number opening (after_refusal w call note why)
refusal_keeps number opening w call note DiskFault k = record { last = k.last; cut = k.cut }
refusal_keeps number opening w call note _ k = k

reply_keeps : (number : ℕ) (opening : Opening) (w : World) (call : Call) (note : Note) (reply : Reply) → KeepsCut number opening w → KeepsCut number opening (after_reply w call note reply)
reply_keeps number opening w call note (Refused why) k = refusal_keeps number opening w call note why k
reply_keeps number opening w call note reply k = answer_keeps number opening w call note reply k

pub history_keeps : (number : ℕ) (opening : Opening) (w : World) (events : List Event) → KeepsCut number opening w → KeepsCut number opening (after w events)
history_keeps number opening w [] k = k
history_keeps number opening w (e ∷ events) k = history_keeps number opening (next w e) events (reply_keeps number opening w e.entry.call e.note e.entry.reply k)

same_opening : (number : ℕ) (opening : Opening) (w : World) (cut : OpenedCut) → KeepsCut number opening w → w.cut ≡ Some cut → cut.number ≡ number → cut.opening ≡ opening
same_opening number opening w cut k is n =
    let h : IsSameOrLater number opening cut = subst (λ (o : Option OpenedCut). MatchOption o (Unit {0}) (IsSameOrLater number opening)) is k.cut in
    elim h [ inl a ↦ a.1 | inr lt ↦ absurd (omega (arith, lt, n)) ]

-- from the opening of a cut on, to the world in which it may end
pub freed_from_opening : (w : World) (events : List Event) (cut : OpenedCut) (note : Note) (name : NameParts) → IsLawful (cut_opened w) → IsLegal (cut_opened w) events
    → (after (cut_opened w) events).cut ≡ Some cut → cut.number ≡ w.last_cut + 1 → first_refusal (after (cut_opened w) events) EndCut note ≡ None
    → IsTrue (has_object w.graph name) → IsTrue (not (is_freed w name)) → ¬ IsReached w name → IsTrue (is_freed (after (cut_opened w) events) name)
freed_from_opening w events cut note name lawful legal is number may there unfreed unreached =
    let k0 : KeepsCut (w.last_cut + 1) (opening_of w) (cut_opened w) = record { last = omega arith; cut = inl (refl, refl) } in
    let same = same_opening (w.last_cut + 1) (opening_of w) (after (cut_opened w) events) cut (history_keeps (w.last_cut + 1) (opening_of w) (cut_opened w) events k0) is number in
    let lost : IsLost (opening_of w) name = record { old = and_from (has_object w.graph name) (not (has_name w.freed name)) there unfreed; unreached = unreached } in
    ended_has_freed (after (cut_opened w) events) cut note name (history_is_lawful (cut_opened w) events lawful legal) is may (subst (λ (o : Opening). IsLost o name) (sym same) lost)

-- ---- the cut that is there is the last that was opened

abbrev pub HasLastCut : World → Type 0
HasLastCut w = MatchOption w.cut (Unit {0}) (λ cut. cut.number ≡ w.last_cut)

changed_last : (last : ℕ) (o : Option OpenedCut) (change : OpenedCut → OpenedCut) → ((c : OpenedCut) → (change c).number ≡ c.number)
    → MatchOption o (Unit {0}) (λ cut. cut.number ≡ last) → MatchOption (option_map change o) (Unit {0}) (λ cut. cut.number ≡ last)
changed_last last None change same h = tt
changed_last last (Some c) change same h = same c ∙ h

new_last : (w : World) (t : ℕ) (name : Option NameParts) → HasLastCut w → HasLastCut (with_new w t name)
new_last w t None h = h
new_last w t (Some name) h = h

answer_last : (w : World) (call : Call) (note : Note) (reply : Reply) → HasLastCut w → HasLastCut (after_answer w call note reply)
answer_last w (New t page) note reply h = new_last w t (new_name w t page) h
answer_last w OpenCut note reply h = refl
answer_last w (Copy page) note reply h = changed_last w.last_cut w.cut (λ cut. record cut { copied = with_page page cut.copied }) (λ c. refl) h
answer_last w (HandIn page n seen) note reply h = changed_last w.last_cut w.cut (λ cut. record cut { copied = with_page page cut.copied }) (λ c. refl) h
answer_last w Close note reply h = changed_last w.last_cut w.cut (λ cut. record cut { phase = Closed }) (λ c. refl) h
answer_last w (Mark workers) note reply h = changed_last w.last_cut w.cut (λ cut. record cut { phase = Sweeping }) (λ c. refl) h
answer_last w (Sweep page) note reply h = changed_last w.last_cut w.cut (has_swept page) (λ c. refl) h
answer_last w EndCut note reply h = tt
answer_last w DropCut note reply h = tt
answer_last w Reopen note reply h = tt
answer_last w _ note reply h = h

refusal_last : (w : World) (call : Call) (note : Note) (why : Refusal) → HasLastCut w → HasLastCut (after_refusal w call note why)
refusal_last w call note DiskFault h = h
refusal_last w call note _ h = h

reply_last : (w : World) (call : Call) (note : Note) (reply : Reply) → HasLastCut w → HasLastCut (after_reply w call note reply)
reply_last w call note (Refused why) h = refusal_last w call note why h
reply_last w call note reply h = answer_last w call note reply h

pub history_last : (w : World) (events : List Event) → HasLastCut w → HasLastCut (after w events)
history_last w [] h = h
history_last w (e ∷ events) h = history_last (next w e) events (reply_last w e.entry.call e.note e.entry.reply h)
