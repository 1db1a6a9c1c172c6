-- Each event keeps a cut sound while it is copied.
use Rattle.std.proofs.Common.{arith, ◌≡◌, ℕ, ◌<◌, true, false, List, length, get_or, Option, Some, None, refl, sym, subst, ap, ◌∙◌, inl, inr}
use Rattle.std.specs.Option.{is_some}
use Rattle.std.proofs.lemmas.Bool.{cases_Bool, cases_eq}
use Rattle.std.proofs.lemmas.List.{get_or-set_same, get_or-set_other}
use Rattle.object_graph.specs.NameParts.{NameParts}
use Rattle.object_graph.specs.declared.calls.Call.{Call}
use Rattle.object_graph.specs.declared.calls.Call.TheVariants.{New, Commit, Copy, HandIn, Sweep, Reopen}
use Rattle.object_graph.specs.declared.calls.Reply.{Reply}
use Rattle.object_graph.specs.declared.calls.Reply.TheVariants.{Refused}
use Rattle.object_graph.specs.declared.calls.Refusal.{Refusal}
use Rattle.object_graph.specs.declared.calls.Refusal.TheVariants.{DiskFault}
use Rattle.store_model.specs.Worlds.{World, Transaction, Opening, Note, transaction}
use Rattle.store_model.specs.Causes.{has_page, first_refusal, new_name}
use Rattle.store_model.specs.Replies.{AllowsReply}
use Rattle.store_model.specs.Steps.{after_refusal, after_answer, after_reply, with_new}
use Rattle.object_graph.proofs.Members.{In}
use Rattle.store_model.proofs.Opened.{commit_is_open}
use Rattle.store_model.specs.Lawful.{IsOrderly}
use Rattle.store_model.specs.States.{State, state_of, state_after}
use Rattle.cut_model.specs.States.{KeepsOpening}
use Rattle.cut_model.specs.CutPages.{CopyParts, AfterImage, CutPage, bare_page, with_copy}
use Rattle.cut_model.specs.Sound.{IsSound, IsFit}
use Rattle.cut_model.specs.Frames.{copy_now}
use Rattle.cut_model.specs.Changes.{IsCutAfter, Adds, ChangesBy, Changes, GivesImages, GivesImagesBy, ends_copying}
use Rattle.cut_model.proofs.Fits.{fit_copy_keeps_cut, frame_keeps_cut}
use Rattle.cut_model.proofs.Commits.{commit_keeps_cut, fit_stays_written, fit_stays_other}

pub state-with_new : (w : World) (t : ℕ) (name : Option NameParts) → state_of (with_new w t name) ≡ state_of w
state-with_new w t None = refl
state-with_new w t (Some name) = refl

pub state-after_refusal : (w : World) (call : Call) (note : Note) (why : Refusal) → state_of (after_refusal w call note why) ≡ state_of w
state-after_refusal w call note DiskFault = refl
state-after_refusal w call note _ = refl

answer_keeps_sound : (w : World) (opening : Opening) (call : Call) (note : Note) (reply : Reply) (pages after : List CutPage) → IsOrderly w → KeepsOpening w opening
    → first_refusal w call note ≡ None → ends_copying call ≡ false → ChangesBy w opening call pages after
    → IsSound (state_of w) opening pages → IsSound (state_of (after_answer w call note reply)) opening after
answer_keeps_sound w opening (New t page) note reply pages after lawful keeps may stays changes sound =
    subst (λ s. IsSound s opening after) (sym (state-with_new w t (new_name w t page))) (subst (IsSound (state_of w) opening) (sym changes) sound)
answer_keeps_sound w opening (Commit t) note reply pages after lawful keeps may stays changes sound =
    commit_keeps_cut w (transaction w t) opening pages after lawful (commit_is_open w t note may) keeps changes sound
answer_keeps_sound w opening (Copy page) note reply pages after lawful keeps may stays changes sound =
    subst (IsSound (state_of w) opening) (sym changes.1) (frame_keeps_cut w opening pages page lawful keeps sound changes.0)
answer_keeps_sound w opening (HandIn page number seen) note reply pages after lawful keeps may stays changes sound =
    subst (IsSound (state_of w) opening) (sym changes.2.1) (fit_copy_keeps_cut (state_of w) opening pages page changes.0 sound changes.2.0 changes.1)
answer_keeps_sound w opening (Sweep page) note reply pages after lawful keeps may stays changes sound = cc
answer_keeps_sound w opening Reopen note reply pages after lawful keeps may stays changes sound = cc
answer_keeps_sound w opening _ note reply pages after lawful keeps may stays changes sound = subst (IsSound (state_of w) opening) (sym changes) sound

-- while a cut is copied, each allowed event keeps it sound
pub event_keeps_sound : (w : World) (opening : Opening) (call : Call) (note : Note) (reply : Reply) (pages after : List CutPage) → IsOrderly w → KeepsOpening w opening
    → AllowsReply w call note reply → ends_copying call ≡ false → Changes w opening call reply pages after
    → IsSound (state_of w) opening pages → IsSound (state_of (after_reply w call note reply)) opening after
event_keeps_sound w opening call note (Refused why) pages after lawful keeps may stays changes sound =
    subst (λ s. IsSound s opening after) (sym (state-after_refusal w call note why)) (subst (IsSound (state_of w) opening) (sym changes) sound)
event_keeps_sound w opening call note reply pages after lawful keeps may stays changes sound =
    answer_keeps_sound w opening call note reply pages after lawful keeps may.0 stays changes sound

-- ---- a fit copy stays fit

abbrev GivesOf : Transaction → List CutPage → Type 0
GivesOf t after = (page : ℕ) → page < length after → has_page t.pages_written page ≡ true → is_some (get_or after page bare_page).after ≡ true

fit_commit : (w : World) (t : Transaction) (opening : Opening) (pages after : List CutPage) (page : ℕ) (c : CopyParts) → IsOrderly w → In t w.transactions → page < length pages
    → IsCutAfter w t pages after → GivesOf t after → IsFit (state_of w) opening page (get_or pages page bare_page) c → IsFit (state_after w t) opening page (get_or after page bare_page) c
fit_commit w t opening pages after page c lawful m within is given fit = elim (cases_Bool (has_page t.pages_written page)) [
  | inl e ↦ elim (is.written page within e) [
    | inl q ↦ subst (λ p. IsFit (state_after w t) opening page p c) (sym q) (elim fit [
      | inl there ↦ inl there
      | inr f ↦ inr (fit_stays_written w t opening page (is.made page) (get_or pages page bare_page) c f)
    ])
    | inr skipped ↦
        let some = given page (let l = is.all in omega arith) e in
        let none : (get_or after page bare_page).after ≡ None = ap (λ (p : CutPage). p.after) skipped.2 ∙ skipped.1 in
        let z : is_some (get_or after page bare_page).after ≡ false = ap (λ (o : Option AfterImage). is_some o) none in
        cc
  ]
  | inr e ↦ subst (λ p. IsFit (state_after w t) opening page p c) (sym (is.others page e)) (elim fit [
    | inl there ↦ inl there
    | inr f ↦ inr (fit_stays_other w t opening page (get_or pages page bare_page) c lawful m e f)
  ])
]

-- another copy is added
fit_beside : (s : State) (opening : Opening) (pages after : List CutPage) (page other : ℕ) (c d : CopyParts) → Adds other d pages after
    → IsFit s opening page (get_or pages page bare_page) c → IsFit s opening page (get_or after page bare_page) c
fit_beside s opening pages after page other c d adds fit = elim (cases_eq page other) [
  | inl e ↦
      let g : get_or after other bare_page ≡ with_copy d (get_or pages other bare_page) =
      ap (λ ps. get_or ps other bare_page) adds.1 ∙ get_or-set_same pages other (with_copy d (get_or pages other bare_page)) bare_page adds.0 in
      inl (subst (λ k. is_some (get_or after k bare_page).copy ≡ true) (sym e) (ap (λ (p : CutPage). is_some p.copy) g))
  | inr e ↦
      let g : get_or after page bare_page ≡ get_or pages page bare_page =
      ap (λ ps. get_or ps page bare_page) adds.1 ∙ get_or-set_other pages other page (with_copy d (get_or pages other bare_page)) bare_page e in
      subst (λ p. IsFit s opening page p c) (sym g) fit
]

answer_keeps_fit : (w : World) (opening : Opening) (call : Call) (note : Note) (reply : Reply) (pages after : List CutPage) (page : ℕ) (c : CopyParts) → IsOrderly w
    → page < length pages → first_refusal w call note ≡ None → ends_copying call ≡ false → ChangesBy w opening call pages after → GivesImagesBy w call after
    → IsFit (state_of w) opening page (get_or pages page bare_page) c → IsFit (state_of (after_answer w call note reply)) opening page (get_or after page bare_page) c
answer_keeps_fit w opening (New t p) note reply pages after page c lawful within may stays changes given fit =
    subst (λ s. IsFit s opening page (get_or after page bare_page) c) (sym (state-with_new w t (new_name w t p)))
    (subst (λ ps. IsFit (state_of w) opening page (get_or ps page bare_page) c) (sym changes) fit)
answer_keeps_fit w opening (Commit t) note reply pages after page c lawful within may stays changes given fit =
    fit_commit w (transaction w t) opening pages after page c lawful (commit_is_open w t note may) within changes given fit
answer_keeps_fit w opening (Copy p) note reply pages after page c lawful within may stays changes given fit = fit_beside (state_of w) opening pages after page p c (copy_now w p) changes fit
answer_keeps_fit w opening (HandIn p number seen) note reply pages after page c lawful within may stays changes given fit = fit_beside (state_of w) opening pages after page p c changes.0 changes.2 fit
answer_keeps_fit w opening (Sweep p) note reply pages after page c lawful within may stays changes given fit = cc
answer_keeps_fit w opening Reopen note reply pages after page c lawful within may stays changes given fit = cc
answer_keeps_fit w opening _ note reply pages after page c lawful within may stays changes given fit =
    subst (λ ps. IsFit (state_of w) opening page (get_or ps page bare_page) c) (sym changes) fit

pub event_keeps_fit : (w : World) (opening : Opening) (call : Call) (note : Note) (reply : Reply) (pages after : List CutPage) (page : ℕ) (c : CopyParts) → IsOrderly w
    → page < length pages → AllowsReply w call note reply → ends_copying call ≡ false → Changes w opening call reply pages after → GivesImages w call reply after
    → IsFit (state_of w) opening page (get_or pages page bare_page) c → IsFit (state_of (after_reply w call note reply)) opening page (get_or after page bare_page) c
event_keeps_fit w opening call note (Refused why) pages after page c lawful within may stays changes given fit =
    subst (λ s. IsFit s opening page (get_or after page bare_page) c) (sym (state-after_refusal w call note why))
    (subst (λ ps. IsFit (state_of w) opening page (get_or ps page bare_page) c) (sym changes) fit)
event_keeps_fit w opening call note reply pages after page c lawful within may stays changes given fit =
    answer_keeps_fit w opening call note reply pages after page c lawful within may.0 stays changes given fit
