-- Each event leaves what stands.
use Rattle.std.proofs.Common.{◌≡◌, ◌≢◌, ℕ, ◌+◌, ◌<◌, Bool, true, false, not, List, [], ◌∷◌, length, get_or, Option, Some, None, refl, sym, subst, ap, ◌∙◌, inl, inr, arith}
use Rattle.std.specs.List.{find, AllByRecursion}
use Rattle.std.specs.Option.{is_some, unwrap_or, option_map, MatchOption}
use Rattle.std.proofs.lemmas.Bool.{cases_Bool, cases_eq, not-false}
use Rattle.std.proofs.lemmas.List.{get_or-set_same, get_or-set_other, length-set, length-replicate}
use Rattle.object_graph.specs.NameParts.{NameParts}
use Rattle.object_graph.specs.declared.calls.Phase.{Phase}
use Rattle.object_graph.specs.declared.calls.Phase.TheVariants.{Copying, Closed, Sweeping}
use Rattle.object_graph.specs.declared.calls.Call.{Call}
use Rattle.object_graph.specs.declared.calls.Call.TheVariants.{Begin, Get, Number, Set, Put, New, Commit, Abort, OpenCut, Copy, HandIn, Close, Mark, Sweep, EndCut, DropCut, Reopen}
use Rattle.object_graph.specs.declared.calls.Reply.{Reply}
use Rattle.object_graph.specs.declared.calls.Reply.TheVariants.{Freed, Refused}
use Rattle.object_graph.specs.declared.calls.Refusal.{Refusal}
use Rattle.object_graph.specs.declared.calls.Refusal.TheVariants.{DiskFault, NoCut, Uncopied}
use Rattle.object_graph.specs.Slots.{below}
use Rattle.store_model.specs.Worlds.{World, Transaction, Opening, OpenedCut, Note, nothing, starts, transaction}
use Rattle.store_model.specs.Causes.{has_page, no_page as page_cause, already_copied, other_cut, wrong_marks, marks_number, already_swept, first_met, first_refusal, broken, is_phase, wrong_phase, missing, uncopied, new_name}
use Rattle.store_model.specs.Replies.{AllowsReply, Answers, MayFree}
use Rattle.store_model.specs.Steps.{with_page, with_cut, with_new, cut_opened, opening_of, swept, has_swept, after_refusal, after_answer, after_reply}
use Rattle.store_model.specs.Worlds.{IsOutOfReach}
use Rattle.object_graph.proofs.Members.{In}
use Rattle.store_model.proofs.Allowed.{when_none, with_page_cases}
use Rattle.store_model.specs.Lawful.{IsOrderly}
use Rattle.store_model.specs.States.{State, state_of, state_after}
use Rattle.cut_model.specs.States.{KeepsOpening}
use Rattle.cut_model.specs.CutPages.{CopyParts, CutPage, bare_page, with_copy}
use Rattle.cut_model.specs.Sound.{IsSound}
use Rattle.cut_model.specs.Frames.{copy_now}
use Rattle.cut_model.specs.Changes.{IsCutAfter, Adds, ChangesBy}
use Rattle.cut_model.specs.Doomed.{KeepsDoomed, AreDoomedOn}
use Rattle.cut_model.specs.Standing.{CutBeside, nothing_copied, starts_after, IsCopying, IsGiven, IsInPhase, IsCutStanding, IsStanding, TurnsIn, TurnsBeside, TurnsOf, Turns}
use Rattle.store_model.proofs.OutOfReach.{Follows, safe_one}
use Rattle.cut_model.proofs.CutGraphs.{cut_graph_safe}
use Rattle.cut_model.proofs.Safety.{closing_keeps_doomed}
use Rattle.cut_model.proofs.Fits.{fit_copy_keeps_cut, frame_keeps_cut}
use Rattle.cut_model.proofs.Commits.{commit_keeps_cut}
use Rattle.store_model.proofs.Opened.{nones, commit_is_open}
use Rattle.store_model.proofs.Keeps.{lost_stays, freed_grows}
use Rattle.cut_model.proofs.Openings.{StateFollows, names_stay, commits_stay, opening_is_kept, empty_cut_is_sound, get-replicate_same}
use Rattle.cut_model.proofs.Sweeps.{doomed_stays, sweep_keeps_doomed, doomed_may_be_freed}
use Rattle.store_model.proofs.Lists.{with_page_has, with_page_keeps, find_none_each, in_below}
use Rattle.store_model.proofs.Lawfulness.{event_is_lawful}

-- ---- where the state stays, or a commit changes it

graph_follows : (w after : World) → IsOrderly w → StateFollows w (state_of after) → Follows w after
graph_follows w after lawful f = elim f [
  | inl e ↦ inl (ap (λ (s : State). s.graph) e)
  | inr s ↦ inr (s.0, safe_one w s.0 lawful s.1, ap (λ (s : State). s.graph) s.2)
]

freed_same : (w after : World) → StateFollows w (state_of after) → after.freed ≡ w.freed
freed_same w after f = elim f [ inl e ↦ ap (λ (s : State). s.freed) e | inr s ↦ ap (λ (s : State). s.freed) s.2 ]

opening_stays : (w after : World) (opening : Opening) → IsOrderly w → IsOrderly after → StateFollows w (state_of after) → KeepsOpening w opening → KeepsOpening after opening
opening_stays w after opening lawful next f keeps = record {
  lost = lost_stays w after opening next (graph_follows w after lawful f) ([], freed_same w after f) keeps.lost;
  commits = let h = commits_stay w (state_of after) f in let k = keeps.commits in omega arith;
  names = λ page slot. names_stay w (state_of after) page slot lawful f ∙ keeps.names page slot;
}

given_stays : (w after : World) (cut : OpenedCut) (pages : CutBeside) → IsOrderly w → IsOrderly after → StateFollows w (state_of after) → after.pages ≡ w.pages
    → IsGiven w cut pages → IsGiven after cut pages
given_stays w after cut pages lawful next f same given = record {
  keeps = lost_stays w after cut.opening next (graph_follows w after lawful f) ([], freed_same w after f) given.keeps;
  all = given.all ∙ sym same;
  doomed = doomed_stays w after cut.opening pages.starts pages.pages cut.swept next (graph_follows w after lawful f) (freed_same w after f) given.doomed;
  safe = given.safe;
}

-- the copies of the pages are the same
abbrev pub SameCopies : List CutPage → List CutPage → Type 0
SameCopies pages after = (length after ≡ length pages) × ((page : ℕ) → page < length pages → (get_or after page bare_page).copy ≡ (get_or pages page bare_page).copy)

copying_stays : (w after : World) (cut : OpenedCut) (pages next_pages : List CutPage) → IsOrderly w → IsOrderly after → StateFollows w (state_of after) → after.pages ≡ w.pages
    → IsCopying w cut pages → SameCopies pages next_pages → IsSound (state_of after) cut.opening next_pages → IsCopying after cut next_pages
copying_stays w after cut pages next_pages lawful next f same copying copies sound = record {
  keeps = opening_stays w after cut.opening lawful next f copying.keeps;
  all = copies.0 ∙ (copying.all ∙ sym same);
  sound = sound;
  copied = λ page within.
      let low : page < w.pages = omega arith in
      let here : page < length pages = let e = copying.all in omega arith in
      ap (λ (o : Option CopyParts). is_some o) (copies.1 page here) ∙ copying.copied page low;
  unswept = copying.unswept;
}

-- in each phase, where the pages stay
phase_stays : (w after : World) (cut : OpenedCut) (phase : Phase) (pages : CutBeside) → IsOrderly w → IsOrderly after → state_of after ≡ state_of w → after.pages ≡ w.pages
    → IsInPhase w cut phase pages → IsInPhase after cut phase pages
phase_stays w after cut Copying pages lawful next e same stands =
    copying_stays w after cut pages.pages pages.pages lawful next (inl e) same stands (refl, λ page h. refl) (subst (λ s. IsSound s cut.opening pages.pages) (sym e) stands.sound)
phase_stays w after cut Closed pages lawful next e same stands = given_stays w after cut pages lawful next (inl e) same stands
phase_stays w after cut Sweeping pages lawful next e same stands = given_stays w after cut pages lawful next (inl e) same stands

quiet : (w after : World) (pages : CutBeside) → IsOrderly w → IsOrderly after → state_of after ≡ state_of w → after.pages ≡ w.pages → after.cut ≡ w.cut
    → MatchOption w.cut (Unit {0}) (IsCutStanding w pages) → MatchOption after.cut (Unit {0}) (IsCutStanding after pages)
quiet w after pages lawful next e same cut stands = subst (λ o. MatchOption o (Unit {0}) (IsCutStanding after pages)) (sym cut) (by_cut w.cut stands)
  where
    by_cut : (o : Option OpenedCut) → MatchOption o (Unit {0}) (IsCutStanding w pages) → MatchOption o (Unit {0}) (IsCutStanding after pages)
    by_cut None h = tt
    by_cut (Some cut) h = phase_stays w after cut cut.phase pages lawful next e same h

-- a call that only changes transactions
-- two that are the same in both parts
same_beside : (a b : CutBeside) → a.pages ≡ b.pages → a.starts ≡ b.starts → a ≡ b
same_beside a b p q =
    ap (λ ps. let x : CutBeside = record { pages = ps; starts = a.starts } in x) p ∙ ap (λ ns. let x : CutBeside = record { pages = b.pages; starts = ns } in x) q

quiet_answer : (w after : World) (call : Call) (pages next_pages : CutBeside) → IsOrderly w → IsOrderly after → state_of after ≡ state_of w → after.pages ≡ w.pages → after.cut ≡ w.cut
    → ((cut : OpenedCut) → ChangesBy w cut.opening call pages.pages next_pages.pages → next_pages.pages ≡ pages.pages) → starts_after w call pages.starts ≡ pages.starts
    → MatchOption w.cut (next_pages ≡ pages) (TurnsBeside w call pages next_pages)
    → MatchOption w.cut (Unit {0}) (IsCutStanding w pages) → MatchOption after.cut (Unit {0}) (IsCutStanding after next_pages)
quiet_answer w after call pages next_pages lawful next e same cut still kept turns stands =
    subst (λ ps. MatchOption after.cut (Unit {0}) (IsCutStanding after ps)) (sym (by_cut w.cut turns)) (quiet w after pages lawful next e same cut stands)
  where
    by_phase : (cut : OpenedCut) (phase : Phase) → TurnsIn w cut phase call pages next_pages → next_pages ≡ pages
    by_phase cut Copying h = same_beside next_pages pages (still cut h.0) (h.1 ∙ kept)
    by_phase cut Closed h = h
    by_phase cut Sweeping h = h

    by_cut : (o : Option OpenedCut) → MatchOption o (next_pages ≡ pages) (TurnsBeside w call pages next_pages) → next_pages ≡ pages
    by_cut None h = h
    by_cut (Some cut) h = by_phase cut cut.phase h

-- ---- a commit

same_after_commit : (w : World) (t : Transaction) (pages after : List CutPage) → IsCutAfter w t pages after → SameCopies pages after
same_after_commit w t pages after is = (
  is.all,
  λ page h. elim (cases_Bool (has_page t.pages_written page)) [
    | inl e ↦ elim (is.written page h e) [
      | inl q ↦ ap (λ (p : CutPage). p.copy) q
      | inr q ↦ ap (λ (p : CutPage). p.copy) q.2
    ]
    | inr e ↦ ap (λ (p : CutPage). p.copy) (is.others page e)
  ],
)

commit_phase : (w after : World) (t : Transaction) (cut : OpenedCut) (phase : Phase) (n : ℕ) (pages next_pages : CutBeside) → IsOrderly w → IsOrderly after → In t w.transactions
    → transaction w n ≡ t → state_of after ≡ state_after w t → after.pages ≡ w.pages → TurnsIn w cut phase (Commit n) pages next_pages → IsInPhase w cut phase pages → IsInPhase after cut phase next_pages
commit_phase w after t cut Copying n pages next_pages lawful next i is e same turns stands =
    let changes : IsCutAfter w t pages.pages next_pages.pages = subst (λ t. IsCutAfter w t pages.pages next_pages.pages) is turns.0 in
    copying_stays w after cut pages.pages next_pages.pages lawful next (inr (t, i, e)) same stands (same_after_commit w t pages.pages next_pages.pages changes)
    (subst (λ s. IsSound s cut.opening next_pages.pages) (sym e) (commit_keeps_cut w t cut.opening pages.pages next_pages.pages lawful i stands.keeps changes stands.sound))
commit_phase w after t cut Closed n pages next_pages lawful next i is e same turns stands =
    subst (IsGiven after cut) (sym turns) (given_stays w after cut pages lawful next (inr (t, i, e)) same stands)
commit_phase w after t cut Sweeping n pages next_pages lawful next i is e same turns stands =
    subst (IsGiven after cut) (sym turns) (given_stays w after cut pages lawful next (inr (t, i, e)) same stands)

-- ---- copies

-- the causes of a call on a cut in this phase
pub right_phase : (cut : OpenedCut) (phase : Phase) → wrong_phase cut phase ≡ None → is_phase cut.phase phase ≡ true
right_phase cut phase h = not-false (is_phase cut.phase phase) (when_none (not (is_phase cut.phase phase)) _ h)

copied_more : (w : World) (cut : OpenedCut) (page : ℕ) (c : CopyParts) (pages after : List CutPage) → IsCopying w cut pages → Adds page c pages after
    → (k : ℕ) → k < w.pages → is_some (get_or after k bare_page).copy ≡ has_page (with_page page cut.copied) k
copied_more w cut page c pages after copying adds = λ k within. elim (cases_eq k page) [
  | inl e ↦
      let g : get_or after page bare_page ≡ with_copy c (get_or pages page bare_page) =
      ap (λ ps. get_or ps page bare_page) adds.1 ∙ get_or-set_same pages page (with_copy c (get_or pages page bare_page)) bare_page adds.0 in
      subst (λ k. is_some (get_or after k bare_page).copy ≡ has_page (with_page page cut.copied) k) (sym e)
      (ap (λ (p : CutPage). is_some p.copy) g ∙ sym (with_page_has page cut.copied))
  | inr ne ↦
      let g : get_or after k bare_page ≡ get_or pages k bare_page =
      ap (λ ps. get_or ps k bare_page) adds.1 ∙ get_or-set_other pages page k (with_copy c (get_or pages page bare_page)) bare_page ne in
      ap (λ (p : CutPage). is_some p.copy) g ∙ (copying.copied k within ∙ other k ne)
]
  where
    other : (k : ℕ) → k ≢ page → has_page cut.copied k ≡ has_page (with_page page cut.copied) k
    other k ne = elim (cases_Bool (has_page cut.copied k)) [
      | inl e ↦ e ∙ sym (with_page_keeps page k cut.copied e)
      | inr e ↦ elim (cases_Bool (has_page (with_page page cut.copied) k)) [
        | inr f ↦ e ∙ sym f
        | inl t ↦ elim (with_page_cases page k cut.copied t) [
          | inl q ↦ absurd (ne (sym q))
          | inr b ↦ cc
        ]
      ]
    ]

abbrev pub has_copied : ℕ → OpenedCut → OpenedCut
has_copied page cut = record cut { copied = with_page page cut.copied }

added : (w : World) (cut : OpenedCut) (phase : Phase) (page : ℕ) (c : CopyParts) (pages after : CutBeside) → IsOrderly w → IsOrderly (with_cut w (has_copied page))
    → is_phase phase Copying ≡ true → (phase ≡ Copying → Adds page c pages.pages after.pages × IsSound (state_of w) cut.opening after.pages)
    → IsInPhase w cut phase pages → IsInPhase (with_cut w (has_copied page)) (has_copied page cut) phase after
added w cut Closed page c pages after lawful next right adds stands = cc
added w cut Sweeping page c pages after lawful next right adds stands = cc
added w cut Copying page c pages after lawful next right adds stands =
    let a = adds refl in record {
      keeps = opening_stays w (with_cut w (has_copied page)) cut.opening lawful next (inl refl) stands.keeps;
      all = ap length a.0.1 ∙ (length-set pages.pages page (with_copy c (get_or pages.pages page bare_page)) ∙ stands.all);
      sound = a.1;
      copied = copied_more w cut page c pages.pages after.pages stands a.0;
      unswept = stands.unswept;
    }

pub cut_none : (w : World) (list : OpenedCut → List (Option Refusal)) (cut : OpenedCut) → first_met (broken w ∷ list cut) ≡ None → AllByRecursion (λ c. c ≡ None) (list cut)
cut_none w list cut h = (nones (broken w ∷ list cut) h).1

copy_phase : (w : World) (cut : OpenedCut) (phase : Phase) (page : ℕ) (pages after : CutBeside) → IsOrderly w → IsOrderly (with_cut w (has_copied page))
    → is_phase phase Copying ≡ true → TurnsIn w cut phase (Copy page) pages after → IsInPhase w cut phase pages → IsInPhase (with_cut w (has_copied page)) (has_copied page cut) phase after
copy_phase w cut Closed page pages after lawful next right turns stands = cc
copy_phase w cut Sweeping page pages after lawful next right turns stands = cc
copy_phase w cut Copying page pages after lawful next right turns stands =
    added w cut Copying page (copy_now w page) pages after lawful next right
    (λ e. (turns.0, subst (IsSound (state_of w) cut.opening) (sym turns.0.1) (frame_keeps_cut w cut.opening pages.pages page lawful stands.keeps stands.sound turns.0.0))) stands

hand_phase : (w : World) (cut : OpenedCut) (phase : Phase) (page number seen : ℕ) (pages after : CutBeside) → IsOrderly w → IsOrderly (with_cut w (has_copied page))
    → is_phase phase Copying ≡ true → TurnsIn w cut phase (HandIn page number seen) pages after → IsInPhase w cut phase pages → IsInPhase (with_cut w (has_copied page)) (has_copied page cut) phase after
hand_phase w cut Closed page number seen pages after lawful next right turns stands = cc
hand_phase w cut Sweeping page number seen pages after lawful next right turns stands = cc
hand_phase w cut Copying page number seen pages after lawful next right turns stands =
    added w cut Copying page turns.0.0 pages after lawful next right
    (λ e. (turns.0.2, subst (IsSound (state_of w) cut.opening) (sym turns.0.2.1) (fit_copy_keeps_cut (state_of w) cut.opening pages.pages page turns.0.0 stands.sound turns.0.2.0 turns.0.1))) stands

copy_stands : (w : World) (page : ℕ) (note : Note) (pages after : CutBeside) → IsOrderly w → IsOrderly (with_cut w (has_copied page)) → first_refusal w (Copy page) note ≡ None
    → MatchOption w.cut (after ≡ pages) (TurnsBeside w (Copy page) pages after) → MatchOption w.cut (Unit {0}) (IsCutStanding w pages)
    → MatchOption (option_map (has_copied page) w.cut) (Unit {0}) (IsCutStanding (with_cut w (has_copied page)) after)
copy_stands w page note pages after lawful next may turns stands = by_cut w.cut may turns stands
  where
    by_cut : (o : Option OpenedCut) → first_met (broken w ∷ unwrap_or (option_map (λ cut. wrong_phase cut Copying ∷ page_cause w page ∷ already_copied cut page ∷ []) o) (Some NoCut ∷ [])) ≡ None
        → MatchOption o (after ≡ pages) (TurnsBeside w (Copy page) pages after) → MatchOption o (Unit {0}) (IsCutStanding w pages)
        → MatchOption (option_map (has_copied page) o) (Unit {0}) (IsCutStanding (with_cut w (has_copied page)) after)
    by_cut None h t s = tt
    by_cut (Some cut) h t s =
        copy_phase w cut cut.phase page pages after lawful next
        (right_phase cut Copying (cut_none w (λ cut. wrong_phase cut Copying ∷ page_cause w page ∷ already_copied cut page ∷ []) cut h).0) t s

hand_stands : (w : World) (page number seen : ℕ) (note : Note) (pages after : CutBeside) → IsOrderly w → IsOrderly (with_cut w (has_copied page)) → first_refusal w (HandIn page number seen) note ≡ None
    → MatchOption w.cut (after ≡ pages) (TurnsBeside w (HandIn page number seen) pages after) → MatchOption w.cut (Unit {0}) (IsCutStanding w pages)
    → MatchOption (option_map (has_copied page) w.cut) (Unit {0}) (IsCutStanding (with_cut w (has_copied page)) after)
hand_stands w page number seen note pages after lawful next may turns stands = by_cut w.cut may turns stands
  where
    by_cut : (o : Option OpenedCut) → first_met (broken w ∷ unwrap_or (option_map (λ cut. wrong_phase cut Copying ∷ other_cut cut number ∷ already_copied cut page ∷ []) o) (Some NoCut ∷ [])) ≡ None
        → MatchOption o (after ≡ pages) (TurnsBeside w (HandIn page number seen) pages after) → MatchOption o (Unit {0}) (IsCutStanding w pages)
        → MatchOption (option_map (has_copied page) o) (Unit {0}) (IsCutStanding (with_cut w (has_copied page)) after)
    by_cut None h t s = tt
    by_cut (Some cut) h t s =
        hand_phase w cut cut.phase page number seen pages after lawful next
        (right_phase cut Copying (cut_none w (λ cut. wrong_phase cut Copying ∷ other_cut cut number ∷ already_copied cut page ∷ []) cut h).0) t s

-- ---- the closing

none_uncopied : (o : Option ℕ) → option_map (λ page. Uncopied page) o ≡ None → o ≡ None
none_uncopied None h = refl
none_uncopied (Some page) h = cc

all_copied : (w : World) (cut : OpenedCut) (page : ℕ) → uncopied w cut ≡ None → page < w.pages → has_page cut.copied page ≡ true
all_copied w cut page h within =
    let test : ℕ → Bool = λ page. not (has_page cut.copied page) in
    let none : find test (below w.pages) ≡ None = none_uncopied (missing w cut.copied) h in
    not-false (has_page cut.copied page) (find_none_each test (below w.pages) page none (in_below w.pages page within))

abbrev pub is_closed_now : OpenedCut → OpenedCut
is_closed_now cut = record cut { phase = Closed }

abbrev pub is_swept_now : OpenedCut → OpenedCut
is_swept_now cut = record cut { phase = Sweeping }

close_phase : (w : World) (cut : OpenedCut) (phase : Phase) (pages after : CutBeside) → IsOrderly w → AllByRecursion (IsOutOfReach w) w.freed → IsOrderly (with_cut w is_closed_now)
    → is_phase phase Copying ≡ true → uncopied w cut ≡ None → TurnsIn w cut phase Close pages after → IsInPhase w cut phase pages → IsGiven (with_cut w is_closed_now) (is_closed_now cut) after
close_phase w cut Closed pages after lawful freed next right all turns stands = cc
close_phase w cut Sweeping pages after lawful freed next right all turns stands = cc
close_phase w cut Copying pages after lawful freed next right all turns stands =
    subst (IsGiven (with_cut w is_closed_now) (is_closed_now cut)) (sym (same_beside after (record { pages = pages.pages; starts = starts w }) turns.0 turns.1)) (record {
      keeps = (opening_stays w (with_cut w is_closed_now) cut.opening lawful next (inl refl) stands.keeps).lost;
      all = stands.all;
      doomed = subst (KeepsDoomed (with_cut w is_closed_now) cut.opening (starts w) pages.pages) (sym stands.unswept)
          (doomed_stays w (with_cut w is_closed_now) cut.opening (starts w) pages.pages [] next (inl refl) refl (closing_keeps_doomed w cut.opening pages.pages (record {
            orderly = lawful;
            freed = freed;
            keeps = stands.keeps;
            all = stands.all;
            sound = stands.sound;
            copied = λ page within. let low : page < w.pages = let e = stands.all in omega arith in stands.copied page low ∙ all_copied w cut page all low;
          })));
      safe = λ o m. cut_graph_safe (state_of w) cut.opening pages.pages o stands.sound m;
    })

close_stands : (w : World) (note : Note) (pages after : CutBeside) → IsOrderly w → AllByRecursion (IsOutOfReach w) w.freed → IsOrderly (with_cut w is_closed_now) → first_refusal w Close note ≡ None
    → MatchOption w.cut (after ≡ pages) (TurnsBeside w Close pages after) → MatchOption w.cut (Unit {0}) (IsCutStanding w pages)
    → MatchOption (option_map is_closed_now w.cut) (Unit {0}) (IsCutStanding (with_cut w is_closed_now) after)
close_stands w note pages after lawful freed next may turns stands = by_cut w.cut may turns stands
  where
    by_cut : (o : Option OpenedCut) → first_met (broken w ∷ unwrap_or (option_map (λ cut. wrong_phase cut Copying ∷ uncopied w cut ∷ []) o) (Some NoCut ∷ [])) ≡ None
        → MatchOption o (after ≡ pages) (TurnsBeside w Close pages after) → MatchOption o (Unit {0}) (IsCutStanding w pages)
        → MatchOption (option_map is_closed_now o) (Unit {0}) (IsCutStanding (with_cut w is_closed_now) after)
    by_cut None h t s = tt
    by_cut (Some cut) h t s =
        let a = cut_none w (λ cut. wrong_phase cut Copying ∷ uncopied w cut ∷ []) cut h in
        close_phase w cut cut.phase pages after lawful freed next (right_phase cut Copying a.0) a.1.0 t s

-- ---- marks and sweeps

mark_phase : (w : World) (cut : OpenedCut) (phase : Phase) (workers : ℕ) (pages after : CutBeside) → IsOrderly w → IsOrderly (with_cut w is_swept_now)
    → is_phase phase Closed ≡ true → TurnsIn w cut phase (Mark workers) pages after → IsInPhase w cut phase pages → IsGiven (with_cut w is_swept_now) (is_swept_now cut) after
mark_phase w cut Copying workers pages after lawful next right turns stands = cc
mark_phase w cut Sweeping workers pages after lawful next right turns stands = cc
mark_phase w cut Closed workers pages after lawful next right turns stands =
    let g = given_stays w (with_cut w is_swept_now) cut pages lawful next (inl refl) refl stands in
    subst (IsGiven (with_cut w is_swept_now) (is_swept_now cut)) (sym turns) (record { keeps = g.keeps; all = g.all; doomed = g.doomed; safe = g.safe })

mark_stands : (w : World) (workers : ℕ) (note : Note) (pages after : CutBeside) → IsOrderly w → IsOrderly (with_cut w is_swept_now) → first_refusal w (Mark workers) note ≡ None
    → MatchOption w.cut (after ≡ pages) (TurnsBeside w (Mark workers) pages after) → MatchOption w.cut (Unit {0}) (IsCutStanding w pages)
    → MatchOption (option_map is_swept_now w.cut) (Unit {0}) (IsCutStanding (with_cut w is_swept_now) after)
mark_stands w workers note pages after lawful next may turns stands = by_cut w.cut may turns stands
  where
    by_cut : (o : Option OpenedCut) → first_met (broken w ∷ unwrap_or (option_map (λ cut. wrong_phase cut Closed ∷ wrong_marks cut (marks_number note) ∷ []) o) (Some NoCut ∷ [])) ≡ None
        → MatchOption o (after ≡ pages) (TurnsBeside w (Mark workers) pages after) → MatchOption o (Unit {0}) (IsCutStanding w pages)
        → MatchOption (option_map is_swept_now o) (Unit {0}) (IsCutStanding (with_cut w is_swept_now) after)
    by_cut None h t s = tt
    by_cut (Some cut) h t s =
        mark_phase w cut cut.phase workers pages after lawful next
        (right_phase cut Closed (cut_none w (λ cut. wrong_phase cut Closed ∷ wrong_marks cut (marks_number note) ∷ []) cut h).0) t s

sweep_phase : (w : World) (cut : OpenedCut) (phase : Phase) (page slots : ℕ) (pages after : CutBeside) → IsOrderly w → IsOrderly (swept w page slots)
    → is_phase phase Sweeping ≡ true → MayFree w cut.opening page slots → TurnsIn w cut phase (Sweep page) pages after → IsInPhase w cut phase pages → IsInPhase (swept w page slots) (has_swept page cut) phase after
sweep_phase w cut Copying page slots pages after lawful next right may turns stands = cc
sweep_phase w cut Closed page slots pages after lawful next right may turns stands = cc
sweep_phase w cut Sweeping page slots pages after lawful next right may turns stands =
    subst (IsGiven (swept w page slots) (has_swept page cut)) (sym turns) (record {
      keeps = lost_stays w (swept w page slots) cut.opening next (inl refl) (freed_grows w (Sweep page) nothing (Freed slots)) stands.keeps;
      all = stands.all;
      doomed = sweep_keeps_doomed w cut pages.starts pages.pages page slots next may stands.doomed;
      safe = stands.safe;
    })

sweep_stands : (w : World) (page slots : ℕ) (note : Note) (pages after : CutBeside) → IsOrderly w → IsOrderly (swept w page slots) → first_refusal w (Sweep page) note ≡ None
    → MatchOption w.cut ⊥ (λ cut. MayFree w cut.opening page slots)
    → MatchOption w.cut (after ≡ pages) (TurnsBeside w (Sweep page) pages after) → MatchOption w.cut (Unit {0}) (IsCutStanding w pages)
    → MatchOption (option_map (has_swept page) w.cut) (Unit {0}) (IsCutStanding (swept w page slots) after)
sweep_stands w page slots note pages after lawful next may free turns stands = by_cut w.cut may free turns stands
  where
    by_cut : (o : Option OpenedCut) → first_met (broken w ∷ unwrap_or (option_map (λ cut. wrong_phase cut Sweeping ∷ page_cause w page ∷ already_swept cut page ∷ []) o) (Some NoCut ∷ [])) ≡ None
        → MatchOption o ⊥ (λ cut. MayFree w cut.opening page slots)
        → MatchOption o (after ≡ pages) (TurnsBeside w (Sweep page) pages after) → MatchOption o (Unit {0}) (IsCutStanding w pages)
        → MatchOption (option_map (has_swept page) o) (Unit {0}) (IsCutStanding (swept w page slots) after)
    by_cut None h f t s = tt
    by_cut (Some cut) h f t s =
        sweep_phase w cut cut.phase page slots pages after lawful next
        (right_phase cut Sweeping (cut_none w (λ cut. wrong_phase cut Sweeping ∷ page_cause w page ∷ already_swept cut page ∷ []) cut h).0) f t s

-- ---- an opening

open_stands : (w : World) (after : CutBeside) → IsOrderly w → IsOrderly (cut_opened w) → after ≡ nothing_copied w.pages
    → MatchOption (cut_opened w).cut (Unit {0}) (IsCutStanding (cut_opened w) after)
open_stands w after lawful next turns =
    let cut : OpenedCut = record { number = w.last_cut + 1; phase = Copying; copied = []; swept = []; opening = opening_of w } in
    subst (λ (b : CutBeside). IsCopying (cut_opened w) cut b.pages) (sym turns) (record {
      keeps = opening_stays w (cut_opened w) (opening_of w) lawful next (inl refl) (opening_is_kept w lawful);
      all = length-replicate w.pages bare_page;
      sound = empty_cut_is_sound w w.pages;
      copied = λ page within. ap (λ (p : CutPage). is_some p.copy) (get-replicate_same w.pages page bare_page);
      unswept = refl;
    })

commit_stands : (w after : World) (n : ℕ) (pages next_pages : CutBeside) → IsOrderly w → IsOrderly after → In (transaction w n) w.transactions
    → state_of after ≡ state_after w (transaction w n) → after.pages ≡ w.pages → after.cut ≡ w.cut
    → MatchOption w.cut (next_pages ≡ pages) (TurnsBeside w (Commit n) pages next_pages) → MatchOption w.cut (Unit {0}) (IsCutStanding w pages)
    → MatchOption after.cut (Unit {0}) (IsCutStanding after next_pages)
commit_stands w after n pages next_pages lawful next i e same cut turns stands =
    subst (λ o. MatchOption o (Unit {0}) (IsCutStanding after next_pages)) (sym cut) (by_cut w.cut turns stands)
  where
    by_cut : (o : Option OpenedCut) → MatchOption o (next_pages ≡ pages) (TurnsBeside w (Commit n) pages next_pages) → MatchOption o (Unit {0}) (IsCutStanding w pages)
        → MatchOption o (Unit {0}) (IsCutStanding after next_pages)
    by_cut None t s = tt
    by_cut (Some cut) t s = commit_phase w after (transaction w n) cut cut.phase n pages next_pages lawful next i refl e same t s

-- ---- each event

refusal_stands : (w : World) (call : Call) (note : Note) (why : Refusal) (pages : CutBeside) → IsOrderly w → IsOrderly (after_refusal w call note why)
    → MatchOption w.cut (Unit {0}) (IsCutStanding w pages) → MatchOption (after_refusal w call note why).cut (Unit {0}) (IsCutStanding (after_refusal w call note why) pages)
refusal_stands w call note DiskFault pages lawful next stands = quiet w (after_refusal w call note DiskFault) pages lawful next refl refl refl stands
refusal_stands w call note _ pages lawful next stands = stands

new_stands : (w : World) (n page : ℕ) (name : Option NameParts) (pages after : CutBeside) → IsOrderly w → IsOrderly (with_new w n name)
    → MatchOption w.cut (after ≡ pages) (TurnsBeside w (New n page) pages after)
    → MatchOption w.cut (Unit {0}) (IsCutStanding w pages) → MatchOption (with_new w n name).cut (Unit {0}) (IsCutStanding (with_new w n name) after)
new_stands w n page None pages after lawful next turns stands = quiet_answer w w (New n page) pages after lawful lawful refl refl refl (λ cut h. h) refl turns stands
new_stands w n page (Some name) pages after lawful next turns stands =
    quiet_answer w (with_new w n (Some name)) (New n page) pages after lawful next refl refl refl (λ cut h. h) refl turns stands

answer_stands : (w : World) (call : Call) (note : Note) (reply : Reply) (pages after : CutBeside) → IsOrderly w → AllByRecursion (IsOutOfReach w) w.freed
    → IsOrderly (after_answer w call note reply) → first_refusal w call note ≡ None → Answers w call note reply → TurnsOf w call pages after
    → MatchOption w.cut (Unit {0}) (IsCutStanding w pages)
    → MatchOption (after_answer w call note reply).cut (Unit {0}) (IsCutStanding (after_answer w call note reply) after)
answer_stands w (Begin t) note reply pages after lawful freed next may is turns stands =
    quiet_answer w (after_answer w (Begin t) note reply) (Begin t) pages after lawful next refl refl refl (λ cut h. h) refl turns stands
answer_stands w (Get t name field) note reply pages after lawful freed next may is turns stands =
    quiet_answer w (after_answer w (Get t name field) note reply) (Get t name field) pages after lawful next refl refl refl (λ cut h. h) refl turns stands
answer_stands w (Number t name) note reply pages after lawful freed next may is turns stands =
    quiet_answer w (after_answer w (Number t name) note reply) (Number t name) pages after lawful next refl refl refl (λ cut h. h) refl turns stands
answer_stands w (Set t name field target) note reply pages after lawful freed next may is turns stands =
    quiet_answer w (after_answer w (Set t name field target) note reply) (Set t name field target) pages after lawful next refl refl refl (λ cut h. h) refl turns stands
answer_stands w (Put t name value) note reply pages after lawful freed next may is turns stands =
    quiet_answer w (after_answer w (Put t name value) note reply) (Put t name value) pages after lawful next refl refl refl (λ cut h. h) refl turns stands
answer_stands w (New t page) note reply pages after lawful freed next may is turns stands =
    new_stands w t page (new_name w t page) pages after lawful next turns stands
answer_stands w (Commit t) note reply pages after lawful freed next may is turns stands =
    commit_stands w (after_answer w (Commit t) note reply) t pages after lawful next (commit_is_open w t note may) refl refl refl turns stands
answer_stands w (Abort t) note reply pages after lawful freed next may is turns stands =
    quiet_answer w (after_answer w (Abort t) note reply) (Abort t) pages after lawful next refl refl refl (λ cut h. h) refl turns stands
answer_stands w OpenCut note reply pages after lawful freed next may is turns stands = open_stands w after lawful next turns
answer_stands w (Copy page) note reply pages after lawful freed next may is turns stands = copy_stands w page note pages after lawful next may turns stands
answer_stands w (HandIn page number seen) note reply pages after lawful freed next may is turns stands = hand_stands w page number seen note pages after lawful next may turns stands
answer_stands w Close note reply pages after lawful freed next may is turns stands = close_stands w note pages after lawful freed next may turns stands
answer_stands w (Mark workers) note reply pages after lawful freed next may is turns stands = mark_stands w workers note pages after lawful next may turns stands
answer_stands w (Sweep page) note (Freed slots) pages after lawful freed next may is turns stands = sweep_stands w page slots note pages after lawful next may is turns stands
answer_stands w (Sweep page) note reply pages after lawful freed next may is turns stands = absurd is
answer_stands w EndCut note reply pages after lawful freed next may is turns stands = tt
answer_stands w DropCut note reply pages after lawful freed next may is turns stands = tt
answer_stands w Reopen note reply pages after lawful freed next may is turns stands = tt

-- each allowed event leaves what stands
pub event_stands : (w : World) (call : Call) (note : Note) (reply : Reply) (pages after : CutBeside) → IsStanding w pages → AllowsReply w call note reply → Turns w call reply pages after
    → IsStanding (after_reply w call note reply) after
event_stands w call note (Refused why) pages after stands may turns =
    let next = event_is_lawful w call note (Refused why) stands.lawful may in record {
      lawful = next;
      cut = subst (λ ps. MatchOption (after_refusal w call note why).cut (Unit {0}) (IsCutStanding (after_refusal w call note why) ps)) (sym turns)
          (refusal_stands w call note why pages stands.lawful.orderly next.orderly stands.cut);
    }
event_stands w call note reply pages after stands may turns =
    let next = event_is_lawful w call note reply stands.lawful may in record {
      lawful = next;
      cut = answer_stands w call note reply pages after stands.lawful.orderly stands.lawful.freed next.orderly may.0 may.1 turns stands.cut;
    }

-- ---- what follows

-- with a standing cut, a sweep of the doomed slots of a page is allowed
swept_phase : (w : World) (cut : OpenedCut) (phase : Phase) (page slots : ℕ) (pages : CutBeside) → IsOrderly w → is_phase phase Sweeping ≡ true → has_page cut.swept page ≡ false
    → AreDoomedOn pages.starts pages.pages page slots → IsInPhase w cut phase pages → MayFree w cut.opening page slots
swept_phase w cut Copying page slots pages lawful right unswept doomed stands = cc
swept_phase w cut Closed page slots pages lawful right unswept doomed stands = cc
swept_phase w cut Sweeping page slots pages lawful right unswept doomed stands = doomed_may_be_freed w cut pages.starts pages.pages page slots lawful stands.doomed unswept doomed

pub doomed_sweep_is_allowed : (w : World) (page slots : ℕ) (note : Note) (pages : CutBeside) → IsStanding w pages → first_refusal w (Sweep page) note ≡ None
    → AreDoomedOn pages.starts pages.pages page slots → AllowsReply w (Sweep page) note (Freed slots)
doomed_sweep_is_allowed w page slots note pages stands may doomed = (may, by_cut w.cut may stands.cut)
  where
    by_cut : (o : Option OpenedCut) → first_met (broken w ∷ unwrap_or (option_map (λ cut. wrong_phase cut Sweeping ∷ page_cause w page ∷ already_swept cut page ∷ []) o) (Some NoCut ∷ [])) ≡ None
        → MatchOption o (Unit {0}) (IsCutStanding w pages) → MatchOption o ⊥ (λ cut. MayFree w cut.opening page slots)
    by_cut None h s = let a = nones (broken w ∷ Some NoCut ∷ []) h in let z : ⊥ = cc in z
    by_cut (Some cut) h s =
        let a = cut_none w (λ cut. wrong_phase cut Sweeping ∷ page_cause w page ∷ already_swept cut page ∷ []) cut h in
        swept_phase w cut cut.phase page slots pages stands.lawful.orderly (right_phase cut Sweeping a.0) (when_none (has_page cut.swept page) _ a.1.1.0) doomed s
