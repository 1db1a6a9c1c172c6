-- What closings and marks leave.
use Rattle.std.proofs.Common.{◌≡◌, ◌≢◌, ℕ, ◌+◌, ◌≤◌, ◌<◌, ◌==◌, true, false, not, List, [], ◌∷◌, length, Option, Some, None, refl, sym, subst, ap, ◌∙◌, arith}
use Rattle.std.specs.Prelude.{Result, Ok, Err, IfSome, IsSomeAnd}
use Rattle.std.specs.Option.{option_map, MatchOption}
use Rattle.std.specs.List.{find}
use Rattle.object_graph.specs.Slots.{below}
use Rattle.object_graph.specs.declared.calls.Phase.{Phase}
use Rattle.object_graph.specs.declared.calls.Phase.TheVariants as phase
use Rattle.object_graph.specs.declared.calls.Call.{Call}
use Rattle.object_graph.specs.declared.calls.Call.TheVariants.{Close, Mark}
use Rattle.object_graph.specs.declared.calls.Reply.{Reply}
use Rattle.object_graph.specs.declared.calls.Reply.TheVariants.{Done, Refused}
use Rattle.object_graph.specs.declared.calls.Refusal.{Refusal}
use Rattle.object_graph.specs.declared.calls.Refusal.TheVariants.{NoCut, WrongPhase, Uncopied, OtherCut, DiskFault}
use Rattle.object_graph.specs.declared.calls.Refusal.TheVariants.{Memory as NoMemory}
use Rattle.object_graph.specs.Names.{root_name}
use Rattle.std.proofs.lemmas.Bool.{ne_eqb, eq-eqb}
use Rattle.disk_trait.specs.declared.disk.Disk.{Ghosts as DiskOf}
use Rattle.store_model.specs.Lawful.{IsLawful}
use Rattle.transactions.proofs.FreeSlots.{find-below}
use Rattle.store_model.specs.Causes.{first_met, first_refusal, when, has_page, is_phase, wrong_phase, uncopied, wrong_marks}
use Rattle.store_model.specs.Replies.{AllowsReply, is_free, has_note}
use Rattle.store_model.specs.Steps.{after_reply, after_refusal}
use Rattle.store_model.specs.Worlds.{World, OpenedCut, Note, nothing, images, marks}
use Rattle.cut_model.specs.CutPages.{CutPage}
use Rattle.cut_model.specs.Standing.{CutBeside, IsCopying, IsStanding}
use Rattle.cut_model.proofs.Phases.{event_stands}
use Rattle.cut_model.proofs.Turning.{turns_close, turns_still}
use Rattle.cut_builder.specs.CutParts.{CutParts, ClosedParts, MarkedParts, cut_starts, AreCopied, IsFirstUncopied}
use Rattle.cut_core.specs.Holding.{phase_of, beside_stage, beside_of, IsStage, IsHeldCut, IsHeld, Holds, IsButForCut}
use Rattle.cut_core.specs.Given.{AreOfTheCut, CutAnswers, HeldGiven, HasGiven, KeepsGiven, IsCutOf, closed_reply, closed_note, marked_reply}
use Rattle.cut_core.specs.Standing.{Stands}
use Rattle.cut_core.specs.Whole.{StandsWithCut}
use Rattle.cut_core.specs.declared.store.Store.{Store}
use Rattle.cut_core.specs.declared.held.Stage.{Stage}
use Rattle.cut_core.specs.declared.held.Stage.TheVariants.{Copying, Closed, Sweeping}
use Rattle.cut_core.specs.declared.held.HeldCut.{HeldCut}
use Rattle.cut_core.specs.declared.held.Held.{Held}
use Rattle.cut_core.proofs.Holding.{on_cut_none, on_cut_some, there, not_there, in_phase, no_page_found, stands_beside}

-- ---- refusals

pub refuses_with : (w : World) (call : Call) (note : Note) (why : Refusal) → first_refusal w call note ≡ Some why → AllowsReply w call note (Refused why)
refuses_with w call note why first = subst (λ (o : Option Refusal). MatchOption o (is_free call why ≡ true) (λ f. why ≡ f)) (sym first) refl

pub stays_held : (held : Held) (w : World) (call : Call) (note : Note) (why : Refusal) → Holds held w → first_refusal w call note ≡ Some why → after_refusal w call note why ≡ w → CutAnswers held w call note (Refused why)
stays_held held w call note why h first same = record { allowed = refuses_with w call note why first; holds = subst (Holds held) (sym same) h }

-- ---- the closing

pub no_cut_to_close : (held : Held) (w : World) → held.cut ≡ None → Holds held w → w.broken ≡ None → CutAnswers held w Close nothing (Refused NoCut)
no_cut_to_close held w none h calm =
    stays_held held w Close nothing NoCut h
    (on_cut_none w.broken w.cut (λ cut. wrong_phase cut phase.Copying ∷ uncopied w cut ∷ []) calm (not_there w w.cut (subst (λ o. IsHeld w o w.cut) none h.cut))) refl

other_phase : (stage : Stage) → ((c : CutParts) → stage ≡ Copying c → ⊥) → is_phase (phase_of stage) phase.Copying ≡ false
other_phase (Copying c) other = absurd (other c refl)
other_phase (Closed given) other = refl
other_phase (Sweeping marked) other = refl

pub wrong_to_close : (held : Held) (cut : HeldCut) (w : World) → held.cut ≡ Some cut → ((c : CutParts) → cut.stage ≡ Copying c → ⊥) → Holds held w → w.broken ≡ None
    → CutAnswers held w Close nothing (Refused (WrongPhase (phase_of cut.stage)))
wrong_to_close held cut w is other h calm =
    let c = there w cut w.cut (subst (λ o. IsHeld w o w.cut) is h.cut) in
    stays_held held w Close nothing (WrongPhase (phase_of cut.stage)) h
    (on_cut_some w.broken w.cut c.0 (λ cut. wrong_phase cut phase.Copying ∷ uncopied w cut ∷ []) calm c.1
    ∙ (ap (λ p. first_met (when (not (is_phase p phase.Copying)) (WrongPhase p) ∷ uncopied w c.0 ∷ [])) (sym c.2.phase)
    ∙ ap (λ b. first_met (when (not b) (WrongPhase (phase_of cut.stage)) ∷ uncopied w c.0 ∷ [])) (other_phase cut.stage other))) refl

module _ (held : Held) (cut : HeldCut) (parts : CutParts) (w : World) (is : held.cut ≡ Some cut) (stage : cut.stage ≡ Copying parts) (h : Holds held w) (calm : w.broken ≡ None) where
  abbrev its : (c : OpenedCut) × (w.cut ≡ Some c) × IsHeldCut w cut c
  its = there w cut w.cut (subst (λ o. IsHeld w o w.cut) is h.cut)

  at : its.0.phase ≡ phase.Copying
  at = sym its.2.phase ∙ ap phase_of stage

  from : IsStanding w (beside_stage (Copying parts))
  from = subst (IsStanding w) (ap beside_of is ∙ ap beside_stage stage) h.standing

  copying : IsCopying w its.0 parts.pages
  copying = in_phase w its.0 phase.Copying (beside_stage (Copying parts)) its.1 at from

  own : IsStage w cut.number (Copying parts)
  own = subst (IsStage w cut.number) stage its.2.stage

  close_first : (note : Note) → first_refusal w Close note ≡ first_met (uncopied w its.0 ∷ [])
  close_first note =
      on_cut_some w.broken w.cut its.0 (λ cut. wrong_phase cut phase.Copying ∷ uncopied w cut ∷ []) calm its.1
      ∙ ap (λ p. first_met (when (not (is_phase p phase.Copying)) (WrongPhase p) ∷ uncopied w its.0 ∷ [])) at

  pub uncopied_stays : (page : ℕ) → IsFirstUncopied parts.pages page → CutAnswers held w Close nothing (Refused (Uncopied page))
  uncopied_stays page first =
      let low : page < w.pages = subst (λ n. page < n) copying.all first.within in
      let found : find (λ p. not (has_page its.0.copied p)) (below w.pages) ≡ Some page =
      find-below (λ p. not (has_page its.0.copied p)) w.pages page low (ap not (sym (copying.copied page low) ∙ first.uncopied))
      (λ j before. let near : j < w.pages = omega (arith, before, low) in ap not (sym (copying.copied j near) ∙ first.least j before)) in
      stays_held held w Close nothing (Uncopied page) h (close_first nothing ∙ ap (λ o. first_met (option_map (λ (p : ℕ). Uncopied p) o ∷ [])) found) refl

  pub closed_holds : (closed : ClosedParts) (given : Stage) → closed ≡ record { number = parts.number; pages = parts.pages } → phase_of given ≡ phase.Closed → beside_stage given ≡ record { pages = closed.pages; starts = cut_starts closed }
      → ((n : ℕ) → closed.number ≡ n → IsStage w n given) → AreCopied parts.pages
      → CutAnswers (record { cut = Some (record { number = cut.number; stage = given; swept = cut.swept }); last_cut = held.last_cut }) w Close images Done
  closed_holds closed given is_closed phase_is beside_is stage_is copied =
      let none : find (λ p. not (has_page its.0.copied p)) (below w.pages) ≡ None =
      no_page_found (λ p. not (has_page its.0.copied p)) w.pages
      (λ j low. let within : j < length parts.pages = subst (λ n. j < n) (sym copying.all) low in ap not (sym (copying.copied j low) ∙ copied j within)) in
      let allowed : AllowsReply w Close images Done = (close_first images ∙ ap (λ o. first_met (option_map (λ (p : ℕ). Uncopied p) o ∷ [])) none, refl) in
      let pages : closed.pages ≡ parts.pages = ap (λ (c : ClosedParts). c.pages) is_closed in
      record {
        allowed = allowed;
        holds = record {
          some = h.some;
          few = h.few;
          last = h.last;
          cut = subst (λ o. IsHeld (after_reply w Close images Done) (Some (record { number = cut.number; stage = given; swept = cut.swept })) (option_map (λ (c : OpenedCut). record c { phase = phase.Closed }) o)) (sym its.1) (record {
            number = its.2.number;
            before = its.2.before;
            phase = phase_is;
            stage = stage_anew given (stage_is cut.number (ap (λ (c : ClosedParts). c.number) is_closed ∙ own.0));
            count = its.2.count;
            swept = its.2.swept;
          });
          standing = event_stands w Close images Done (beside_stage (Copying parts)) (beside_stage given) from allowed
              (turns_close w its.0 (beside_stage (Copying parts)) (beside_stage given) its.1 at (ap (λ (b : CutBeside). b.pages) beside_is ∙ pages) (ap (λ (b : CutBeside). b.starts) beside_is));
        };
      }
    where
      stage_anew : (given : Stage) → IsStage w cut.number given → IsStage (after_reply w Close images Done) cut.number given
      stage_anew (Copying c) s = s
      stage_anew (Closed g) s = s
      stage_anew (Sweeping m) s = s

-- what goes out is the world's cut
pub closed_sound : (held : Held) (cut : HeldCut) (parts : CutParts) (closed : ClosedParts) (w : World) → held.cut ≡ Some cut → cut.stage ≡ Copying parts → closed ≡ record { number = parts.number; pages = parts.pages } → Holds held w
    → IsCutOf w closed
closed_sound held cut parts closed w is stage is_closed h =
    let its = there w cut w.cut (subst (λ o. IsHeld w o w.cut) is h.cut) in
    let own : IsStage w cut.number (Copying parts) = subst (IsStage w cut.number) stage its.2.stage in
    let from : IsStanding w (beside_stage (Copying parts)) = subst (IsStanding w) (ap beside_of is ∙ ap beside_stage stage) h.standing in
    let copying : IsCopying w its.0 parts.pages = in_phase w its.0 phase.Copying (beside_stage (Copying parts)) its.1 (sym its.2.phase ∙ ap phase_of stage) from in
    let number : its.0.number ≡ closed.number = sym its.2.number ∙ (sym own.0 ∙ sym (ap (λ (c : ClosedParts). c.number) is_closed)) in
    subst (λ o. IsSomeAnd o (λ (opened : OpenedCut). (opened.number ≡ closed.number) × IsCopying w opened closed.pages)) (sym its.1)
    (number, subst (λ (pages : List CutPage). IsCopying w its.0 pages) (sym (ap (λ (c : ClosedParts). c.pages) is_closed)) copying)

-- what comes back is what was there
pub back_again : (held : Held) (cut : HeldCut) (parts again : CutParts) → held.cut ≡ Some cut → cut.stage ≡ Copying parts → again ≡ parts
    → record { cut = Some (record { number = cut.number; stage = Copying again; swept = cut.swept }); last_cut = held.last_cut } ≡ held
back_again held cut parts again is stage same = λ i. record {
  cut = (ap (λ (s : Stage). Some (let x : HeldCut = record { number = cut.number; stage = s; swept = cut.swept } in x)) (ap Copying same ∙ sym stage) ∙ sym is) i;
  last_cut = held.last_cut;
}

-- ---- what was given out

pub given_still : (held : Held) → KeepsGiven held held
given_still held = λ number pages h. h

pub given_gone : (held : Held) → KeepsGiven held (record { cut = None; last_cut = held.last_cut })
given_gone held = λ number pages h. record { before = h.before; same = tt }

-- a cut that is copied has given nothing
pub given_copying : (held : Held) (cut after : HeldCut) (parts : CutParts) → held.cut ≡ Some cut → cut.stage ≡ Copying parts → after.number ≡ cut.number → KeepsGiven held (record { cut = Some after; last_cut = held.last_cut })
given_copying held cut after parts is stage same = λ number pages h. record {
  before = h.before;
  same = λ e.
      let was = subst (λ o. IfSome o (λ (c : HeldCut). c.number ≡ number → (is_phase (phase_of c.stage) phase.Copying ≡ false) × ((beside_stage c.stage).pages ≡ pages))) is h.same (sym same ∙ e) in
      let bad : true ≡ false = sym (ap (λ s. is_phase (phase_of s) phase.Copying) stage) ∙ was.0 in absurd cc;
}

-- a new cut has another number
pub given_anew : (held : Held) (cut : HeldCut) → cut.number ≡ held.last_cut + 1 → KeepsGiven held (record { cut = Some cut; last_cut = held.last_cut + 1 })
given_anew held cut is = λ number pages h. record {
  before = (let b = h.before in omega (arith, b));
  same = λ e. let b = h.before in absurd (omega (arith, b, e, is));
}

-- a cut that is closed has given itself
pub given_out : (held : Held) (cut : HeldCut) (parts : CutParts) (closed : ClosedParts) (after : HeldCut) (w : World) → held.cut ≡ Some cut → cut.stage ≡ Copying parts → closed ≡ record { number = parts.number; pages = parts.pages }
    → phase_of after.stage ≡ phase.Closed → (beside_stage after.stage).pages ≡ closed.pages → Holds held w
    → HeldGiven (record { cut = Some after; last_cut = held.last_cut }) closed.number closed.pages
given_out held cut parts closed after w is stage closed_is phase_is pages_is h =
    let c = there w cut w.cut (subst (λ o. IsHeld w o w.cut) is h.cut) in
    let own : IsStage w cut.number (Copying parts) = subst (IsStage w cut.number) stage c.2.stage in
    let number : closed.number ≡ cut.number = ap (λ (x : ClosedParts). x.number) closed_is ∙ own.0 in
    record {
      before = subst (λ n. n ≤ held.last_cut) (sym number) (subst (λ n. cut.number ≤ n) (sym h.last) c.2.before);
      same = λ e. (ap (λ p. is_phase p phase.Copying) phase_is, pages_is);
    }

-- ---- what is held and what the world has

pub given_seen : (held : Held) (w : World) (number : ℕ) (pages : List CutPage) → Holds held w → HeldGiven held number pages → HasGiven w (beside_of held.cut) number pages
given_seen held w number pages h g = record { before = subst (λ n. number ≤ n) h.last g.before; same = by held.cut w.cut h.cut g.same }
  where
    by : (a : Option HeldCut) (b : Option OpenedCut) → IsHeld w a b
        → IfSome a (λ (c : HeldCut). c.number ≡ number → (is_phase (phase_of c.stage) phase.Copying ≡ false) × ((beside_stage c.stage).pages ≡ pages))
        → IfSome b (λ (c : OpenedCut). c.number ≡ number → (is_phase c.phase phase.Copying ≡ false) × ((beside_of a).pages ≡ pages))
    by a None is same = tt
    by None (Some c) is same = absurd is
    by (Some a) (Some c) is same = λ e. let s = same (is.number ∙ e) in (ap (λ p. is_phase p phase.Copying) (sym is.phase) ∙ s.0, s.1)

pub given_held : (held : Held) (w : World) (number : ℕ) (pages : List CutPage) → Holds held w → HasGiven w (beside_of held.cut) number pages → HeldGiven held number pages
given_held held w number pages h g = record { before = subst (λ n. number ≤ n) (sym h.last) g.before; same = by held.cut w.cut h.cut g.same }
  where
    by : (a : Option HeldCut) (b : Option OpenedCut) → IsHeld w a b
        → IfSome b (λ (c : OpenedCut). c.number ≡ number → (is_phase c.phase phase.Copying ≡ false) × ((beside_of a).pages ≡ pages))
        → IfSome a (λ (c : HeldCut). c.number ≡ number → (is_phase (phase_of c.stage) phase.Copying ≡ false) × ((beside_stage c.stage).pages ≡ pages))
    by None b is same = tt
    by (Some a) None is same = absurd is
    by (Some a) (Some c) is same = λ e. let s = same (sym is.number ∙ e) in (ap (λ p. is_phase p phase.Copying) is.phase ∙ s.0, s.1)

-- so what is kept of the one is kept of the other
pub keeps_seen : (old new : Held) (w after : World) (number : ℕ) (pages : List CutPage) → KeepsGiven old new → Holds old w → Holds new after → HasGiven w (beside_of old.cut) number pages → HasGiven after (beside_of new.cut) number pages
keeps_seen old new w after number pages k h next g = given_seen new after number pages next (k number pages (given_held old w number pages h g))

-- ---- marks

closed_phase : (p : Phase) → is_phase p phase.Closed ≡ true → p ≡ phase.Closed
closed_phase phase.Closed e = refl
closed_phase phase.Copying e = absurd cc
closed_phase phase.Sweeping e = absurd cc

still_beside_closed : (stage : Stage) (marked : MarkedParts) → is_phase (phase_of stage) phase.Closed ≡ true → marked.cut.pages ≡ (beside_stage stage).pages → beside_stage stage ≡ beside_stage (Sweeping marked)
still_beside_closed (Copying c) marked e pages = absurd cc
still_beside_closed (Sweeping m) marked e pages = absurd cc
still_beside_closed (Closed given) marked e pages = λ i. record { pages = sym pages i; starts = root_name ∷ [] }

abbrev mark_causes : Option ℕ → OpenedCut → List (Option Refusal)
mark_causes number cut = wrong_phase cut phase.Closed ∷ wrong_marks cut number ∷ []

pub no_cut_to_mark : (held : Held) (w : World) (workers : ℕ) (number : Option ℕ) → held.cut ≡ None → Holds held w → w.broken ≡ None → first_refusal w (Mark workers) (marks number) ≡ Some NoCut
no_cut_to_mark held w workers number none h calm =
    on_cut_none w.broken w.cut (mark_causes number) calm (not_there w w.cut (subst (λ o. IsHeld w o w.cut) none h.cut))

pub wrong_to_mark : (held : Held) (cut : HeldCut) (w : World) (workers : ℕ) (number : Option ℕ) → held.cut ≡ Some cut → is_phase (phase_of cut.stage) phase.Closed ≡ false → Holds held w → w.broken ≡ None
    → first_refusal w (Mark workers) (marks number) ≡ Some (WrongPhase (phase_of cut.stage))
wrong_to_mark held cut w workers number is other h calm =
    let c = there w cut w.cut (subst (λ o. IsHeld w o w.cut) is h.cut) in
    on_cut_some w.broken w.cut c.0 (mark_causes number) calm c.1
    ∙ (ap (λ p. first_met (when (not (is_phase p phase.Closed)) (WrongPhase p) ∷ wrong_marks c.0 number ∷ [])) (sym c.2.phase)
    ∙ ap (λ b. first_met (when (not b) (WrongPhase (phase_of cut.stage)) ∷ wrong_marks c.0 number ∷ [])) other)

module _ (held : Held) (cut : HeldCut) (w : World) (is : held.cut ≡ Some cut) (right : is_phase (phase_of cut.stage) phase.Closed ≡ true) (h : Holds held w) where
  abbrev marked_cut : (c : OpenedCut) × (w.cut ≡ Some c) × IsHeldCut w cut c
  marked_cut = there w cut w.cut (subst (λ o. IsHeld w o w.cut) is h.cut)

  mark_first : (workers : ℕ) (number : Option ℕ) → w.broken ≡ None → first_refusal w (Mark workers) (marks number) ≡ first_met (wrong_marks marked_cut.0 number ∷ [])
  mark_first workers number calm =
      on_cut_some w.broken w.cut marked_cut.0 (mark_causes number) calm marked_cut.1
      ∙ ap (λ b. first_met (when (not b) (WrongPhase marked_cut.0.phase) ∷ wrong_marks marked_cut.0 number ∷ [])) (ap (λ p. is_phase p phase.Closed) (sym marked_cut.2.phase) ∙ right)

  pub other_marks : (workers number : ℕ) → w.broken ≡ None → cut.number ≢ number → first_refusal w (Mark workers) (marks (Some number)) ≡ Some (OtherCut cut.number)
  other_marks workers number calm other =
      mark_first workers (Some number) calm
      ∙ (ap (λ n. first_met (when (not (n == number)) (OtherCut n) ∷ [])) (sym marked_cut.2.number)
      ∙ ap (λ b. first_met (when (not b) (OtherCut cut.number) ∷ [])) (ne_eqb cut.number number other))

  pub no_marks : (workers : ℕ) → w.broken ≡ None → first_refusal w (Mark workers) (marks None) ≡ Some NoMemory
  no_marks workers calm = mark_first workers None calm

  pub closed_number : IsSomeAnd w.cut (λ (c : OpenedCut). (c.number ≡ cut.number) × (c.phase ≡ phase.Closed))
  closed_number = subst (λ o. IsSomeAnd o (λ (c : OpenedCut). (c.number ≡ cut.number) × (c.phase ≡ phase.Closed))) (sym marked_cut.1) (sym marked_cut.2.number, closed_phase marked_cut.0.phase (ap (λ p. is_phase p phase.Closed) (sym marked_cut.2.phase) ∙ right))

  pub marks_hold : (marked : MarkedParts) (workers : ℕ) → w.broken ≡ None → cut.number ≡ marked.cut.number → marked.cut.pages ≡ (beside_stage cut.stage).pages
      → CutAnswers (record { cut = Some (record { number = cut.number; stage = Sweeping marked; swept = cut.swept }); last_cut = held.last_cut }) w (Mark workers) (marks (Some marked.cut.number)) Done
  marks_hold marked workers calm number pages =
      let allowed : AllowsReply w (Mark workers) (marks (Some marked.cut.number)) Done = (
        mark_first workers (Some marked.cut.number) calm
            ∙ ap (λ b. first_met (when (not b) (OtherCut marked_cut.0.number) ∷ [])) (eq-eqb marked_cut.0.number marked.cut.number (sym marked_cut.2.number ∙ number)),
        refl,
      ) in
      let same : beside_stage (Sweeping marked) ≡ beside_of held.cut = sym (ap beside_of is ∙ still_beside_closed cut.stage marked right pages) in
      record {
        allowed = allowed;
        holds = record {
          some = h.some;
          few = h.few;
          last = h.last;
          cut = subst (λ o. IsHeld (after_reply w (Mark workers) (marks (Some marked.cut.number)) Done) (Some (record { number = cut.number; stage = Sweeping marked; swept = cut.swept })) (option_map (λ (c : OpenedCut). record c { phase = phase.Sweeping }) o)) (sym marked_cut.1) (record {
            number = marked_cut.2.number;
            before = marked_cut.2.before;
            phase = refl;
            stage = sym number;
            count = marked_cut.2.count;
            swept = marked_cut.2.swept;
          });
          standing = subst (IsStanding (after_reply w (Mark workers) (marks (Some marked.cut.number)) Done)) (sym same)
              (event_stands w (Mark workers) (marks (Some marked.cut.number)) Done (beside_of held.cut) (beside_of held.cut) h.standing allowed
              (turns_still w (Mark workers) Done (beside_of held.cut) refl));
        };
      }

-- ---- the store beside another cut

other_rest : (w : World) (call : Call) (note : Note) (why : Refusal) → why ≢ DiskFault → IsButForCut w (after_refusal w call note why)
other_rest w call note DiskFault other = absurd (other refl)
other_rest w call note _ other = (w.cut, w.last_cut, refl)

pub closed_rest : (w : World) (answer : Result ClosedParts Refusal) → ((why : Refusal) → answer ≡ Err why → why ≢ DiskFault) → IsButForCut w (after_reply w Close (closed_note answer) (closed_reply answer))
closed_rest w (Ok cut) other = (_, _, refl)
closed_rest w (Err why) other = other_rest w Close nothing why (other why refl)

pub marked_rest : (w : World) (workers : ℕ) (number : Option ℕ) (answer : Result (Unit {0}) (MarkedParts × Refusal)) → ((why : Refusal) → marked_reply answer ≡ Refused why → why ≢ DiskFault)
    → IsButForCut w (after_reply w (Mark workers) (marks number) (marked_reply answer))
marked_rest w workers number (Ok done) other = (_, _, refl)
marked_rest w workers number (Err back) other = other_rest w (Mark workers) (marks number) back.1 (other back.1 refl)

refused_noted : (why : Refusal) → why ≢ DiskFault → has_note Close (Refused why) nothing ≡ true
refused_noted DiskFault other = absurd (other refl)
refused_noted _ other = refl

pub close_noted : (answer : Result ClosedParts Refusal) → ((why : Refusal) → answer ≡ Err why → why ≢ DiskFault) → has_note Close (closed_reply answer) (closed_note answer) ≡ true
close_noted (Ok cut) other = refl
close_noted (Err why) other = refused_noted why (other why refl)

pub mark_noted : (workers : ℕ) (number : Option ℕ) (why : Refusal) → why ≢ DiskFault → has_note (Mark workers) (Refused why) (marks number) ≡ true
mark_noted workers number DiskFault other = absurd (other refl)
mark_noted workers number _ other = refl

pub marked_noted : (workers : ℕ) (number : Option ℕ) (answer : Result (Unit {0}) (MarkedParts × Refusal)) → ((why : Refusal) → marked_reply answer ≡ Refused why → why ≢ DiskFault)
    → has_note (Mark workers) (marked_reply answer) (marks number) ≡ true
marked_noted workers number (Ok done) other = refl
marked_noted workers number (Err back) other = mark_noted workers number back.1 (other back.1 refl)

module _ {D : Type 0} (disks : DiskOf D) where
  pub keeps_beside : (store : Store D) (new : Held) (w : World) (call : Call) (note : Note) (reply : Reply) → store.broken ≡ None → Stands disks store w → IsButForCut w (after_reply w call note reply)
      → CutAnswers new w call note reply → StandsWithCut disks store new (after_reply w call note reply)
  keeps_beside store new w call note reply whole h rest answers = record {
    stands = subst (Stands disks store) (sym rest.2) (stands_beside disks store w rest.0 rest.1 (sym h.broken ∙ whole) h (subst IsLawful rest.2 answers.holds.standing.lawful));
    holds = answers.holds;
  }

-- a held cut, written out
pub given_as : (held : Held) (cut : HeldCut) (number : ℕ) (pages : List CutPage) → held.cut ≡ Some cut → HeldGiven held number pages → HeldGiven (record { cut = Some cut; last_cut = held.last_cut }) number pages
given_as held cut number pages is h = record {
  before = h.before;
  same = subst (λ o. IfSome o (λ (c : HeldCut). c.number ≡ number → (is_phase (phase_of c.stage) phase.Copying ≡ false) × ((beside_stage c.stage).pages ≡ pages))) is h.same;
}

-- marks of the cut that was given out are of the present one
pub marks_of_given : (w : World) (b : CutBeside) (closed : ClosedParts) (marked : MarkedParts) → marked.cut ≡ closed → HasGiven w b closed.number closed.pages → AreOfTheCut w b marked
marks_of_given w b closed marked is given = by w.cut given.same
  where
    by : (o : Option OpenedCut) → IfSome o (λ (c : OpenedCut). c.number ≡ closed.number → (is_phase c.phase phase.Copying ≡ false) × (b.pages ≡ closed.pages)) → IfSome o (λ (c : OpenedCut). c.number ≡ marked.cut.number → marked.cut.pages ≡ b.pages)
    by None same = tt
    by (Some c) same = λ e. ap (λ (x : ClosedParts). x.pages) is ∙ sym (same (e ∙ ap (λ (x : ClosedParts). x.number) is)).1
