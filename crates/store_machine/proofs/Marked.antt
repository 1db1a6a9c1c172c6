-- Marks of the closed cut.
use Rattle.std.proofs.Common.{◌≡◌, ◌≢◌, refl, ap, ◌∙◌, subst, ℕ, Bool, true, false, not, ◌==◌, [], ◌∷◌, Option, Some, None}
use Rattle.std.specs.Prelude.{IfSome, IsSomeAnd, MatchOption, option_map, unwrap_or}
use Rattle.std.proofs.lemmas.Bool.{eq-eqb}
use Rattle.object_graph.specs.declared.calls.Phase.TheVariants.{Closed, Sweeping}
use Rattle.object_graph.specs.declared.calls.Call.{Call}
use Rattle.object_graph.specs.declared.calls.Call.TheVariants.{Mark}
use Rattle.object_graph.specs.declared.calls.Reply.TheVariants.{Refused}
use Rattle.object_graph.specs.declared.calls.Refusal.{Refusal}
use Rattle.object_graph.specs.declared.calls.Refusal.TheVariants.{NoCut, WrongPhase, OtherCut, Broken, DiskFault, Memory}
use Rattle.store_model.specs.Worlds.{World, OpenedCut, Note}
use Rattle.store_model.specs.Causes.{first_met, when, is_phase, wrong_phase, wrong_marks, other_cut}
use Rattle.store_model.specs.Replies.{Allows, is_free}
use Rattle.store_model.specs.Steps.{after_refusal}
use Rattle.cut_model.specs.Standing.{CutBeside}
use Rattle.cut_builder.specs.CutParts.{ClosedParts, MarkedParts}
use Rattle.cut_core.specs.Given.{mark_event}
use Rattle.store_machine.specs.Kept.{IsKeptCut}

-- the causes of a marking's refusal, over a world's break and cut
abbrev first_of : Option ℕ → Option OpenedCut → Option ℕ → Option Refusal
first_of b o given = first_met (option_map (λ count. Broken count) b ∷ unwrap_or (option_map (λ (cut : OpenedCut). wrong_phase cut Closed ∷ wrong_marks cut given ∷ []) o) (Some NoCut ∷ []))

-- ---- marking is no call of the disk

by_number : (t : Bool) (now : ℕ) → MatchOption (first_met (when t (OtherCut now) ∷ [])) (false ≡ true) (λ first. DiskFault ≡ first) → ⊥
by_number true now r = cc
by_number false now r = cc

by_phase : (t : Bool) (cut : OpenedCut) (given : Option ℕ) → MatchOption (first_met (when t (WrongPhase cut.phase) ∷ wrong_marks cut given ∷ [])) (false ≡ true) (λ first. DiskFault ≡ first) → ⊥
by_phase true cut given r = cc
by_phase false cut None r = cc
by_phase false cut (Some n) r = by_number (not (cut.number == n)) cut.number r

no_fault : (b : Option ℕ) (o : Option OpenedCut) (given : Option ℕ) → MatchOption (first_of b o given) (false ≡ true) (λ first. DiskFault ≡ first) → ⊥
no_fault (Some count) o given r = cc
no_fault None None given r = cc
no_fault None (Some cut) given r = by_phase (not (is_phase cut.phase Closed)) cut given r

pub mark_never_fails : (w : World) (workers : ℕ) (given : Option ℕ) (why : Refusal) → Allows w (mark_event workers given (Refused why)) → why ≢ DiskFault
mark_never_fails w workers given DiskFault allowed is = no_fault w.broken w.cut given allowed.1
mark_never_fails w workers given _ allowed is = cc

pub refused_same : (w : World) (call : Call) (note : Note) (why : Refusal) → why ≢ DiskFault → w ≡ after_refusal w call note why
refused_same w call note DiskFault other = absurd (other refl)
refused_same w call note _ other = refl

pub refused_other : (why : Refusal) → why ≢ DiskFault → Refused why ≢ Refused DiskFault
refused_other DiskFault other is = other refl
refused_other _ other is = cc

-- ---- marks of the closed cut are taken

not_free : (workers : ℕ) (why : Refusal) → is_free (Mark workers) why ≡ false
not_free workers Memory = refl
not_free workers DiskFault = refl
not_free workers _ = refl

none_met : (cut : OpenedCut) (n : ℕ) → cut.number ≡ n → cut.phase ≡ Closed → first_met (wrong_phase cut Closed ∷ other_cut cut n ∷ []) ≡ None
none_met cut n number phase =
    ap (λ p. first_met (when (not (is_phase p Closed)) (WrongPhase p) ∷ other_cut cut n ∷ [])) phase
    ∙ ap (λ b. first_met (when (not b) (OtherCut cut.number) ∷ [])) (let z : (cut.number == n) ≡ true = eq-eqb cut.number n number in z)

taken : (b : Option ℕ) (o : Option OpenedCut) (n : ℕ) (free : Bool) (why : Refusal) → free ≡ false → IsSomeAnd o (λ cut. (cut.number ≡ n) × (cut.phase ≡ Closed))
    → MatchOption (first_of b o None) (false ≡ true) (λ first. Memory ≡ first) → MatchOption (first_of b o (Some n)) (free ≡ true) (λ first. why ≡ first) → ⊥
taken (Some count) o n free why none k may r = cc
taken None None n free why none k may r = k
taken None (Some cut) n free why none k may r =
    let t : free ≡ true = subst (λ (x : Option Refusal). MatchOption x (free ≡ true) (λ first. why ≡ first)) (none_met cut n k.0 k.1) r in cc

pub never_refused : (w : World) (b : CutBeside) (kept : ClosedParts) (back : MarkedParts × Refusal) → IsKeptCut w b kept → ((count : ℕ) → Allows w (mark_event count None (Refused Memory)))
    → ((workers : ℕ) → Allows w (mark_event workers (Some kept.number) (Refused back.1))) → ⊥
never_refused w b kept back k may allowed =
    taken w.broken w.cut kept.number (is_free (Mark 1) back.1) back.1 (not_free 1 back.1) k.closed (may 1).1 (allowed 1).1

-- ---- what the marks are of

pub present : (o : Option OpenedCut) (n : ℕ) → IsSomeAnd o (λ cut. (cut.number ≡ n) × (cut.phase ≡ Closed)) → IsSomeAnd o (λ cut. cut.number ≡ n)
present None n h = h
present (Some cut) n h = h.0

-- once they are given, no cut is closed
pub sweeping_now : (o : Option OpenedCut) → IfSome (option_map (λ (cut : OpenedCut). record cut { phase = Sweeping }) o) (λ cut. cut.phase ≢ Closed)
sweeping_now None = tt
sweeping_now (Some cut) = λ e. cc
