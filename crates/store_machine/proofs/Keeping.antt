-- What calls do to the closed cut that is kept.
use Rattle.std.proofs.Common.{◌≡◌, ◌≢◌, refl, sym, ap, ◌∙◌, subst, ℕ, Bool, true, false, not, ⊎_elim, List, ◌∷◌, Option, Some, None}
use Rattle.std.specs.Prelude.{is_some, IfSome, IsSomeAnd, option_map}
use Rattle.object_graph.specs.NameParts.{NameParts}
use Rattle.object_graph.specs.declared.calls.Phase.{Phase}
use Rattle.object_graph.specs.declared.calls.Phase.TheVariants.{Closed}
use Rattle.object_graph.specs.declared.calls.Call.{Call}
use Rattle.object_graph.specs.declared.calls.Call.TheVariants.{New, OpenCut, Copy, HandIn, Close, Mark, Sweep, EndCut, DropCut, Reopen}
use Rattle.object_graph.specs.declared.calls.Reply.{Reply}
use Rattle.object_graph.specs.declared.calls.Reply.TheVariants.{Refused, Reopened}
use Rattle.object_graph.specs.declared.calls.Refusal.{Refusal}
use Rattle.object_graph.specs.declared.calls.Refusal.TheVariants.{DiskFault, CutThere, Broken}
use Rattle.store_model.specs.Worlds.{World, OpenedCut, Note}
use Rattle.store_model.specs.Causes.{new_name, first_met}
use Rattle.store_model.specs.Replies.{AllowsReply}
use Rattle.store_model.specs.Steps.{after_answer, after_refusal, after_reply, with_new, with_page, has_swept}
use Rattle.store_model.specs.Histories.{is_refused}
use Rattle.cut_model.specs.CutPages.{CutPage}
use Rattle.cut_builder.specs.CutParts.{ClosedParts}
use Rattle.cut_core.specs.Given.{HasGiven}
use Rattle.cut_core.specs.Seen.{Seen}
use Rattle.disk_trait.specs.declared.disk.Disk.{Ghosts as DiskOf}
use Rattle.store_machine.specs.Acts.{Answered, FindsAnew, ReopensAnew, StepsTo, event_with}
use Rattle.store_machine.specs.Calls.{takes_cut}
use Rattle.store_machine.specs.Kept.{KeepsClosed}

-- ---- the number and the phase of a cut

abbrev pub seal : OpenedCut → ℕ × Phase
seal cut = (cut.number, cut.phase)

abbrev pub seal_of : World → Option (ℕ × Phase)
seal_of w = option_map seal w.cut

changed_seal : (o : Option OpenedCut) (change : OpenedCut → OpenedCut) → ((c : OpenedCut) → seal (change c) ≡ seal c) → option_map seal (option_map change o) ≡ option_map seal o
changed_seal None change same = refl
changed_seal (Some c) change same = ap (λ x. Some x) (same c)

new_seal : (w : World) (t : ℕ) (name : Option NameParts) → seal_of (with_new w t name) ≡ seal_of w
new_seal w t None = refl
new_seal w t (Some name) = refl

pub refused_seal : (w : World) (call : Call) (note : Note) (why : Refusal) → seal_of (after_refusal w call note why) ≡ seal_of w
refused_seal w call note DiskFault = refl
refused_seal w call note _ = refl

-- the calls that leave a cut's number and phase as they are, unless they take it away
abbrev pub LeavesPhase : Call → Type 0
LeavesPhase OpenCut = ⊥
LeavesPhase Close = ⊥
LeavesPhase (Mark workers) = ⊥
LeavesPhase call = Unit {0}

pub answered_seal : (w : World) (call : Call) (note : Note) (reply : Reply) → LeavesPhase call → is_refused reply ≡ false → takes_cut call reply ≡ false → seal_of (after_answer w call note reply) ≡ seal_of w
answered_seal w (New t page) note reply leaves given stays = new_seal w t (new_name w t page)
answered_seal w OpenCut note reply leaves given stays = absurd leaves
answered_seal w (Copy page) note reply leaves given stays = changed_seal w.cut (λ cut. record cut { copied = with_page page cut.copied }) (λ c. refl)
answered_seal w (HandIn page n seen) note reply leaves given stays = changed_seal w.cut (λ cut. record cut { copied = with_page page cut.copied }) (λ c. refl)
answered_seal w Close note reply leaves given stays = absurd leaves
answered_seal w (Mark workers) note reply leaves given stays = absurd leaves
answered_seal w (Sweep page) note reply leaves given stays = changed_seal w.cut (has_swept page) (λ c. refl)
answered_seal w EndCut note reply leaves given stays = absurd (let e : not (is_refused reply) ≡ false = stays in cc)
answered_seal w DropCut note reply leaves given stays = absurd (let e : not (is_refused reply) ≡ false = stays in cc)
answered_seal w Reopen note reply leaves given stays = absurd (let e : not (is_refused reply) ≡ false = stays in cc)
answered_seal w _ note reply leaves given stays = refl

pub reply_seal : (w : World) (call : Call) (note : Note) (reply : Reply) → LeavesPhase call → takes_cut call reply ≡ false → seal_of (after_reply w call note reply) ≡ seal_of w
reply_seal w call note (Refused why) leaves stays = refused_seal w call note why
reply_seal w call note reply leaves stays = answered_seal w call note reply leaves refl stays

-- ---- a cut that is kept goes on

unclosed_on : (o p : Option OpenedCut) → option_map seal p ≡ option_map seal o → IfSome o (λ cut. cut.phase ≢ Closed) → IfSome p (λ cut. cut.phase ≢ Closed)
unclosed_on None None same h = tt
unclosed_on None (Some d) same h = absurd cc
unclosed_on (Some c) None same h = tt
unclosed_on (Some c) (Some d) same h = λ e. h (let s : seal d ≡ seal c = cc in sym (ap (λ x. x.1) s) ∙ e)

closed_on : (n : ℕ) (o p : Option OpenedCut) → option_map seal p ≡ option_map seal o → IsSomeAnd o (λ cut. (cut.number ≡ n) × (cut.phase ≡ Closed)) → IsSomeAnd p (λ cut. (cut.number ≡ n) × (cut.phase ≡ Closed))
closed_on n None p same h = absurd h
closed_on n (Some c) None same h = absurd cc
closed_on n (Some c) (Some d) same h = let s : seal d ≡ seal c = cc in (ap (λ x. x.0) s ∙ h.0, ap (λ x. x.1) s ∙ h.1)

module _ {D : Type 0} where
  -- what was given out stays so
  abbrev pub StaysGiven : Seen D → Seen D → Type 0
  StaysGiven s t = (number : ℕ) (pages : List CutPage) → HasGiven s.world s.beside number pages → HasGiven t.world t.beside number pages

  pub kept_on : (s t : Seen D) (kept : Option ClosedParts) → seal_of t.world ≡ seal_of s.world → StaysGiven s t → KeepsClosed s kept → KeepsClosed t kept
  kept_on s t None same given k = unclosed_on s.world.cut t.world.cut same k
  kept_on s t (Some cut) same given k = record { out = given cut.number cut.pages k.out; closed = closed_on cut.number s.world.cut t.world.cut same k.closed }

  -- where no cut was there, none is kept
  pub none_kept : (s : Seen D) (kept : Option ClosedParts) → s.world.cut ≡ None → KeepsClosed s kept → kept ≡ None
  none_kept s None none k = refl
  none_kept s (Some cut) none k =
      absurd (subst (λ (o : Option OpenedCut). IsSomeAnd o (λ c. (c.number ≡ cut.number) × (c.phase ≡ Closed))) none k.closed)

  pub none_closed : (s : Seen D) → s.world.cut ≡ None → KeepsClosed s None
  none_closed s none = subst (λ (o : Option OpenedCut). IfSome o (λ cut. cut.phase ≢ Closed)) (sym none) tt

-- ---- a cut that opens, or is taken away

no_cut_there : (b : Option ℕ) (o : Option OpenedCut) (rest : List (Option Refusal))
    → first_met (option_map (λ count. Broken count) b ∷ option_map (λ (cut : OpenedCut). CutThere cut.number) o ∷ rest) ≡ None → o ≡ None
no_cut_there None None rest e = refl
no_cut_there None (Some cut) rest e = absurd cc
no_cut_there (Some n) o rest e = absurd cc

-- a cut opens only where none is there
pub opens_none : (w : World) (note : Note) (reply : Reply) → AllowsReply w OpenCut note reply → is_refused reply ≡ false → w.cut ≡ None
opens_none w note (Refused why) allowed given = absurd cc
opens_none w note reply allowed given = no_cut_there w.broken w.cut _ allowed.0

-- after the reply no cut is there
pub taken_none : (w : World) (call : Call) (note : Note) (reply : Reply) → takes_cut call reply ≡ true → (after_reply w call note reply).cut ≡ None
taken_none w call note (Refused why) takes = absurd (refused_takes call why takes)
  where
    refused_takes : (call : Call) (why : Refusal) → takes_cut call (Refused why) ≡ true → ⊥
    refused_takes EndCut why t = cc
    refused_takes DropCut why t = cc
    refused_takes Reopen why t = cc
    refused_takes _ why t = cc
taken_none w call note reply takes = answered_none w call note reply takes
  where
    answered_none : (w : World) (call : Call) (note : Note) (reply : Reply) → takes_cut call reply ≡ true → (after_answer w call note reply).cut ≡ None
    answered_none w EndCut note reply t = refl
    answered_none w DropCut note reply t = refl
    answered_none w Reopen note reply t = refl
    answered_none w _ note reply t = absurd cc

-- after a reopening that is answered no cut is there
finds_none : (w v : World) (reply : Reply) → FindsAnew w reply v → is_refused reply ≡ false → v.cut ≡ None
finds_none w v (Reopened commits) f given = ap (λ (x : World). x.cut) f.is
finds_none w v (Refused why) f given = absurd cc
finds_none w v _ f given = absurd f

pub reopened_none : (told : Bool) (w v : World) (reply : Reply) (note : Note) → StepsTo told w (event_with Reopen reply note) v → is_refused reply ≡ false → v.cut ≡ None
reopened_none told w v reply note s given =
    ⊎_elim (λ m. ap (λ (x : World). x.cut) m.1 ∙ taken_none w Reopen note reply (ap not given))
    (λ (o : (told ≡ false) × ReopensAnew w (event_with Reopen reply note) v). finds_none w v reply o.1.finds given) s.is

-- after one that isn't, it is as before
finds_seal : (w v : World) (reply : Reply) → FindsAnew w reply v → is_refused reply ≡ true → seal_of v ≡ seal_of w
finds_seal w v (Refused why) f refused = ap seal_of f
finds_seal w v _ f refused = absurd cc

pub reopened_seal : (told : Bool) (w v : World) (reply : Reply) (note : Note) → StepsTo told w (event_with Reopen reply note) v → is_refused reply ≡ true → seal_of v ≡ seal_of w
reopened_seal told w v reply note s refused =
    ⊎_elim (λ m. ap seal_of m.1 ∙ reply_seal w Reopen note reply tt (ap not refused))
    (λ (o : (told ≡ false) × ReopensAnew w (event_with Reopen reply note) v). finds_seal w v reply o.1.finds refused) s.is

module _ {D : Type 0} (disks : DiskOf D) where
  pub reopened_cut : (old new : Seen D) (reply : Reply) → Answered disks old new Reopen reply → is_refused reply ≡ false → new.world.cut ≡ None
  reopened_cut old new reply a given =
      ap (λ (x : World). x.cut) a.acts.runs.2 ∙ reopened_none (is_some (disks.content old.disk)) old.world a.acts.runs.0 reply a.note a.acts.runs.1 given

  pub reopened_same : (old new : Seen D) (reply : Reply) → Answered disks old new Reopen reply → is_refused reply ≡ true → seal_of new.world ≡ seal_of old.world
  reopened_same old new reply a refused =
      ap seal_of a.acts.runs.2 ∙ reopened_seal (is_some (disks.content old.disk)) old.world a.acts.runs.0 reply a.note a.acts.runs.1 refused
