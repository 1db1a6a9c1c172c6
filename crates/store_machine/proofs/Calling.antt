-- Calls that the core answers by itself.
use Rattle.std.proofs.Common.{◌≡◌, ◌∙◌, ℕ, inl, inr, refl, sym, ap, subst, false, Option}
use Rattle.object_graph.specs.declared.calls.Call.{Call}
use Rattle.object_graph.specs.declared.calls.Call.TheVariants.{HandIn, OpenCut, Copy, Close, Mark, EndCut, DropCut, Reopen}
use Rattle.cut_core.specs.Calls.{IsBuilt}
use Rattle.store_machine.specs.Calls.{IsOfScript}
use Rattle.object_graph.specs.declared.calls.Reply.{Reply}
use Rattle.object_graph.specs.declared.calls.Reply.TheVariants.{Refused}
use Rattle.store_model.specs.Worlds.{World}
use Rattle.store_model.specs.Replies.{Allows}
use Rattle.store_model.specs.Steps.{next}
use Rattle.cut_builder.specs.CutParts.{ClosedParts}
use Rattle.cut_core.specs.Calls.{event_of, note_of}
use Rattle.cut_core.specs.Seen.{Seen}
use Rattle.store_machine.specs.Calls.{takes_cut}
use Rattle.store_machine.specs.Kept.{IsUnclosed, KeepsClosed}
use Rattle.store_machine.proofs.Keeping.{LeavesPhase, StaysGiven, seal_of, refused_seal, reply_seal, kept_on, none_kept, opens_none}

-- a call of a script but for three
pub of_core : (call : Call) → IsOfScript call → (call ≡ Close → ⊥) → ((workers : ℕ) → call ≡ Mark workers → ⊥) → (call ≡ Reopen → ⊥) → IsBuilt call
of_core (HandIn page cut seen) script a b c = absurd script
of_core Close script a b c = absurd (a refl)
of_core (Mark workers) script a b c = absurd (b workers refl)
of_core Reopen script a b c = absurd (c refl)
of_core OpenCut script a b c = inr tt
of_core (Copy page) script a b c = inr tt
of_core EndCut script a b c = inr tt
of_core DropCut script a b c = inr tt
of_core _ script a b c = inl tt

-- of those that the core answers only an opening changes the phase of a cut
pub leaves_phase : (call : Call) → IsBuilt call → (call ≡ OpenCut → ⊥) → LeavesPhase call
leaves_phase OpenCut built other = absurd (other refl)
leaves_phase Close built other = absurd (never built)
  where
    never : IsBuilt Close → ⊥
    never (inl x) = x
    never (inr x) = x
leaves_phase (Mark workers) built other = absurd (never built)
  where
    never : IsBuilt (Mark workers) → ⊥
    never (inl x) = x
    never (inr x) = x
leaves_phase _ built other = tt

-- they leave a closed cut that is kept, unless they take it away
pub call_keeps : {D : Type 0} (s t : Seen D) (call : Call) (reply : Reply) (count : ℕ) (kept : Option ClosedParts) → IsBuilt call → Allows s.world (event_of call reply count)
    → t.world ≡ next s.world (event_of call reply count) → StaysGiven s t → takes_cut call reply ≡ false → KeepsClosed s kept → KeepsClosed t kept
call_keeps s t OpenCut (Refused why) count kept built allowed is given stays k =
    kept_on s t kept (ap seal_of is ∙ refused_seal s.world OpenCut (note_of (Refused why) count) why) given k
call_keeps s t OpenCut reply count kept built allowed is given stays k =
    subst (λ (c : Option ClosedParts). KeepsClosed t c) (sym (none_kept s kept (opens_none s.world (note_of reply count) reply allowed.1 refl) k))
    (subst (λ (w : World). IsUnclosed w) (sym is) (λ e. cc))
call_keeps s t call reply count kept built allowed is given stays k =
    kept_on s t kept (ap seal_of is ∙ reply_seal s.world call (note_of reply count) reply (leaves_phase call built (λ e. cc)) stays) given k
