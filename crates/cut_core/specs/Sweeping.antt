-- Why a page isn't swept.
use Rattle.std.specs.Prelude.{ℕ, not, [], ◌∷◌, Option, false, length, slice_index_or, nat_lt}
use Rattle.object_graph.specs.declared.calls.Phase.TheVariants.{Sweeping}
use Rattle.object_graph.specs.declared.calls.Refusal.{Refusal}
use Rattle.object_graph.specs.declared.calls.Refusal.TheVariants.{WrongPhase, NoPage, AlreadySwept}
use Rattle.store_model.specs.Causes.{first_met, when, is_phase}
use Rattle.cut_core.specs.Holding.{phase_of}
use Rattle.cut_core.specs.declared.held.HeldCut.{HeldCut}

-- the first cause that is met, in this order
abbrev pub sweep_refusal : HeldCut → ℕ → Option Refusal
sweep_refusal held page =
    first_met (when (not (is_phase (phase_of held.stage) Sweeping)) (WrongPhase (phase_of held.stage))
    ∷ when (not (nat_lt page (length held.swept.items))) NoPage
    ∷ when (slice_index_or held.swept.items page false) (AlreadySwept page) ∷ [])
