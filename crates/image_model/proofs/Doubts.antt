-- Which files stand for a world in doubt.
use Rattle.std.proofs.Common.{◌≡◌, ℕ, List, subst}
use Rattle.store_model.specs.Worlds.{World, no_doubt, commit_in_doubt, sweep_in_doubt, transaction}
use Rattle.store_model.specs.Replies.{MayFreeNow}
use Rattle.store_model.specs.Steps.{swept}
use Rattle.store_model.specs.States.{State, state_of, state_after}
use Rattle.store_model.proofs.FoundStates.{always_a_state, only_state, done_by_commit, done_by_sweep}
use Rattle.image_model.specs.Stands.{StandsFor, StandsForWorld}

pub stands_as_before : (file : List ℕ) (w : World) → StandsFor file w.pages (state_of w) → StandsForWorld file w
stands_as_before file w h = record { state = state_of w; found = always_a_state w; stands = h }

pub stands_with_commit : (file : List ℕ) (w : World) (n : ℕ) → w.doubt ≡ commit_in_doubt n → StandsFor file w.pages (state_after w (transaction w n)) → StandsForWorld file w
stands_with_commit file w n e h = record { state = state_after w (transaction w n); found = done_by_commit w n e; stands = h }

pub stands_with_sweep : (file : List ℕ) (w : World) (page slots : ℕ) → w.doubt ≡ sweep_in_doubt page → MayFreeNow w page slots → StandsFor file w.pages (state_of (swept w page slots)) → StandsForWorld file w
stands_with_sweep file w page slots e may h = record { state = state_of (swept w page slots); found = done_by_sweep w page slots e may; stands = h }

-- without doubt there is one state
pub stands_undoubted : (file : List ℕ) (w : World) → w.doubt ≡ no_doubt → StandsForWorld file w → StandsFor file w.pages (state_of w)
stands_undoubted file w e h = subst (λ (s : State). StandsFor file w.pages s) (only_state w h.state e h.found) h.stands
